-- The words of a call.
use Rattle.std.proofs.Common.{◌≡◌, ◌<◌, ◌≤◌, List, [], ◌∷◌, map, length, get_or, ap, arith, sym}

-- a list of one element
pub one_element : {A : Type 0} {B : Type 0} (f : A → B) (words : List A) (w : A) → 1 ≤ length words → length words < 2 → w ≡ get_or words 0 w → map f words ≡ f w ∷ []
one_element f [] w low high is = absurd (omega arith)
one_element f (v ∷ []) w low high is = ap (λ u. f u ∷ []) (sym is)
one_element f (v ∷ u ∷ us) w low high is = absurd (omega arith)
