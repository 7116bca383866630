-- A box whose object stays.
use Rattle.std.proofs.Common.{◌≡◌, ◌∙◌, ap}

-- what is made of the parts of a pair stays where the pair does
pub made_same {ℓ ℓ' ℓ''} : {I : Type ℓ} {D : I → Type ℓ'} {B : Type ℓ''} (make : (i : I) → D i → B) (i j : I) (d n : D i) (e : D j) → (let p : (x : I) × D x = (i, d) in p) ≡ (j, e) → n ≡ d → make i n ≡ make j e
made_same {I} {D} make i j d n e same stays = ap (λ x. make i x) stays ∙ ap (λ (p : (x : I) × D x). make p.0 p.1) same
