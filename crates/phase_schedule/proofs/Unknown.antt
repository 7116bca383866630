-- What is found first in a list, as a walk over it finds it.
use Rattle.phase_schedule.proofs.Words.{[], ◌+◌, ◌<◌, ◌∙◌, ◌∷◌, ◌≡◌, ◌≤◌, ap, arith, common_steps, drop, first_cause, first_found, get_or, length, List, None, Option, RunError}
use Rattle.phase_schedule.proofs.Words.{Some, sym, ℕ}

-- the rest of a list from an index on
rest_at : {X : Type 0} (xs : List X) (i : ℕ) (d : X) → i < length xs → drop i xs ≡ get_or xs i d ∷ drop (i + 1) xs
rest_at xs i d lt = grind (arith, common_steps)

nothing_past : {X : Type 0} (xs : List X) (n : ℕ) → length xs ≤ n → drop n xs ≡ []
nothing_past xs n l = grind (arith, common_steps)

module _ {X : Type 0} (look : ℕ → X → Option RunError) (i : ℕ) (xs : List X) where
  -- one less to look at
  next : (d : X) → i < length xs → first_found look i (drop i xs) ≡ first_cause (look i (get_or xs i d)) (first_found look (i + 1) (drop (i + 1) xs))
  next d lt = ap (λ r. first_found look i r) (rest_at xs i d lt)

  -- something is found where the walk stands
  pub found : (d : X) → first_found look 0 xs ≡ first_found look i (drop i xs) → i < length xs → (e : RunError) → look i (get_or xs i d) ≡ Some e → Some e ≡ first_found look 0 xs
  found d rest lt e is =
      sym (rest ∙ next d lt ∙ ap (λ o. first_cause o (first_found look (i + 1) (drop (i + 1) xs))) is)

  -- nothing is found there
  pub later : (d : X) → first_found look 0 xs ≡ first_found look i (drop i xs) → i < length xs → look i (get_or xs i d) ≡ None →
      first_found look 0 xs ≡ first_found look (i + 1) (drop (i + 1) xs)
  later d rest lt is =
      rest ∙ next d lt ∙ ap (λ o. first_cause o (first_found look (i + 1) (drop (i + 1) xs))) is

  -- nothing is found at all
  pub none : first_found look 0 xs ≡ first_found look i (drop i xs) → length xs ≤ i → None ≡ first_found look 0 xs
  none rest le = sym (rest ∙ ap (λ r. first_found look i r) (nothing_past xs i le))
