-- What a test finds in a list, how many pass it, and what holds of each.
use Rattle.schedule_rules.proofs.Words.{ℕ, arith, List, ◌≡◌, Bool, true, refl, Some, false, ◌∷◌, [], None, subst, ◌<◌, ◌+◌, ◌≤◌, cond, AllByRecursion, find, ◌==◌, count, Section}
use Rattle.schedule_rules.proofs.Words.{without_innermost, Guard, without_guard, put_in}
use Rattle.schedule_rules.proofs.Facts.{whether}
use Rattle.schedule_rules.proofs.Opened.{put}

-- what a test finds is counted by each test that it passes
pub found_counts : {X : Type 0} (q p : X → Bool) (xs : List X) (x : X) → find q xs ≡ Some x → p x ≡ true → 0 < count p xs
found_counts q p [] x e t = cc
found_counts q p (y ∷ xs) x e t = grind (arith, found_counts q p xs x)

-- where only one passes a test, whatever finds it, it is what the test itself finds
pub only_one : {X : Type 0} (q p : X → Bool) (xs : List X) (x : X) → find q xs ≡ Some x → p x ≡ true → count p xs ≤ 1 → find p xs ≡ Some x
only_one q p [] x e t n = cc
only_one q p (y ∷ xs) x e t n = grind (arith, only_one q p xs x, found_counts q p xs x)

-- where none passes, nothing is found
pub none_found : {X : Type 0} (p : X → Bool) (xs : List X) → count p xs ≡ 0 → find p xs ≡ None
none_found p [] e = refl
none_found p (x ∷ xs) e = grind (arith, none_found p xs)

-- what is found passes
pub found_passes : {X : Type 0} (p : X → Bool) (xs : List X) (x : X) → find p xs ≡ Some x → p x ≡ true
found_passes p [] x e = cc
found_passes p (y ∷ xs) x e = grind (arith, found_passes p xs x)

-- what is not found is not counted
pub none_counted : {X : Type 0} (p : X → Bool) (xs : List X) → find p xs ≡ None → count p xs ≡ 0
none_counted p [] e = refl
none_counted p (x ∷ xs) e = grind (arith, none_counted p xs)

-- where none passes a test, what holds of those that do not pass holds of all
pub each_none : {X : Type 0} (t : X → Bool) (Q : X → Type 0) (xs : List X) → count t xs ≡ 0 → ((x : X) → t x ≡ false → Q x) → AllByRecursion Q xs
each_none t Q [] none f = tt
each_none {X} t Q (x ∷ xs) none f = whether (t x) (λ e. absurd (grind arith)) (λ e. (f x e, each_none t Q xs (grind arith) f))

-- a fact of each follows, where each that passes its own test is counted by it
pub each_counted : {X : Type 0} (t : X → X → Bool) (P Q : X → Type 0) (all xs : List X) → ((x : X) → count (t x) xs ≤ count (t x) all)
    → ((x : X) → (t x x ≡ true → 0 < count (t x) all) → P x → Q x) → AllByRecursion P xs → AllByRecursion Q xs
each_counted t P Q all [] le f ps = tt
each_counted {X} t P Q all (y ∷ ys) le f ps = (f y (λ e. here e (le y)) ps.0, each_counted t P Q all ys (λ x. rest x (le x)) f ps.1)
  where
    here : t y y ≡ true → cond (t y y) (count (t y) ys + 1) (count (t y) ys) ≤ count (t y) all → 0 < count (t y) all
    here e n = grind arith

    rest : (x : X) → cond (t x y) (count (t x) ys + 1) (count (t x) ys) ≤ count (t x) all → count (t x) ys ≤ count (t x) all
    rest x n = grind arith

-- a fact that follows from another holds of all
pub each_mapped : {X : Type 0} (P Q : X → Type 0) (xs : List X) → ((x : X) → P x → Q x) → AllByRecursion P xs → AllByRecursion Q xs
each_mapped P Q [] f ps = tt
each_mapped P Q (x ∷ xs) f ps = (f x ps.0, each_mapped P Q xs f ps.1)

-- what holds of all, holds of each
pub each_of : {X : Type 0} (P : X → Type 0) (xs : List X) → ((x : X) → P x) → AllByRecursion P xs
each_of P [] f = tt
each_of P (x ∷ xs) f = (f x, each_of P xs f)

-- what is found is one of them
pub each_found : {X : Type 0} (q : X → Bool) (P : X → Type 0) (xs : List X) (x : X) → find q xs ≡ Some x → AllByRecursion P xs → P x
each_found q P [] x e ps = absurd (cc)
each_found {X} q P (y ∷ xs) x e ps = by (q y) e (λ k. each_found q P xs x k ps.1)
  where
    same : (u w : X) → Some u ≡ Some w → P u → P w
    same u w k p = let s : u ≡ w = cc in subst P s p

    by : (b : Bool) → cond b (Some y) (find q xs) ≡ Some x → (find q xs ≡ Some x → P x) → P x
    by b k rest = grind (arith, same)

-- without the party's innermost section
pub each_ended : (P : Section → Type 0) (p : ℕ) (ss : List Section) → AllByRecursion P ss → AllByRecursion P (without_innermost p ss)
each_ended P p [] ps = tt
each_ended P p (s ∷ ss) ps =
    elim (s.party == p) as (λ b. AllByRecursion P (cond b ss (s ∷ without_innermost p ss))) [ true ↦ ps.1 | false ↦ (ps.0, each_ended P p ss ps.1) ]

-- without a guard
pub each_removed : (P : Guard → Type 0) (g : ℕ) (gs : List Guard) → AllByRecursion P gs → AllByRecursion P (without_guard g gs)
each_removed P g [] ps = tt
each_removed P g (x ∷ gs) ps =
    elim (x.number == g) as (λ b. AllByRecursion P (cond b gs (x ∷ without_guard g gs))) [ true ↦ ps.1 | false ↦ (ps.0, each_removed P g gs ps.1) ]

-- with a value set
pub each_put : (P : Guard → Type 0) (g v : ℕ) (gs : List Guard) → ((x : Guard) → P x → P (put v x)) → AllByRecursion P gs → AllByRecursion P (put_in g v gs)
each_put P g v [] f ps = tt
each_put P g v (x ∷ gs) f ps =
    elim (x.number == g) as (λ b. AllByRecursion P (cond b (put v x ∷ gs) (x ∷ put_in g v gs))) [ true ↦ (f x ps.0, ps.1) | false ↦ (ps.0, each_put P g v gs f ps.1) ]
