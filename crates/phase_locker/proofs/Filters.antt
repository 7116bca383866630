-- Lists of parties: what a filter leaves, and how often a party is in a list.
use Rattle.std.proofs.Common.{◌≡◌, ◌≢◌, ◌==◌, ℕ, ◌+◌, ◌<◌, Bool, true, false, List, [], ◌∷◌, ◌++◌, length, refl, arith, ◌∙◌, ap, not, cond}
use Rattle.std.proofs.lemmas.Grind.{common_steps}
use Rattle.std.specs.Prelude.{filter}
pub use Rattle.phase_bits.proofs.Lists.{eq_self, occurs-append}
use Rattle.phase_locker.specs.Rows.{without, occurs}

pub ne_zero : (p x : ℕ) → p ≢ x → cond {A = ℕ} (p == x) 1 0 ≡ 0
ne_zero p x n = grind arith

pub apart : (p x : ℕ) → (x ≡ p → true ≡ false) → x ≢ p
apart p x h e = let q = h e in cc

pub apart' : (p x : ℕ) → (x ≡ p → false ≡ true) → x ≢ p
apart' p x h e = let q = h e in cc

pub kept : (fx fp : Bool) (p x : ℕ) (xs ys : List ℕ) → (x ≡ p → fx ≡ fp) → occurs p ys ≡ cond fp (occurs p xs) 0 → occurs p (cond fx (x ∷ ys) ys) ≡ cond fp (cond (x == p) 1 0 + occurs p xs) 0
kept true true p x xs ys h e = ap (λ n. cond (x == p) 1 0 + n) e
kept true false p x xs ys h e = rw (ne_zero x p (apart p x h)) (omega (arith, e))
kept false true p x xs ys h e = rw (ne_zero x p (apart' p x h)) (omega (arith, e))
kept false false p x xs ys h e = e

pub none_cond : (b : Bool) → 0 ≡ cond {A = ℕ} b 0 0
none_cond true = refl
none_cond false = refl

pub occurs-filter : (f : ℕ → Bool) (p : ℕ) (xs : List ℕ) → occurs p (filter f xs) ≡ cond (f p) (occurs p xs) 0
occurs-filter f p [] = none_cond (f p)
occurs-filter f p (x ∷ xs) = kept (f x) (f p) p x xs (filter f xs) (λ e. ap f e) (occurs-filter f p xs)

pub first_in : (x : ℕ) (xs : List ℕ) → 0 < occurs x (x ∷ xs)
first_in x xs = rw (eq_self x) (omega arith)

pub not_first : (p x : ℕ) (xs : List ℕ) → occurs p (x ∷ xs) ≡ 0 → (x == p) ≡ false
not_first p x xs h = grind arith

-- the list without a member that it does not have
pub without_absent : (p : ℕ) (xs : List ℕ) → occurs p xs ≡ 0 → without p xs ≡ xs
without_absent p [] h = refl
without_absent p (x ∷ xs) h =
    let c : (x == p) ≡ false = not_first p x xs h in
    rw c (ap (λ ys. x ∷ ys) (without_absent p xs (omega (arith, h))))

pub length-snoc : (ps : List ℕ) (p : ℕ) → length (ps ++ p ∷ []) ≡ length ps + 1
length-snoc ps p = grind (arith, common_steps)

pub other_cell : (c d : ℕ) → d ≢ c → (c == d) ≡ false
other_cell c d n = grind arith

pub turned : (b : Bool) (n : ℕ) → cond (not b) n 0 ≡ cond b 0 n
turned true n = refl
turned false n = refl

pub occurs-without : (p q : ℕ) (xs : List ℕ) → occurs q (without p xs) ≡ cond (q == p) 0 (occurs q xs)
occurs-without p q xs = occurs-filter (λ x. not (x == p)) q xs ∙ turned (q == p) (occurs q xs)

pub not_eq : (q p : ℕ) → q ≢ p → (q == p) ≡ false
not_eq q p n = grind arith
