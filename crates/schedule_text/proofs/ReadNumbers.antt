-- A number that is read is the one whose digits stand at the front.
use Rattle.std.proofs.Common.{◌≡◌, ℕ, ◌+◌, ◌-◌, ◌*◌, ◌/◌, ◌%◌, ◌^◌, ◌<◌, ◌≤◌, zero, suc, Bool, true, false, ◌&&◌, cond, eqb, ltb, leb, List, [], ◌∷◌, ◌++◌, Some, None, refl, sym, ap, ◌∙◌, inl, inr, append_assoc, arith}
use Rattle.std.specs.Char.{is_ascii_digit}
use Rattle.std.specs.Fmt.{decimal}
use Rattle.std.proofs.lemmas.Bool.{eqb-true, eqb-false, ne_eqb, ltb-true, lt-ltb, le-ltb, leb-true, le-leb, lt-leb}
use Rattle.std.proofs.lemmas.Option.{some_pair_parts}
use Rattle.std.proofs.lemmas.Fmt.{decimal_digit, decimal_step, decimal_by_steps}
use Rattle.schedule_text.specs.ReadFields.{digits_from, number_at, name_at}
use Rattle.schedule_text.proofs.ReadWords.{chosen, went, bind_some}

both : (x y : Bool) → (x && y) ≡ true → (x ≡ true) × (y ≡ true)
both true true e = (refl, refl)
both true false e = absurd cc
both false y e = absurd cc

digit_is : (b : ℕ) → is_ascii_digit b ≡ true → (48 ≤ b) × (b ≤ 57)
digit_is b e = let p = both (leb 48 b) (leb b 57) e in (leb-true 48 b p.0, leb-true b 57 p.1)

digit_yes : (b : ℕ) → 48 ≤ b → b ≤ 57 → is_ascii_digit b ≡ true
digit_yes b low high = rw (le-leb 48 b low, le-leb b 57 high) refl

digit_no : (b : ℕ) → b < 48 → is_ascii_digit b ≡ false
digit_no b lt = rw (lt-leb 48 b lt) refl

-- ---- steps

pub digits_on : (n b : ℕ) (bytes : List ℕ) → is_ascii_digit b ≡ true → n * 10 + (b - 48) < 2 ^ 64 → digits_from n (b ∷ bytes) ≡ digits_from (n * 10 + (b - 48)) bytes
unfolding digits_from
digits_on n b bytes is lt = rw (is, lt-ltb (n * 10 + (b - 48)) (2 ^ 64) lt) refl

pub digits_end : (n b : ℕ) (bytes : List ℕ) → is_ascii_digit b ≡ false → digits_from n (b ∷ bytes) ≡ Some (n, b ∷ bytes)
unfolding digits_from
digits_end n b bytes is = rw is refl

pub digits_over : (n b : ℕ) (bytes : List ℕ) → is_ascii_digit b ≡ true → (n * 10 + (b - 48) < 2 ^ 64 → ⊥) → digits_from n (b ∷ bytes) ≡ None
unfolding digits_from
digits_over n b bytes is large =
    let le : 2 ^ 64 ≤ n * 10 + (b - 48) = omega arith in
    rw (is, le-ltb (n * 10 + (b - 48)) (2 ^ 64) le) refl

pub digits_all : (n : ℕ) → digits_from n [] ≡ Some (n, [])
unfolding digits_from
digits_all n = refl

number_begins : (b : ℕ) (bytes : List ℕ) → 48 < b → b ≤ 57 → number_at (b ∷ bytes) ≡ digits_from (b - 48) bytes
unfolding number_at
number_begins b bytes low high =
    let ne : b ≡ 48 → ⊥ = λ e. omega arith in
    let le : 48 ≤ b = omega arith in
    rw (ne_eqb b 48 ne, digit_yes b le high) refl

number_zero : (bytes : List ℕ) → number_at (48 ∷ bytes) ≡ Some (0, bytes)
unfolding number_at
number_zero bytes = refl

-- ---- what is read stands at the front

-- one digit more
decimal_more : (n b : ℕ) → 0 < n → 48 ≤ b → b ≤ 57 → n * 10 + (b - 48) < 2 ^ 64 → decimal (n * 10 + (b - 48)) ≡ decimal n ++ (b ∷ [])
decimal_more n b some low high lt =
    let m = n * 10 + (b - 48) in
    let front : m / 10 ≡ n = omega arith in
    let last : 48 + m % 10 ≡ b = omega arith in
    decimal_step m (omega arith) lt ∙ rw (front, last) refl

digits_take : (n : ℕ) (bytes : List ℕ) (m : ℕ) (rest : List ℕ) → 0 < n → n < 2 ^ 64 → digits_from n bytes ≡ Some (m, rest) → (decimal n ++ bytes ≡ decimal m ++ rest) × (m < 2 ^ 64)
unfolding digits_from
digits_take n [] m rest some lt e = let q = some_pair_parts n m [] rest e in (cc, omega arith)
digits_take n (b ∷ bytes) m rest some lt e =
    elim (went (is_ascii_digit b) (cond (ltb (n * 10 + (b - 48)) (2 ^ 64)) (digits_from (n * 10 + (b - 48)) bytes) None) (Some (n, b ∷ bytes)) (Some (m, rest)) e) [
      | inl p ↦
          let q = chosen (ltb (n * 10 + (b - 48)) (2 ^ 64)) (digits_from (n * 10 + (b - 48)) bytes) (m, rest) p.1 in
          let d = digit_is b p.0 in
          let small : n * 10 + (b - 48) < 2 ^ 64 = ltb-true _ _ q.0 in
          let t = digits_take (n * 10 + (b - 48)) bytes m rest (omega arith) small q.1 in
          let first : decimal n ++ (b ∷ bytes) ≡ decimal (n * 10 + (b - 48)) ++ bytes =
          sym (ap (λ (x : List ℕ). x ++ bytes) (decimal_more n b some d.0 d.1 small) ∙ append_assoc (decimal n) (b ∷ []) bytes) in
          (first ∙ t.0, t.1)
      | inr p ↦ let q = some_pair_parts n m (b ∷ bytes) rest p.1 in (cc, omega arith)
    ]

pub number_takes : (bytes : List ℕ) (m : ℕ) (rest : List ℕ) → number_at bytes ≡ Some (m, rest) → (bytes ≡ decimal m ++ rest) × (m < 2 ^ 64)
unfolding number_at
number_takes [] m rest e = absurd cc
number_takes (b ∷ bytes) m rest e =
    elim (went (eqb b 48) (Some (0, bytes)) (cond (is_ascii_digit b) (digits_from (b - 48) bytes) None) (Some (m, rest)) e) [
      | inl p ↦
          let q = some_pair_parts 0 m bytes rest p.1 in
          let h = eqb-true b 48 p.0 in
          let z = decimal_digit 0 (omega arith) in
          (rw (h, ← q.0, z, ← q.1) refl, omega arith)
      | inr p ↦
          let q = chosen (is_ascii_digit b) (digits_from (b - 48) bytes) (m, rest) p.1 in
          let d = digit_is b q.0 in
          let ne = eqb-false b 48 p.0 in
          let some : 0 < b - 48 = omega arith in
          let t = digits_take (b - 48) bytes m rest some (omega arith) q.1 in
          let one : decimal (b - 48) ≡ b ∷ [] = decimal_digit (b - 48) (omega arith) ∙ (let back : 48 + (b - 48) ≡ b = omega arith in rw back refl) in
          (ap (λ (x : List ℕ). x ++ bytes) (sym one) ∙ t.0, t.1)
    ]

-- ---- what stands at the front is read

Again : ℕ → List ℕ → Type 0
Again n ds = n < 2 ^ 64 → (rest : List ℕ) → (0 < n → number_at (ds ++ rest) ≡ digits_from n rest) × (n ≡ 0 → number_at (ds ++ rest) ≡ Some (0, rest))

again_one : (n : ℕ) → n < 10 → Again n ((48 + n) ∷ [])
unfolding Again
again_one n lt small rest = (
  λ some. number_begins (48 + n) rest (omega arith) (omega arith) ∙ (let back : 48 + n - 48 ≡ n = omega arith in rw back refl),
  λ none. let c : 48 + n ≡ 48 = omega arith in rw c (number_zero rest),
)

again_more : (n : ℕ) (ds : List ℕ) → 10 ≤ n → Again (n / 10) ds → Again n (ds ++ ((48 + n % 10) ∷ []))
unfolding Again
again_more n ds le ih small rest = (
  λ some.
      let value : n / 10 * 10 + (48 + n % 10 - 48) ≡ n = omega arith in
      ap number_at (append_assoc ds ((48 + n % 10) ∷ []) rest)
      ∙ (ih (omega arith) ((48 + n % 10) ∷ rest)).0 (omega arith)
      ∙ digits_on (n / 10) (48 + n % 10) rest (digit_yes (48 + n % 10) (omega arith) (omega arith)) (omega arith)
      ∙ rw value refl,
  λ none. absurd (omega arith),
)

again : (n : ℕ) → n < 2 ^ 64 → Again n (decimal n)
again = decimal_by_steps Again again_one again_more

pub number_again : (n c : ℕ) (more : List ℕ) → n < 2 ^ 64 → c < 48 → number_at (decimal n ++ (c ∷ more)) ≡ Some (n, c ∷ more)
unfolding Again
number_again zero c more small lt = (again zero small small (c ∷ more)).1 refl
number_again (suc n) c more small lt = (again (suc n) small small (c ∷ more)).0 (omega arith) ∙ digits_end (suc n) c more (digit_no c lt)

-- ---- numbers below 2^32

pub name_takes : (bytes : List ℕ) (m : ℕ) (rest : List ℕ) → name_at bytes ≡ Some (m, rest) → (bytes ≡ decimal m ++ rest) × (m < 2 ^ 32)
unfolding name_at
name_takes bytes m rest e =
    let b = bind_some (number_at bytes) (λ n. cond (ltb n.0 (2 ^ 32)) (Some n) None) (m, rest) e in
    let p = chosen (ltb b.0.0 (2 ^ 32)) (Some b.0) (m, rest) b.2 in
    let small = ltb-true b.0.0 (2 ^ 32) p.0 in
    let q = some_pair_parts b.0.0 m b.0.1 rest p.1 in
    let t = number_takes bytes b.0.0 b.0.1 b.1 in
    (t.0 ∙ cc, omega arith)

pub name_again : (n c : ℕ) (more : List ℕ) → n < 2 ^ 32 → c < 48 → name_at (decimal n ++ (c ∷ more)) ≡ Some (n, c ∷ more)
unfolding name_at
name_again n c more small lt =
    let wide : n < 2 ^ 64 = omega arith in
    rw (number_again n c more wide lt, lt-ltb n (2 ^ 32) small) refl
