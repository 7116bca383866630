-- Small facts of truth values and numbers.
use Rattle.schedule_rules.proofs.Words.{ℕ, arith, ◌≡◌, Bool, true, refl, false, ◌⊎◌, ◌&&◌, ◌≢◌, ◌+◌, ◌≤◌, cond, ◌||◌, ◌==◌}

pub apart : true ≡ false → ⊥
apart x = cc

-- the first of two that both hold
pub first : (x y : Bool) → (x && y) ≡ true → x ≡ true
first x y e = grind arith

-- and the second
pub second : (x y : Bool) → (x && y) ≡ true → y ≡ true
second x y e = grind arith

-- one of two holds
pub one_of : (x y : Bool) → (x || y) ≡ true → (x ≡ true) ⊎ (y ≡ true)
one_of x y e = grind arith

-- the same number
pub same_number : (m n : ℕ) → m ≡ n → (m == n) ≡ true
same_number m n e = grind arith

-- a number that is found equal is the same
pub number_found : (m n : ℕ) → (m == n) ≡ true → m ≡ n
number_found m n e = grind arith

-- a number that another is not
pub other_number : (m n k : ℕ) → m ≡ n → n ≢ k → (m == k) ≡ false
other_number m n k e ne = grind arith

-- one more or the same
pub at_least : (b : Bool) (n : ℕ) → n ≤ cond b (n + 1) n
at_least true n = omega arith
at_least false n = omega arith

-- by whether a test holds
pub whether : {P : Type 0} (b : Bool) → (b ≡ true → P) → (b ≡ false → P) → P
whether true t f = t refl
whether false t f = f refl

-- numbers that are not found equal are not the same
pub numbers_apart : (m n : ℕ) → (m == n) ≡ false → n ≢ m
numbers_apart m n e = grind arith
