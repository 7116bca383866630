-- How often a number is in a list.
use Rattle.std.proofs.Common.{◌≡◌, ℕ, ◌+◌, ◌==◌, true, List, [], ◌∷◌, ◌++◌, arith}
use Rattle.phase_bits.specs.Lists.{occurs}

-- a number is itself
pub eq_self : (n : ℕ) → (n == n) ≡ true
eq_self n = grind arith

-- a number is in two lists as often as in each, together
pub occurs-append : (n : ℕ) (ms ks : List ℕ) → occurs n (ms ++ ks) ≡ occurs n ms + occurs n ks
occurs-append n [] ks = omega arith
occurs-append n (m ∷ ms) ks = omega (arith, occurs-append n ms ks)
