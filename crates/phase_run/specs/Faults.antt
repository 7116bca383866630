-- Counts of faults.
use Rattle.std.specs.Prelude.{ℕ, ◌+◌, ◌-◌, ◌^◌, ◌≤◌, min}

-- where a count stops
abbrev pub most_faults : ℕ
most_faults = 2 ^ 64 - 1

-- a count of faults rose. One that stands at its greatest value counts as one that rose
abbrev pub Rose : ℕ → ℕ → Type 0
Rose old new = min (old + 1) most_faults ≤ new

-- one more, where counts stop at their greatest value
abbrev pub one_more : ℕ → ℕ
one_more n = min (n + 1) most_faults
