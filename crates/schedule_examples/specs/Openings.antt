-- Rows that many schedules begin with.
use Rattle.std.specs.Prelude.{ℕ, List, [], ◌∷◌, ◌++◌}
use Rattle.schedule_examples.specs.Words.{get, read, write, made, made_failed, release, exit, finished, finalized_phase, value, read_guard, write_guard, running, done, failed, finalizing, round, closed}
use Rattle.schedule_examples.specs.Examples.{Row, row}

-- the party writes the empty cell: its generator makes the value, and the party has a guard
abbrev pub writes_first : ℕ → ℕ → ℕ → List Row
writes_first p c v = row (write p c) running ∷ row (made p v) write_guard ∷ []

-- the same of a read
abbrev pub reads_first : ℕ → ℕ → ℕ → List Row
reads_first p c v = row (read p c) running ∷ row (made p v) read_guard ∷ []

-- the same, and the guard with this number is given back
abbrev pub fills : ℕ → ℕ → ℕ → ℕ → List Row
fills p c v g = reads_first p c v ++ row (release p g) done ∷ []

-- the party reads the empty cell, and its generator fails
abbrev pub fails_first : ℕ → ℕ → List Row
fails_first p c = row (read p c) running ∷ row (made_failed p) failed ∷ []

-- cells 0 and 1 have the values 4 and 5
abbrev pub two_filled : List Row
two_filled = fills 0 0 4 1 ++ fills 0 1 5 4

-- cell 0 has the value 4, and party 0 runs its finalizer
abbrev pub finalizes_first : List Row
finalizes_first = fills 0 0 4 1 ++ row (exit 0) (round 1) ∷ row (exit 0) (finalizing 0) ∷ []

-- the party gets the value of the empty cell, that its generator makes
abbrev pub gets_first : ℕ → ℕ → ℕ → List Row
gets_first p c v = row (get p c) running ∷ row (made p v) (value v) ∷ []

-- the party asks for the value, and the generator fails
abbrev pub fails_to_get : ℕ → ℕ → List Row
fails_to_get p c = row (get p c) running ∷ row (made_failed p) failed ∷ []

-- the turn of the cell comes, and its finalizer succeeds
abbrev pub finalizes : ℕ → ℕ → List Row
finalizes p c = row (exit p) (finalizing c) ∷ row (finished p) finalized_phase ∷ []

-- the only look of an exit finds nothing
abbrev pub closes : ℕ → List Row
closes p = row (exit p) closed ∷ []
