-- The steps of first schedules, for their texts.
use Rattle.std.specs.Prelude.{List, [], ◌∷◌}
use Rattle.schedule_rules.specs.Transcripts.{Schedule, Account}
use Rattle.schedule_rules.specs.declared.transcript.Final.{Final}
use Rattle.schedule_examples.specs.Cells.{cell, once_cell, initialized_with, left_failed}
use Rattle.schedule_examples.specs.Words.{phase, read, write, made, made_failed, look, put, release, failed_phase, failed_access, value, read_guard, write_guard, running, done, failed}
use Rattle.schedule_examples.specs.Examples.{Row, row, steps_of, lines_of}

-- a schedule without parties, cells and steps
abbrev pub empty_schedule : Schedule
empty_schedule = record { parties = 0; cells = []; steps = [] }

-- its transcript
abbrev pub empty_account : Account
empty_account = record { lines = []; finals = []; exits = [] }

-- a read, a write that sets another value, and a read of that
abbrev pub first_rows : List Row
first_rows =
    row (read 0 0) running
    ∷ row (made 0 22) read_guard
    ∷ row (look 0 1) (value 22)
    ∷ row (release 0 1) done
    ∷ row (write 0 0) write_guard
    ∷ row (put 0 4 33) done
    ∷ row (release 0 4) done
    ∷ row (read 0 0) read_guard
    ∷ row (look 0 7) (value 33)
    ∷ []

-- what the cell is left with
abbrev pub first_finals : List Final
first_finals = initialized_with 33 ∷ []

-- the schedule of these steps
abbrev pub first_schedule : Schedule
first_schedule = record { parties = 1; cells = cell ∷ []; steps = steps_of first_rows }

-- its transcript
abbrev pub first_account : Account
first_account = record { lines = lines_of first_rows; finals = first_finals; exits = [] }

-- a run that fails in a cell without retry, and a read and a write after it
abbrev pub once_rows : List Row
once_rows =
    row (read 0 0) running
    ∷ row (made_failed 0) failed
    ∷ row (read 0 0) failed_access
    ∷ row (write 0 0) failed_access
    ∷ row (phase 0 0) failed_phase
    ∷ []

-- what the cell is left with
abbrev pub once_finals : List Final
once_finals = left_failed ∷ []

-- the schedule of these steps
abbrev pub once_schedule : Schedule
once_schedule = record { parties = 1; cells = once_cell ∷ []; steps = steps_of once_rows }

-- its transcript
abbrev pub once_account : Account
once_account = record { lines = lines_of once_rows; finals = once_finals; exits = [] }
