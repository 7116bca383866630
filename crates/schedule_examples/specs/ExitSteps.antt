-- The steps of first schedules with an exit, for their texts.
use Rattle.std.specs.Prelude.{List, [], ◌∷◌}
use Rattle.exit_registry.specs.declared.turns.Turned.{Turned}
use Rattle.schedule_rules.specs.Transcripts.{Schedule, Account}
use Rattle.schedule_rules.specs.declared.transcript.Final.{Final}
use Rattle.schedule_examples.specs.Cells.{exit_cell, parking_exit_cell, leaking_cell, parking_once_leaking_cell, registered_with, leaked_with, left_declined, finalized_with, finalizer_failed_with, was_done, was_failed, was_skipped}
use Rattle.schedule_examples.specs.Words.{phase, read, write, made, release, exit, finished, finish_failed, registered_phase, finalized_phase, finalizer_failed_phase, read_guard, write_guard, running, done, declined_access, finalizing, skipped, round, closed, no_outcome, exit_begun, inside}
use Rattle.schedule_examples.specs.Examples.{Row, row, steps_of, lines_of}

-- a turn that comes before the value of its cell is published
abbrev pub skipping_rows : List Row
skipping_rows =
    row (read 0 0) running
    ∷ row (exit 1) (round 1)
    ∷ row (exit 1) (skipped 0)
    ∷ row (made 0 4) read_guard
    ∷ row (release 0 3) done
    ∷ row (exit 1) closed
    ∷ row (phase 1 0) registered_phase
    ∷ row (exit 1) exit_begun
    ∷ []

-- what the cell is left with
abbrev pub skipping_finals : List Final
skipping_finals = registered_with 4 ∷ []

-- the turn of the exit that ended
abbrev pub skipping_turns : List Turned
skipping_turns = was_skipped 0 ∷ []

-- the schedule of these steps
abbrev pub skipping_schedule : Schedule
skipping_schedule = record { parties = 2; cells = parking_exit_cell ∷ []; steps = steps_of skipping_rows }

-- its transcript
abbrev pub skipping_account : Account
skipping_account = record { lines = lines_of skipping_rows; finals = skipping_finals; exits = skipping_turns }

-- a turn whose finalizer fails, and one whose finalizer succeeds
abbrev pub finalizing_rows : List Row
finalizing_rows =
    row (write 0 0) running
    ∷ row (exit 0) inside
    ∷ row (finished 0) no_outcome
    ∷ row (made 0 1) write_guard
    ∷ row (release 0 3) done
    ∷ row (read 0 1) running
    ∷ row (made 0 2) read_guard
    ∷ row (release 0 6) done
    ∷ row (exit 1) (round 2)
    ∷ row (exit 1) (finalizing 1)
    ∷ row (finish_failed 1) finalizer_failed_phase
    ∷ row (exit 1) (finalizing 0)
    ∷ row (finished 1) finalized_phase
    ∷ row (exit 1) closed
    ∷ []

-- what the cells are left with
abbrev pub finalizing_finals : List Final
finalizing_finals = finalized_with 1 ∷ finalizer_failed_with 2 ∷ []

-- the turns of the exit that ended
abbrev pub finalizing_turns : List Turned
finalizing_turns = was_failed 1 ∷ was_done 0 ∷ []

-- the schedule of these steps
abbrev pub finalizing_schedule : Schedule
finalizing_schedule = record { parties = 2; cells = exit_cell ∷ parking_once_leaking_cell ∷ []; steps = steps_of finalizing_rows }

-- its transcript
abbrev pub finalizing_account : Account
finalizing_account = record { lines = lines_of finalizing_rows; finals = finalizing_finals; exits = finalizing_turns }

-- an exit without cells, and two cells that ask to be registered after it
abbrev pub closing_rows : List Row
closing_rows =
    row (exit 0) closed
    ∷ row (read 0 0) declined_access
    ∷ row (read 0 1) running
    ∷ row (made 0 9) read_guard
    ∷ row (exit 0) exit_begun
    ∷ []

-- what the cells are left with
abbrev pub closing_finals : List Final
closing_finals = left_declined ∷ leaked_with 9 ∷ []

-- no turn of the exit ended
abbrev pub closing_turns : List Turned
closing_turns = []

-- the schedule of these steps
abbrev pub closing_schedule : Schedule
closing_schedule = record { parties = 1; cells = exit_cell ∷ leaking_cell ∷ []; steps = steps_of closing_rows }

-- its transcript
abbrev pub closing_account : Account
closing_account = record { lines = lines_of closing_rows; finals = closing_finals; exits = closing_turns }
