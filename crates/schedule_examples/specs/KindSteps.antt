-- The steps of first schedules with cells of all kinds, for their texts.
use Rattle.std.specs.Prelude.{List, [], ◌∷◌, ◌++◌}
use Rattle.exit_registry.specs.declared.turns.Turned.{Turned}
use Rattle.schedule_rules.specs.Transcripts.{Schedule, Account}
use Rattle.schedule_rules.specs.declared.plan.CellPlan.{CellPlan}
use Rattle.schedule_rules.specs.declared.step.Step.{Step}
use Rattle.schedule_rules.specs.declared.transcript.Final.{Final}
use Rattle.schedule_examples.specs.Cells.{cell, once, leaking, own_cell, own_lazy_cell, lazy_cell, parking_lazy_exit_cell, leaking_cell, parking_dropped_cell, primed_cell, parking_primed_dropped_cell, untouched, initialized_with, finalized_with, was_done}
use Rattle.schedule_examples.specs.Words.{phase, try_get, get, init, read, write, fast_read, fast_write, try_read, try_write, fast_try_read, fast_try_write, primed_read, primed_write, primed_read_non_initializing, primed_write_non_initializing, again, made, look, release, exit, finished, finish_failed, finished_with, finish_failed_with, get_mut, get_mut_failing, try_get_mut, finalized_phase, value, read_guard, err_guard, running, done, empty_access, finalized_access, failed, cyclic, borrowed, missed, waiting, finalizing, round, not_owner, in_use}
use Rattle.schedule_examples.specs.Openings.{writes_first}
use Rattle.schedule_examples.specs.Examples.{Row, row, steps_of, lines_of}

-- a cell with a value from the start, from that to what its finalizer leaves
abbrev pub primed_rows : List Row
primed_rows =
    row (primed_read_non_initializing 0 0) err_guard
    ∷ row (look 0 0) (value 42)
    ∷ row (release 0 0) done
    ∷ row (read 0 0) running
    ∷ row (made 0 22) read_guard
    ∷ row (release 0 4) done
    ∷ row (exit 0) (round 1)
    ∷ row (exit 0) (finalizing 0)
    ∷ row (finished_with 0 0) finalized_phase
    ∷ row (primed_write 0 0) err_guard
    ∷ row (look 0 9) (value 0)
    ∷ row (read 0 0) finalized_access
    ∷ []

-- what the cell is left with
abbrev pub primed_finals : List Final
primed_finals = finalized_with 0 ∷ []

-- the turn of the exit that ended
abbrev pub primed_turns : List Turned
primed_turns = was_done 0 ∷ []

-- the schedule of these steps
abbrev pub primed_schedule : Schedule
primed_schedule = record { parties = 1; cells = parking_primed_dropped_cell 42 ∷ []; steps = steps_of primed_rows }

-- its transcript
abbrev pub primed_account : Account
primed_account = record { lines = lines_of primed_rows; finals = primed_finals; exits = primed_turns }

-- two cells of one party's own
abbrev pub own_rows : List Row
own_rows =
    writes_first 0 0 3
    ++ row (read 0 0) borrowed
    ∷ row (fast_read 0 0) missed
    ∷ row (read 1 0) not_owner
    ∷ row (get 0 1) running
    ∷ row (get 0 1) cyclic
    ∷ row (made 0 6) (value 6)
    ∷ []

-- what the cells are left with
abbrev pub own_finals : List Final
own_finals = untouched ∷ initialized_with 6 ∷ []

-- the schedule of these steps
abbrev pub own_schedule : Schedule
own_schedule = record { parties = 2; cells = own_cell 0 ∷ own_lazy_cell 0 ∷ []; steps = steps_of own_rows }

-- its transcript
abbrev pub own_account : Account
own_account = record { lines = lines_of own_rows; finals = own_finals; exits = [] }

-- a cell whose value is lent once nobody uses it, and one that is lent empty
abbrev pub lent_rows : List Row
lent_rows =
    writes_first 0 0 3
    ++ row (read 1 0) waiting
    ∷ row (get_mut 2 0 1 2) in_use
    ∷ row (release 0 1) done
    ∷ row (again 1) read_guard
    ∷ row (release 1 5) done
    ∷ row (get_mut 2 0 1 2) (value 3)
    ∷ row (try_get_mut 2 0 6) (value 2)
    ∷ row (try_get_mut 0 1 3) empty_access
    ∷ row (get_mut_failing 0 1 3) failed
    ∷ row (get_mut 0 1 8 3) (value 8)
    ∷ row (try_get 0 1) (value 3)
    ∷ []

-- what the cells are left with
abbrev pub lent_finals : List Final
lent_finals = initialized_with 6 ∷ initialized_with 3 ∷ []

-- the schedule of these steps
abbrev pub lent_schedule : Schedule
lent_schedule = record { parties = 3; cells = cell ∷ lazy_cell ∷ []; steps = steps_of lent_rows }

-- its transcript
abbrev pub lent_account : Account
lent_account = record { lines = lines_of lent_rows; finals = lent_finals; exits = [] }

-- each kind, place and option
abbrev pub worded_cells : List CellPlan
worded_cells =
    lazy_cell
    ∷ once parking_lazy_exit_cell
    ∷ own_cell 2
    ∷ leaking_cell
    ∷ once (leaking parking_dropped_cell)
    ∷ primed_cell 7
    ∷ once (leaking (parking_primed_dropped_cell 10))
    ∷ []

-- each call, each end of a finalizer, and values that are lent
abbrev pub worded_steps : List Step
worded_steps =
    phase 0 0
    ∷ try_get 0 0
    ∷ get 1 1
    ∷ init 0 2
    ∷ read 0 3
    ∷ write 0 3
    ∷ fast_read 0 4
    ∷ fast_write 0 4
    ∷ try_read 0 5
    ∷ try_write 0 5
    ∷ fast_try_read 0 6
    ∷ fast_try_write 0 6
    ∷ primed_read 0 5
    ∷ primed_write 0 5
    ∷ primed_read_non_initializing 0 6
    ∷ primed_write_non_initializing 0 6
    ∷ finished 2
    ∷ finished_with 2 0
    ∷ finish_failed 2
    ∷ finish_failed_with 2 10
    ∷ get_mut 0 0 11 12
    ∷ get_mut_failing 1 0 13
    ∷ try_get_mut 2 2 14
    ∷ []

-- the schedule of these steps
abbrev pub worded_schedule : Schedule
worded_schedule = record { parties = 3; cells = worded_cells; steps = worded_steps }
