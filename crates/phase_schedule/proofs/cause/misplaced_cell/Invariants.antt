use Rattle.phase_schedule.proofs.Words.{◌≡◌, drop, first_found, misplaced_of}
use Rattle.phase_schedule.proofs.cause.misplaced_cell.Given as goal

abbrev pub invariant-loop-c : goal.invariant-loop-c
invariant-loop-c l = first_found (misplaced_of l.parties) 0 l.cells ≡ first_found (misplaced_of l.parties) l.c (drop l.c l.cells)
