use Rattle.phase_schedule.proofs.Words.{◌≡◌, drop, first_found, length, unknown_of}
use Rattle.phase_schedule.proofs.cause.unknown_step.Given as goal

abbrev pub invariant-loop-i : goal.invariant-loop-i
invariant-loop-i l = first_found (unknown_of l.plan.parties (length l.plan.cells.items)) 0 l.steps ≡ first_found (unknown_of l.plan.parties (length l.plan.cells.items)) l.i (drop l.i l.steps)
