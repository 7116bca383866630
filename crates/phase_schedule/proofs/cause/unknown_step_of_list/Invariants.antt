use Rattle.phase_schedule.proofs.Words.{◌+◌, ◌≡◌, first_found, length, unknown_of}
use Rattle.phase_schedule.proofs.cause.unknown_step_of_list.Given as goal

abbrev pub invariant-loop-step : goal.invariant-loop-step
invariant-loop-step l =
    record {
      rest : first_found (unknown_of l.plan.parties (length l.plan.cells.items)) 0 l.steps ≡ first_found (unknown_of l.plan.parties (length l.plan.cells.items)) l.n l.left;
      count : l.n + length l.left ≡ length l.steps;
    }

abbrev pub decreases-loop-step : goal.decreases-loop-step
decreases-loop-step l = length l.left
