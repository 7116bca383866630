use Rattle.std.proofs.Common.{◌≡◌, ◌++◌, length}
use Rattle.step_list.proofs.list.StepList.to_vec.Given as goal

abbrev pub invariant-loop-step : goal.invariant-loop-step
invariant-loop-step l = l.steps.items ++ l.left ≡ l.self

abbrev pub decreases-loop-step : goal.decreases-loop-step
decreases-loop-step l = length l.left
