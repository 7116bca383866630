use Rattle.std.proofs.Common.{◌≡◌, take}
use Rattle.step_list.proofs.list.StepList.from_slice.Given as goal

abbrev pub invariant-loop-step : goal.invariant-loop-step
invariant-loop-step l = l.list ≡ take l.step-index l.steps
