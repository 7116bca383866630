use Rattle.std.proofs.Common.{◌≡◌, length}
use Rattle.schedule_tests.proofs.ways.steps_of.Given as goal

abbrev pub invariant-loop-step : goal.invariant-loop-step
invariant-loop-step l = record { count : length l.steps.items ≡ l.step-index }
