use Rattle.std.proofs.Common.{◌≡◌, ◌++◌, length}
use Rattle.std.specs.List.{flat_map, AllByRecursion}
use Rattle.schedule_text.specs.ScheduleText.{StepFits}
use Rattle.schedule_text.specs.ReadSteps.{step_text}
use Rattle.schedule_text.proofs.read.line.steps.Given as goal

abbrev pub invariant-loop-next : goal.invariant-loop-next
invariant-loop-next l = record { taken : l.text ≡ flat_map step_text l.steps ++ l.rest; fit : AllByRecursion StepFits l.steps }

abbrev pub decreases-loop-next : goal.decreases-loop-next
decreases-loop-next l = length l.rest
