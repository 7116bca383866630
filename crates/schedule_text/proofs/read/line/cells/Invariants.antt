use Rattle.std.proofs.Common.{◌≡◌, ◌++◌, length}
use Rattle.std.specs.List.{flat_map, AllByRecursion}
use Rattle.schedule_text.specs.ScheduleText.{CellFits}
use Rattle.schedule_text.specs.ReadSteps.{cell_text}
use Rattle.schedule_text.proofs.read.line.cells.Given as goal

abbrev pub invariant-loop-next : goal.invariant-loop-next
invariant-loop-next l = record { taken : l.text ≡ flat_map cell_text l.cells.items ++ l.rest; fit : AllByRecursion CellFits l.cells.items }

abbrev pub decreases-loop-next : goal.decreases-loop-next
decreases-loop-next l = length l.rest
