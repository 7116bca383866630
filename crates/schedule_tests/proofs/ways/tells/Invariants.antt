use Rattle.phase_schedule.specs.Running.{IsRun}
use Rattle.schedule_tests.proofs.ways.tells.Given as goal

abbrev pub invariant-loop-line : goal.invariant-loop-line
invariant-loop-line l = record { is : IsRun l.run }
