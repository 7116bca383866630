use Rattle.phase_run.proofs.Sizes.{cells_count, steps_count}
use Rattle.phase_run.proofs.begin.begin.Goals as goal

pub begin_plan-requires-clause-cells : goal.begin_plan-requires-clause-cells
begin_plan-requires-clause-cells c = cells_count _ _ c.in_ok-plan.ensures.read.spelled c.requires

pub begin_plan-requires-clause-steps : goal.begin_plan-requires-clause-steps
begin_plan-requires-clause-steps c = steps_count _ _ c.in_ok-plan.ensures.read.spelled c.requires
