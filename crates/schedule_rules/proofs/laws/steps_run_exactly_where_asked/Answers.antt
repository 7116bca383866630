use Rattle.schedule_rules.proofs.Causes.{runs_where_asked}
use Rattle.schedule_rules.proofs.laws.steps_run_exactly_where_asked.Goals as goal

pub returns : goal.returns
returns c = runs_where_asked
