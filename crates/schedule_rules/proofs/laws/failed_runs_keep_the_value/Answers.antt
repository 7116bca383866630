use Rattle.schedule_rules.proofs.Failing.{fails_where_ended, fails_in}
use Rattle.schedule_rules.proofs.laws.failed_runs_keep_the_value.Goals as goal

pub returns-clause-answers : goal.returns-clause-answers
returns-clause-answers c = fails_where_ended

pub returns-clause-changes : goal.returns-clause-changes
returns-clause-changes c = fails_in
