use Rattle.schedule_rules.proofs.Means.{begins_on_empty, runs_on_empty, lends_on_empty}
use Rattle.schedule_rules.proofs.laws.without_retry_one_run.Goals as goal

pub returns-clause-begins : goal.returns-clause-begins
returns-clause-begins c = begins_on_empty

pub returns-clause-runs : goal.returns-clause-runs
returns-clause-runs c = runs_on_empty

pub returns-clause-lends : goal.returns-clause-lends
returns-clause-lends c = lends_on_empty
