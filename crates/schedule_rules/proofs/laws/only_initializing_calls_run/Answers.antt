use Rattle.schedule_rules.proofs.Causes.{only_initializing_run}
use Rattle.schedule_rules.proofs.laws.only_initializing_calls_run.Goals as goal

pub returns : goal.returns
returns g = λ cells h s l c j k. only_initializing_run cells h s l k c j
