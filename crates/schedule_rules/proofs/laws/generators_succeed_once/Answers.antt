use Rattle.schedule_rules.proofs.OneSuccess.{one-success}
use Rattle.schedule_rules.proofs.laws.generators_succeed_once.Goals as goal

pub returns : goal.returns
returns g = λ cells h c k. one-success cells c h k
