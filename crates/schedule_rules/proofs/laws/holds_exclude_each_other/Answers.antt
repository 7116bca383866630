use Rattle.schedule_rules.proofs.Exclusion.{alone}
use Rattle.schedule_rules.proofs.laws.holds_exclude_each_other.Goals as goal

pub returns : goal.returns
returns g = λ cells h c k. alone cells h k c
