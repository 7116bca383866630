use Rattle.schedule_rules.proofs.Grows.{initialized-stays}
use Rattle.schedule_rules.proofs.laws.initialized_stays.Goals as goal

pub returns : goal.returns
returns c = initialized-stays
