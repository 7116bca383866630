use Rattle.schedule_rules.proofs.WaitsToLock.{owned-never-waits, other-refused, lending-refused}
use Rattle.schedule_rules.proofs.laws.owned_cells_never_wait.Goals as goal

pub returns-clause-waits : goal.returns-clause-waits
returns-clause-waits x = owned-never-waits

pub returns-clause-refuses : goal.returns-clause-refuses
returns-clause-refuses x = other-refused

pub returns-clause-lends : goal.returns-clause-lends
returns-clause-lends x = lending-refused
