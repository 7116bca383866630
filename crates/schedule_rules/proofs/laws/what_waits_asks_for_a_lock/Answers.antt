use Rattle.schedule_rules.proofs.WaitsToLock.{waiting-asks, waiting-slow, waiting-shared}
use Rattle.schedule_rules.proofs.laws.what_waits_asks_for_a_lock.Goals as goal

pub returns-clause-asks : goal.returns-clause-asks
returns-clause-asks g = waiting-asks

pub returns-clause-slow : goal.returns-clause-slow
returns-clause-slow g = waiting-slow

pub returns-clause-shared : goal.returns-clause-shared
returns-clause-shared g = waiting-shared
