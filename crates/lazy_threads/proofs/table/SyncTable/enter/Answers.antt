use Rattle.lazy_threads.proofs.Entering.{waits_more, enters_later}
use Rattle.lazy_threads.proofs.table.SyncTable.enter.Goals as goal

pub returns-clause-enters : goal.returns-clause-enters
returns-clause-enters g c = enters_later _ _ _ _ _ (waits_more _ _ _ _ c.if-try_at_once.ensures.waits c.in_default.ensures.misses) c.enter_later.ensures.enters

pub returns-in-Some-clause-enters : goal.returns-in-Some-clause-enters
returns-in-Some-clause-enters g c = enters_later _ _ _ _ _ c.if-try_at_once.ensures.waits c.in-Some.ensures.enters
