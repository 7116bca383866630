use Rattle.lazy_threads.proofs.Entering.{looks_by}
use Rattle.lazy_threads.proofs.table.SyncTable.phase.Goals as goal

pub returns-clause-looks : goal.returns-clause-looks
returns-clause-looks c = looks_by _ _ _ c.load.ensures.finds.lasts c.load.ensures.view
