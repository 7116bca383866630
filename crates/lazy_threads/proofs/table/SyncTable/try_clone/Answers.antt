use Rattle.std.proofs.Common.{sym}
use Rattle.lazy_threads.proofs.Entering.{looks_by, cloned, overtaken}
use Rattle.lazy_threads.proofs.table.SyncTable.try_clone.Goals as goal

pub returns-clause-clones : goal.returns-clause-clones
returns-clause-clones c = cloned c.load-word.result c.enter_read.result c.args.seat.now.token.me.0 _ _ _ c.load-word.ensures.finds.allowed (sym c.if-is_barred.ensures) c.load-word.ensures.view c.enter_read.ensures.view

pub returns-clause-misses : goal.returns-clause-misses
returns-clause-misses c = overtaken c.load-word.result c.enter_read.result c.args.seat.now.token.me.0 _ _ _ c.enter_read.ensures.finds.lasts c.load-word.ensures.view c.enter_read.ensures.view

pub returns-clause-looks : goal.returns-clause-looks
returns-clause-looks c = looks_by _ _ _ c.load-word.ensures.finds.lasts c.load-word.ensures.view

pub returns-then-is_barred-clause-looks : goal.returns-then-is_barred-clause-looks
returns-then-is_barred-clause-looks c = looks_by _ _ _ c.load-word.ensures.finds.lasts c.load-word.ensures.view
