use Rattle.std.proofs.Common.{sym}
use Rattle.lazy_threads.proofs.Entering.{got_read, got_write, got_phase, was_barred, was_beaten}
use Rattle.lazy_threads.proofs.table.SyncTable.try_enter.Goals as goal

pub returns-then-is_barred-clause-misses : goal.returns-then-is_barred-clause-misses
returns-then-is_barred-clause-misses g c =
    was_barred _ c.load-word.result c.how-nature.result _ _ c.load-word.ensures.finds.lasts (rw c.phase_of_word-phase.ensures at c.how-nature.ensures) (sym c.if-is_barred.ensures) c.load-word.ensures.view

pub returns-in-None-clause-enters : goal.returns-in-None-clause-enters
returns-in-None-clause-enters g c =
    got_phase _ c.load-word.result _ _ c.load-word.ensures.finds.lasts (rw c.phase_of_word-phase.ensures at c.in-None.ensures) c.requires.hold c.load-word.ensures.view

pub returns-then-enter_read-word-clause-enters : goal.returns-then-enter_read-word-clause-enters
returns-then-enter_read-word-clause-enters g c =
    got_read _ c.load-word.result c.enter_read.result _ _ _ c.load-word.ensures.finds.allowed c.load-word.ensures.finds.lasts (rw c.phase_of_word-phase.ensures at c.in-Read.ensures) (rw c.in-Read.is at (sym c.if-is_barred.ensures)) c.load-word.ensures.view c.enter_read.ensures.view c.if-enter_read-word.true

pub returns-else-enter_read-word-clause-misses : goal.returns-else-enter_read-word-clause-misses
returns-else-enter_read-word-clause-misses g c =
    was_beaten _ c.load-word.result c.enter_read.result _ _ _ _ c.load-word.ensures.finds.lasts c.enter_read.ensures.finds.lasts c.load-word.ensures.view c.enter_read.ensures.view c.if-enter_read-word.false

pub returns-then-enter_write-word-clause-enters : goal.returns-then-enter_write-word-clause-enters
returns-then-enter_write-word-clause-enters g c =
    got_write _ c.load-word.result c.enter_write.result _ _ _ c.load-word.ensures.finds.allowed c.load-word.ensures.finds.lasts (rw c.phase_of_word-phase.ensures at c.in-Write.ensures) (rw c.in-Write.is at (sym c.if-is_barred.ensures)) c.load-word.ensures.view c.enter_write.ensures.view c.if-enter_write-word.true

pub returns-else-enter_write-word-clause-misses : goal.returns-else-enter_write-word-clause-misses
returns-else-enter_write-word-clause-misses g c =
    was_beaten _ c.load-word.result c.enter_write.result _ _ _ _ c.load-word.ensures.finds.lasts c.enter_write.ensures.finds.lasts c.load-word.ensures.view c.enter_write.ensures.view c.if-enter_write-word.false
