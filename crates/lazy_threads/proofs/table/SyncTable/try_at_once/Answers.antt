use Rattle.std.proofs.Common.{◌%◌}
use Rattle.lazy_threads.proofs.Entering.{unheld, got_write_at_once, waits_at_once}
use Rattle.lazy_threads.proofs.table.SyncTable.try_at_once.Goals as goal

pub returns-in-Write-clause-enters : goal.returns-in-Write-clause-enters
returns-in-Write-clause-enters g c =
    let last = c.args.seat.now.last in
    got_write_at_once _ (last % 256) c.look_write.result _ _ c.look_write.ensures.finds.allowed c.look_write.ensures.finds.lasts (rw c.phase_of_word.ensures at c.in-Write.ensures) (unheld last) c.look_write.ensures.view

pub returns-in-Write-clause-waits : goal.returns-in-Write-clause-waits
returns-in-Write-clause-waits g c = waits_at_once (c.args.seat.now.last % 256) c.look_write.result _ _ c.requires.hold c.look_write.ensures.view
