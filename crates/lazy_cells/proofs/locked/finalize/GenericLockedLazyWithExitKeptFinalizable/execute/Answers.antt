use Rattle.std.proofs.Common.{false}
use Rattle.lazy_cells.specs.Finalizers.{KeepsValue}
use Rattle.lazy_cells.proofs.Finalized.{leaves, sound, kept_due}
use Rattle.lazy_cells.proofs.locked.finalize.GenericLockedLazyWithExitKeptFinalizable.execute.Goals as goal

pub invariant_of-self : goal.invariant_of-self
invariant_of-self g c =
    let old = c.self.inside.cell in
    let turn = c.finalize_kept in
    sound (KeepsValue g.T.Finaly.finalizes) old false false c.self.invariant (kept_due g.T.Finaly.finalizes old.phase old.value) turn.result turn.new.self turn.ensures.finalizes

pub returns-clause-leaves : goal.returns-clause-leaves
returns-clause-leaves g c =
    let turn = c.finalize_kept in
    rw (← c.self.view_is) (leaves (KeepsValue g.T.Finaly.finalizes) c.self.inside.cell turn.result turn.new.self turn.ensures.finalizes)

pub returns-clause-finalizes : goal.returns-clause-finalizes
returns-clause-finalizes g c = rw (← c.self.view_is) c.finalize_kept.ensures.finalizes
