use Rattle.std.proofs.Common.{true, false}
use Rattle.lazy_cells.specs.Finalizers.{DropsValue}
use Rattle.lazy_cells.proofs.Finalized.{leaves, sound, dropped_due}
use Rattle.lazy_cells.proofs.locked.finalize.GenericLockedLazyWithExitDroppedFinalizable.execute.Goals as goal

pub invariant_of-self : goal.invariant_of-self
invariant_of-self g c =
    let old = c.self.inside.cell in
    let turn = c.finalize_dropped in
    sound DropsValue old true false c.self.invariant (dropped_due old.phase old.value) turn.result turn.new.self turn.ensures.finalizes

pub returns-clause-leaves : goal.returns-clause-leaves
returns-clause-leaves g c =
    let turn = c.finalize_dropped in
    rw (← c.self.view_is) (leaves DropsValue c.self.inside.cell turn.result turn.new.self turn.ensures.finalizes)

pub returns-clause-finalizes : goal.returns-clause-finalizes
returns-clause-finalizes g c = rw (← c.self.view_is) c.finalize_dropped.ensures.finalizes
