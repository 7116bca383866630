use Rattle.lazy_cells.specs.Finalizers.{TakenOut}
use Rattle.lazy_cells.proofs.Finalized.{leaves}
use Rattle.lazy_cells.proofs.locked.finalize.GenericLockedLazyWithExitPrimedFinalizable.execute.Goals as goal

pub returns-clause-leaves : goal.returns-clause-leaves
returns-clause-leaves g c =
    let turn = c.finalize_primed in
    rw (← c.self.view_is) (leaves (TakenOut g.T.Uninit.uninits) c.self.inside.cell turn.result turn.new.self turn.ensures.finalizes)

pub returns-clause-finalizes : goal.returns-clause-finalizes
returns-clause-finalizes g c = rw (← c.self.view_is) c.finalize_primed.ensures.finalizes
