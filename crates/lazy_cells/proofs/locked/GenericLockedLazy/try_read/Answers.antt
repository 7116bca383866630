use Rattle.lazy_cells.proofs.Ended.{read_tries, read_rests, read_stays}
use Rattle.lazy_cells.proofs.locked.GenericLockedLazy.try_read.Goals as goal

pub invariant_of-self : goal.invariant_of-self
invariant_of-self g c =
    let old = c.self.inside.cell in
    let came = c.enter_read_only-entered in
    let out = c.keep_read in
    read_rests g.P.Reach.hard g.P.Reach.primed old c.self.invariant out.result out.new.self
    (read_tries g.P.Reach.hard g.P.Reach.primed c.is_hard.result c.is_hard.ensures old came.result came.new.self out.result out.new.self out.ensures.answer out.ensures.left came.ensures.tries)

pub returns-clause-tries : goal.returns-clause-tries
returns-clause-tries g c =
    let old = c.self.inside.cell in
    let came = c.enter_read_only-entered in
    let out = c.keep_read in
    rw (← c.self.view_is) (read_tries g.P.Reach.hard g.P.Reach.primed c.is_hard.result c.is_hard.ensures old came.result came.new.self out.result out.new.self out.ensures.answer out.ensures.left came.ensures.tries)

pub returns-clause-phase : goal.returns-clause-phase
returns-clause-phase g c =
    let old = c.self.inside.cell in
    let came = c.enter_read_only-entered in
    let out = c.keep_read in
    rw (← c.self.view_is) (read_stays g.P.Reach.hard old out.result out.new.self (read_tries g.P.Reach.hard g.P.Reach.primed c.is_hard.result c.is_hard.ensures old came.result came.new.self out.result out.new.self out.ensures.answer out.ensures.left came.ensures.tries))
