use Rattle.lazy_cells.proofs.Ended.{primed_write_tries, primed_write_rests, primed_write_stays}
use Rattle.lazy_cells.proofs.locked.GenericLockedLazy.primed_write_non_initializing.Goals as goal

pub invariant_of-self : goal.invariant_of-self
invariant_of-self g c =
    let old = c.self.inside.cell in
    let came = c.enter_write_only-entered in
    let out = c.keep_primed_write in
    primed_write_rests g.P.Reach.hard g.P.Reach.primed old c.self.invariant g.met.P.IsPrimed.always out.result out.new.self
    (primed_write_tries g.P.Reach.hard g.P.Reach.primed c.is_hard.result c.is_hard.ensures old came.result came.new.self out.result out.new.self out.ensures.answer out.ensures.left came.ensures.tries)

pub returns-clause-tries : goal.returns-clause-tries
returns-clause-tries g c =
    let old = c.self.inside.cell in
    let came = c.enter_write_only-entered in
    let out = c.keep_primed_write in
    rw (← c.self.view_is) (primed_write_tries g.P.Reach.hard g.P.Reach.primed c.is_hard.result c.is_hard.ensures old came.result came.new.self out.result out.new.self out.ensures.answer out.ensures.left came.ensures.tries)

pub returns-clause-phase : goal.returns-clause-phase
returns-clause-phase g c =
    let old = c.self.inside.cell in
    let came = c.enter_write_only-entered in
    let out = c.keep_primed_write in
    rw (← c.self.view_is) (primed_write_stays g.P.Reach.hard old out.result out.new.self (primed_write_tries g.P.Reach.hard g.P.Reach.primed c.is_hard.result c.is_hard.ensures old came.result came.new.self out.result out.new.self out.ensures.answer out.ensures.left came.ensures.tries))
