use Rattle.std.proofs.Common.{refl}
use Rattle.lazy_cells.proofs.Ended.{primed_read_tries, primed_read_rests, primed_read_stays}
use Rattle.lazy_cells.proofs.locked.GenericLockedLazy.primed_read_non_initializing.Goals as goal

pub invariant_of-self : goal.invariant_of-self
invariant_of-self g c =
    let old = c.self.inside.cell in
    let came = c.enter_read_only-entered in
    let out = c.keep_primed_read in
    primed_read_rests g.P.Reach.hard g.P.Reach.primed old c.self.invariant g.met.P.IsPrimed.always out.result came.new.self
    (primed_read_tries g.P.Reach.hard g.P.Reach.primed c.is_hard.result c.is_hard.ensures old came.result came.new.self out.result came.new.self out.ensures.answer refl came.ensures.tries)

pub returns-clause-tries : goal.returns-clause-tries
returns-clause-tries g c =
    let old = c.self.inside.cell in
    let came = c.enter_read_only-entered in
    let out = c.keep_primed_read in
    rw (← c.self.view_is) (primed_read_tries g.P.Reach.hard g.P.Reach.primed c.is_hard.result c.is_hard.ensures old came.result came.new.self out.result came.new.self out.ensures.answer refl came.ensures.tries)

pub returns-clause-phase : goal.returns-clause-phase
returns-clause-phase g c =
    let old = c.self.inside.cell in
    let came = c.enter_read_only-entered in
    let out = c.keep_primed_read in
    rw (← c.self.view_is) (primed_read_stays g.P.Reach.hard old out.result came.new.self (primed_read_tries g.P.Reach.hard g.P.Reach.primed c.is_hard.result c.is_hard.ensures old came.result came.new.self out.result came.new.self out.ensures.answer refl came.ensures.tries))
