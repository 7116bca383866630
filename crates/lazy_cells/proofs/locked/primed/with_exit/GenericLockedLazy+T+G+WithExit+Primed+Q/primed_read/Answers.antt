use Rattle.std.proofs.Common.{Some, true, refl}
use Rattle.phase_seq.specs.Direct.{tolerance, enlisted}
use Rattle.lazy_cells.proofs.Sound.{enlisted_fresh}
use Rattle.lazy_cells.proofs.Ended.{primed_read_calls, primed_read_sound}
use Rattle.lazy_cells.proofs.locked.primed.with_exit.GenericLockedLazy+T+G+WithExit+Primed+Q.primed_read.Goals as goal

pub invariant_of-self : goal.invariant_of-self
invariant_of-self g c =
    let leak = g.G.GeneratorTolerance.FINAL_REGISTRATION_FAILURE in
    let t = tolerance g.G.GeneratorTolerance.INIT_FAILURE leak in
    let old = c.self.inside.cell in
    let m = c.args.registry.now in
    let came = c.enter_read_registered-entered in
    let out = c.keep_primed_read in
    primed_read_sound true true old c.self.invariant g.G.Generator.attempts t (enlisted leak (Some m) old.phase) (enlisted_fresh leak m old.phase) refl out.result came.new.self
    (primed_read_calls true true true refl old g.G.Generator.attempts t (enlisted leak (Some m) old.phase) came.result came.new.self out.result came.new.self out.ensures.answer refl came.ensures.calls)

pub returns-clause-calls : goal.returns-clause-calls
returns-clause-calls g c =
    let leak = g.G.GeneratorTolerance.FINAL_REGISTRATION_FAILURE in
    let t = tolerance g.G.GeneratorTolerance.INIT_FAILURE leak in
    let old = c.self.inside.cell in
    let m = c.args.registry.now in
    let came = c.enter_read_registered-entered in
    let out = c.keep_primed_read in
    rw (← c.self.view_is) (primed_read_calls true true true refl old g.G.Generator.attempts t (enlisted leak (Some m) old.phase) came.result came.new.self out.result came.new.self out.ensures.answer refl came.ensures.calls)
