use Rattle.std.proofs.Common.{Some, true, false, refl}
use Rattle.phase_seq.specs.Phases.{unregistered}
use Rattle.phase_seq.specs.Direct.{tolerance}
use Rattle.lazy_cells.proofs.Sound.{unregistered_fresh}
use Rattle.lazy_cells.proofs.Ended.{primed_read_calls, primed_read_sound}
use Rattle.lazy_cells.proofs.locked.primed.no_exit.GenericLockedLazy+T+G+NoExit+Primed+Q.primed_read.Goals as goal

pub invariant_of-self : goal.invariant_of-self
invariant_of-self g c =
    let leak = g.G.GeneratorTolerance.FINAL_REGISTRATION_FAILURE in
    let t = tolerance g.G.GeneratorTolerance.INIT_FAILURE leak in
    let old = c.self.inside.cell in
    let came = c.enter_read-entered in
    let out = c.keep_primed_read in
    primed_read_sound false true old c.self.invariant g.G.Generator.attempts t (Some unregistered) unregistered_fresh refl out.result came.new.self
    (primed_read_calls false true false refl old g.G.Generator.attempts t (Some unregistered) came.result came.new.self out.result came.new.self out.ensures.answer refl came.ensures.calls)

pub returns-clause-calls : goal.returns-clause-calls
returns-clause-calls g c =
    let leak = g.G.GeneratorTolerance.FINAL_REGISTRATION_FAILURE in
    let t = tolerance g.G.GeneratorTolerance.INIT_FAILURE leak in
    let old = c.self.inside.cell in
    let came = c.enter_read-entered in
    let out = c.keep_primed_read in
    rw (← c.self.view_is) (primed_read_calls false true false refl old g.G.Generator.attempts t (Some unregistered) came.result came.new.self out.result came.new.self out.ensures.answer refl came.ensures.calls)
