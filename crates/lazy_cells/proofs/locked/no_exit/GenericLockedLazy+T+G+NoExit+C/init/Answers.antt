use Rattle.std.proofs.Common.{Some, false, refl}
use Rattle.phase_seq.specs.Phases.{unregistered}
use Rattle.phase_seq.specs.Direct.{tolerance}
use Rattle.lazy_cells.proofs.Sound.{unregistered_fresh}
use Rattle.lazy_cells.proofs.Ended.{init_calls, init_sound}
use Rattle.lazy_cells.proofs.locked.no_exit.GenericLockedLazy+T+G+NoExit+C.init.Goals as goal

pub invariant_of-self : goal.invariant_of-self
invariant_of-self g c =
    let leak = g.G.GeneratorTolerance.FINAL_REGISTRATION_FAILURE in
    let t = tolerance g.G.GeneratorTolerance.INIT_FAILURE leak in
    let old = c.self.inside.cell in
    let came = c.enter_write-entered in
    let out = c.keep_none in
    init_sound false g.C.Content.is_primed old c.self.invariant g.G.Generator.attempts t (Some unregistered) unregistered_fresh out.result out.new.self
    (init_calls false g.C.Content.is_primed false refl old g.G.Generator.attempts t (Some unregistered) came.result came.new.self out.result out.new.self out.ensures.answer out.ensures.left came.ensures.calls)

pub returns-clause-calls : goal.returns-clause-calls
returns-clause-calls g c =
    let leak = g.G.GeneratorTolerance.FINAL_REGISTRATION_FAILURE in
    let t = tolerance g.G.GeneratorTolerance.INIT_FAILURE leak in
    let old = c.self.inside.cell in
    let came = c.enter_write-entered in
    let out = c.keep_none in
    rw (← c.self.view_is) (init_calls false g.C.Content.is_primed false refl old g.G.Generator.attempts t (Some unregistered) came.result came.new.self out.result out.new.self out.ensures.answer out.ensures.left came.ensures.calls)
