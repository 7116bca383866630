use Rattle.std.proofs.Common.{Some}
use Rattle.phase_seq.specs.Direct.{tolerance, enlisted}
use Rattle.lazy_cells.proofs.Sound.{enlisted_fresh}
use Rattle.lazy_cells.proofs.Ended.{init_calls, init_sound}
use Rattle.lazy_cells.proofs.locked.with_exit.GenericLockedLazy+T+G+WithExit+C.init.Goals as goal

pub invariant_of-self : goal.invariant_of-self
invariant_of-self g c =
    let leak = g.G.GeneratorTolerance.FINAL_REGISTRATION_FAILURE in
    let t = tolerance g.G.GeneratorTolerance.INIT_FAILURE leak in
    let old = c.self.inside.cell in
    let m = c.args.registry.now in
    let came = c.enter_write_registered-entered in
    let out = c.keep_none in
    init_sound g.C.Content.is_taken g.C.Content.is_primed old c.self.invariant g.G.Generator.attempts t (enlisted leak (Some m) old.phase) (enlisted_fresh leak m old.phase) out.result out.new.self
    (init_calls g.C.Content.is_taken g.C.Content.is_primed c.is_taken.result c.is_taken.ensures old g.G.Generator.attempts t (enlisted leak (Some m) old.phase) came.result came.new.self out.result out.new.self out.ensures.answer out.ensures.left came.ensures.calls)

pub returns-clause-calls : goal.returns-clause-calls
returns-clause-calls g c =
    let leak = g.G.GeneratorTolerance.FINAL_REGISTRATION_FAILURE in
    let t = tolerance g.G.GeneratorTolerance.INIT_FAILURE leak in
    let old = c.self.inside.cell in
    let m = c.args.registry.now in
    let came = c.enter_write_registered-entered in
    let out = c.keep_none in
    rw (← c.self.view_is) (init_calls g.C.Content.is_taken g.C.Content.is_primed c.is_taken.result c.is_taken.ensures old g.G.Generator.attempts t (enlisted leak (Some m) old.phase) came.result came.new.self out.result out.new.self out.ensures.answer out.ensures.left came.ensures.calls)
