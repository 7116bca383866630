use Rattle.std.proofs.Common.{Some}
use Rattle.phase_seq.specs.Direct.{tolerance, enlisted}
use Rattle.lazy_cells.proofs.Entered.{entered_write}
use Rattle.lazy_cells.proofs.guarded.entering.Guarded+T+G+WithExit+Q.enter_write_registered.Goals as goal

pub returns-clause-calls : goal.returns-clause-calls
returns-clause-calls g c =
    let i = c.self.inside in
    let h = i.sequentializer.locker in
    let leak = g.G.GeneratorTolerance.FINAL_REGISTRATION_FAILURE in
    let t = tolerance g.G.GeneratorTolerance.INIT_FAILURE leak in
    let told = c.generate_then_write-told in
    rw (← c.self.view_is, c.next_after-self-inside.ensures, c.put_in-entered.ensures.filled, c.put_in-entered.ensures.entered) (entered_write g.G.Generator.attempts t (enlisted leak (Some c.args.registry.now) h.phase) h i.next i.body i.generator i.marker c.self.invariant told.result told.new.self.locker told.new.by told.ensures.calls)
