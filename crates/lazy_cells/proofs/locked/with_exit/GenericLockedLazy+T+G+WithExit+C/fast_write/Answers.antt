use Rattle.std.proofs.Common.{Some, refl}
use Rattle.phase_seq.specs.Direct.{tolerance, enlisted, unless_borrowed}
use Rattle.lazy_cells.specs.Locked.{bars_write}
use Rattle.lazy_cells.specs.Access.{say_write, left_write, say_fast_write}
use Rattle.lazy_cells.proofs.Keeping.{then_calls}
use Rattle.lazy_cells.proofs.locked.with_exit.GenericLockedLazy+T+G+WithExit+C.fast_write.Goals as goal

pub returns-clause-calls : goal.returns-clause-calls
returns-clause-calls g c =
    let leak = g.G.GeneratorTolerance.FINAL_REGISTRATION_FAILURE in
    let t = tolerance g.G.GeneratorTolerance.INIT_FAILURE leak in
    then_calls g.G.Generator.attempts t (enlisted leak (Some c.args.registry.now) c.args.self.now.phase) bars_write c.args.self.now (say_write g.C.Content.is_taken) (left_write g.C.Content.is_taken) (say_fast_write g.C.Content.is_taken) (left_write g.C.Content.is_taken) unless_borrowed (λ r x. x) (λ e. refl) (λ e x. refl) c.write.result c.write.new.self c.unless_borrowed.result c.write.new.self c.unless_borrowed.ensures refl c.write.ensures.calls
