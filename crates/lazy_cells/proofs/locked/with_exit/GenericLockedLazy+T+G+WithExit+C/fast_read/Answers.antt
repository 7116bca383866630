use Rattle.std.proofs.Common.{Some, refl}
use Rattle.phase_seq.specs.Direct.{tolerance, enlisted, unless_borrowed}
use Rattle.lazy_cells.specs.Locked.{bars_read}
use Rattle.lazy_cells.specs.Access.{say_read, left_read, say_fast_read}
use Rattle.lazy_cells.proofs.Keeping.{then_calls}
use Rattle.lazy_cells.proofs.locked.with_exit.GenericLockedLazy+T+G+WithExit+C.fast_read.Goals as goal

pub returns-clause-calls : goal.returns-clause-calls
returns-clause-calls g c =
    let leak = g.G.GeneratorTolerance.FINAL_REGISTRATION_FAILURE in
    let t = tolerance g.G.GeneratorTolerance.INIT_FAILURE leak in
    then_calls g.G.Generator.attempts t (enlisted leak (Some c.args.registry.now) c.args.self.now.phase) bars_read c.args.self.now (say_read g.C.Content.is_taken) (left_read g.C.Content.is_taken) (say_fast_read g.C.Content.is_taken) (left_read g.C.Content.is_taken) unless_borrowed (λ r x. x) (λ e. refl) (λ e x. refl) c.read.result c.read.new.self c.unless_borrowed.result c.read.new.self c.unless_borrowed.ensures refl c.read.ensures.calls
