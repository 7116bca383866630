use Rattle.std.proofs.Common.{Some, false, refl}
use Rattle.phase_seq.specs.Phases.{unregistered}
use Rattle.phase_seq.specs.Direct.{tolerance, unless_borrowed}
use Rattle.lazy_cells.specs.Locked.{bars_read}
use Rattle.lazy_cells.specs.Access.{say_read, left_read, say_fast_read}
use Rattle.lazy_cells.proofs.Keeping.{then_calls}
use Rattle.lazy_cells.proofs.locked.no_exit.GenericLockedLazy+T+G+NoExit+C.fast_read.Goals as goal

pub returns-clause-calls : goal.returns-clause-calls
returns-clause-calls g c =
    let leak = g.G.GeneratorTolerance.FINAL_REGISTRATION_FAILURE in
    let t = tolerance g.G.GeneratorTolerance.INIT_FAILURE leak in
    then_calls g.G.Generator.attempts t (Some unregistered) bars_read c.args.self.now (say_read false) (left_read false) (say_fast_read false) (left_read false) unless_borrowed (λ r x. x) (λ e. refl) (λ e x. refl) c.read.result c.read.new.self c.unless_borrowed.result c.read.new.self c.unless_borrowed.ensures refl c.read.ensures.calls
