use Rattle.std.proofs.Common.{Some, None, false, refl}
use Rattle.phase_seq.specs.Phases.{unregistered}
use Rattle.phase_seq.specs.Direct.{tolerance}
use Rattle.lazy_cells.proofs.Starting.{stands, knows_same}
use Rattle.lazy_cells.proofs.lesser.GenericLockedLazyNoExitLesser.start.Goals as goal

pub returns-clause-starts : goal.returns-clause-starts
returns-clause-starts g c =
    let t = tolerance g.G.GeneratorTolerance.INIT_FAILURE g.G.GeneratorTolerance.FINAL_REGISTRATION_FAILURE in
    let done = stands false (λ x. None) g.G.Generator.attempts t (Some unregistered) refl c.args.self.now c.init.result c.init.new.self c.init.ensures.calls in
    record {
      answers = done.answers;
      held = done.held;
      writing = done.writing;
      cell = done.cell;
      registry = knows_same None c.args._reg.now;
    }
