use Rattle.std.proofs.Common.{Some, refl}
use Rattle.phase_seq.specs.declared.ask.Want.TheVariants.{Init}
use Rattle.phase_seq.specs.Phases.{unregistered}
use Rattle.phase_seq.specs.Direct.{tolerance, told}
use Rattle.phase_seq.proofs.Called.{once_so}
use Rattle.phase_seq.proofs.sequentializer.closures.LazySequentializer+UnSyncPhaseLocker+G.init_unique.Goals as goal

pub returns-in-Ok-clause-calls : goal.returns-in-Ok-clause-calls
returns-in-Ok-clause-calls g c =
    let t = tolerance g.G.GeneratorTolerance.INIT_FAILURE g.G.GeneratorTolerance.FINAL_REGISTRATION_FAILURE in
    record { answer = c.generate.result; calls = once_so _ told Init t (Some unregistered) c.args.self.now.locker c.new-once.result c.args.run c.generate.result c.generate.new.self.locker c.generate.new.by c.new-once.ensures c.generate.ensures.calls; said = rw c.in-Ok.is refl }

pub returns-clause-calls : goal.returns-clause-calls
returns-clause-calls g c =
    let t = tolerance g.G.GeneratorTolerance.INIT_FAILURE g.G.GeneratorTolerance.FINAL_REGISTRATION_FAILURE in
    record { answer = c.generate.result; calls = once_so _ told Init t (Some unregistered) c.args.self.now.locker c.new-once.result c.args.run c.generate.result c.generate.new.self.locker c.generate.new.by c.new-once.ensures c.generate.ensures.calls; said = rw (c.in-Err.is, c.phase.ensures.phase) refl }
