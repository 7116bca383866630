use Rattle.std.proofs.Common.{Some}
use Rattle.phase_seq.specs.declared.ask.Want.TheVariants.{Init}
use Rattle.phase_seq.specs.Phases.{unregistered}
use Rattle.phase_seq.specs.Direct.{tolerance, enlisted, told}
use Rattle.phase_seq.proofs.Called.{once_so}
use Rattle.phase_seq.proofs.sequentializer.closures.LazySequentializer+UnSyncPhaseLocker+G.init.Goals as goal

pub returns-in-None-clause-calls : goal.returns-in-None-clause-calls
returns-in-None-clause-calls g c =
    let t = tolerance g.G.GeneratorTolerance.INIT_FAILURE g.G.GeneratorTolerance.FINAL_REGISTRATION_FAILURE in
    rw c.in-None.is (once_so _ told Init t (Some unregistered) c.args.self.now.locker c.new-once.result c.args.run c.generate.result c.generate.new.self.locker c.generate.new.by c.new-once.ensures c.generate.ensures.calls)

pub returns-clause-calls : goal.returns-clause-calls
returns-clause-calls g c =
    let leak = g.G.GeneratorTolerance.FINAL_REGISTRATION_FAILURE in
    let h = c.args.self.now.locker in
    rw c.in-Some.is (once_so _ told Init (tolerance g.G.GeneratorTolerance.INIT_FAILURE leak) (enlisted leak (Some c.in-Some.registry.now) h.phase) h c.new-once.result c.args.run c.generate-in-Some.result c.generate-in-Some.new.self.locker c.generate-in-Some.new.by c.new-once.ensures c.generate-in-Some.ensures.calls)

pub returns-clause-registry : goal.returns-clause-registry
returns-clause-registry g c = rw c.in-Some.is c.generate-in-Some.ensures.registry
