use Rattle.std.proofs.Common.{Some}
use Rattle.phase_seq.specs.declared.ask.Want.TheVariants.{Read}
use Rattle.phase_seq.specs.Phases.{unregistered}
use Rattle.phase_seq.specs.Direct.{tolerance, enlisted, told_read}
use Rattle.phase_seq.proofs.Called.{once_so}
use Rattle.phase_seq.proofs.sequentializer.closures.LazySequentializer+UnSyncPhaseLocker+G.init_then_read_guard.Goals as goal

pub returns-in-None-clause-calls : goal.returns-in-None-clause-calls
returns-in-None-clause-calls g c =
    let t = tolerance g.G.GeneratorTolerance.INIT_FAILURE g.G.GeneratorTolerance.FINAL_REGISTRATION_FAILURE in
    rw c.in-None.is (once_so _ told_read Read t (Some unregistered) c.args.self.now.locker c.new-once.result c.args.run c.generate_then_read.result c.generate_then_read.new.self.locker c.generate_then_read.new.by c.new-once.ensures c.generate_then_read.ensures.calls)

pub returns-clause-calls : goal.returns-clause-calls
returns-clause-calls g c =
    let leak = g.G.GeneratorTolerance.FINAL_REGISTRATION_FAILURE in
    let h = c.args.self.now.locker in
    rw c.in-Some.is (once_so _ told_read Read (tolerance g.G.GeneratorTolerance.INIT_FAILURE leak) (enlisted leak (Some c.in-Some.registry.now) h.phase) h c.new-once.result c.args.run c.generate_then_read-in-Some.result c.generate_then_read-in-Some.new.self.locker c.generate_then_read-in-Some.new.by c.new-once.ensures c.generate_then_read-in-Some.ensures.calls)

pub returns-clause-registry : goal.returns-clause-registry
returns-clause-registry g c = rw c.in-Some.is c.generate_then_read-in-Some.ensures.registry
