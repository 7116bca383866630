use Rattle.std.proofs.Common.{ℕ, Some, ap}
use Rattle.phase_bits.specs.Number.{phase_of}
use Rattle.phase_seq.specs.declared.ask.Want.TheVariants.{Read}
use Rattle.phase_seq.specs.Phases.{unregistered}
use Rattle.phase_seq.specs.Direct.{tolerance, enlisted, told_read}
use Rattle.phase_seq.proofs.Called.{beside}
use Rattle.phase_seq.proofs.sequentializer.direct.LazySequentializer+UnSyncPhaseLocker+G.generate_then_read.Goals as goal

pub returns-in-None-clause-calls : goal.returns-in-None-clause-calls
returns-in-None-clause-calls g c =
    let t = tolerance g.G.GeneratorTolerance.INIT_FAILURE g.G.GeneratorTolerance.FINAL_REGISTRATION_FAILURE in
    rw c.in-None.is (beside g.R.Generator.attempts told_read Read t (Some c.empty.result) (Some unregistered) c.args.self.now.locker c.args.by.now c.read_beside.result c.read_beside.new.self.locker c.read_beside.new.by (λ _. ap (λ (n : ℕ). Some (phase_of n)) c.empty.ensures) c.read_beside.ensures.calls)

pub returns-in-Some-clause-calls : goal.returns-in-Some-clause-calls
returns-in-Some-clause-calls g c =
    let leak = g.G.GeneratorTolerance.FINAL_REGISTRATION_FAILURE in
    let h = c.args.self.now.locker in
    rw c.in-Some.is (beside g.R.Generator.attempts told_read Read (tolerance g.G.GeneratorTolerance.INIT_FAILURE leak) c.enlist-stays.result (enlisted leak (Some c.in-Some.registry.now) h.phase) h c.args.by.now c.read_beside-in-Some.result c.read_beside-in-Some.new.self.locker c.read_beside-in-Some.new.by c.enlist-stays.ensures.stays c.read_beside-in-Some.ensures.calls)

pub returns-in-Some-clause-registry : goal.returns-in-Some-clause-registry
returns-in-Some-clause-registry g c = rw c.in-Some.is (ap Some c.enlist-stays.ensures.registry)
