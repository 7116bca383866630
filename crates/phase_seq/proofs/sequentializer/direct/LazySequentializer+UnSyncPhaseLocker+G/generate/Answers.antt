use Rattle.std.proofs.Common.{ℕ, Some, ap}
use Rattle.phase_bits.specs.Number.{phase_of}
use Rattle.phase_seq.specs.declared.ask.Want.TheVariants.{Init}
use Rattle.phase_seq.specs.Phases.{unregistered}
use Rattle.phase_seq.specs.Direct.{tolerance, enlisted, told}
use Rattle.phase_seq.proofs.Called.{beside}
use Rattle.phase_seq.proofs.sequentializer.direct.LazySequentializer+UnSyncPhaseLocker+G.generate.Goals as goal

pub returns-in-None-clause-calls : goal.returns-in-None-clause-calls
returns-in-None-clause-calls g c =
    let t = tolerance g.G.GeneratorTolerance.INIT_FAILURE g.G.GeneratorTolerance.FINAL_REGISTRATION_FAILURE in
    rw c.in-None.is (beside g.R.Generator.attempts told Init t (Some c.empty.result) (Some unregistered) c.args.self.now.locker c.args.by.now c.init_beside.result c.init_beside.new.self.locker c.init_beside.new.by (λ _. ap (λ (n : ℕ). Some (phase_of n)) c.empty.ensures) c.init_beside.ensures.calls)

pub returns-in-Some-clause-calls : goal.returns-in-Some-clause-calls
returns-in-Some-clause-calls g c =
    let leak = g.G.GeneratorTolerance.FINAL_REGISTRATION_FAILURE in
    let h = c.args.self.now.locker in
    rw c.in-Some.is (beside g.R.Generator.attempts told Init (tolerance g.G.GeneratorTolerance.INIT_FAILURE leak) c.enlist-stays.result (enlisted leak (Some c.in-Some.registry.now) h.phase) h c.args.by.now c.init_beside-in-Some.result c.init_beside-in-Some.new.self.locker c.init_beside-in-Some.new.by c.enlist-stays.ensures.stays c.init_beside-in-Some.ensures.calls)

pub returns-in-Some-clause-registry : goal.returns-in-Some-clause-registry
returns-in-Some-clause-registry g c = rw c.in-Some.is (ap Some c.enlist-stays.ensures.registry)
