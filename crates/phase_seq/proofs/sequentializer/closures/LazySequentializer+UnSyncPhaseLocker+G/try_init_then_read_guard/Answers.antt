use Rattle.phase_seq.proofs.sequentializer.closures.LazySequentializer+UnSyncPhaseLocker+G.try_init_then_read_guard.Goals as goal

pub returns-in-None-clause-tries : goal.returns-in-None-clause-tries
returns-in-None-clause-tries g c = rw c.in-None.is (record { answer = c.init_then_read_guard.result; calls = c.init_then_read_guard.ensures.calls; said = c.tried.ensures })

pub returns-in-Some-clause-tries : goal.returns-in-Some-clause-tries
returns-in-Some-clause-tries g c = rw c.in-Some.is (record { answer = c.init_then_read_guard-in-Some.result; calls = c.init_then_read_guard-in-Some.ensures.calls; said = c.tried-in-Some.ensures })

pub returns-in-Some-clause-registry : goal.returns-in-Some-clause-registry
returns-in-Some-clause-registry g c = rw c.in-Some.is c.init_then_read_guard-in-Some.ensures.registry
