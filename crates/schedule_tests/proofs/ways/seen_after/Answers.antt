use Rattle.schedule_tests.proofs.ways.seen_after.Goals as goal

pub step-line-requires-clause-known : goal.step-line-requires-clause-known
step-line-requires-clause-known c = rw (c.loop-s.invariant.parties, c.loop-s.invariant.cells) (c.requires.valid.known c.loop-s.s-index _ c.loop-s-test.true)
