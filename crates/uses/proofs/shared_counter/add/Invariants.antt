use Rattle.uses.specs.Counting.{HasRecorded}
use Rattle.uses.proofs.shared_counter.add.Given as goal

abbrev pub invariant-loop-turn : goal.invariant-loop-turn
invariant-loop-turn g l = HasRecorded l.word l.turn l.seat
