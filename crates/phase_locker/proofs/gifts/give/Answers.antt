use Rattle.std.proofs.Common.{arith}
use Rattle.std.proofs.lemmas.Grind.{common_steps}
use Rattle.phase_locker.proofs.Shares.{length-shared, free-rows_to_readers, free-rows_to_writer}
use Rattle.phase_locker.proofs.gifts.give.Goals as goal

pub returns-then-has_readers-clause-same : goal.returns-then-has_readers-clause-same
returns-then-has_readers-clause-same g c = grind (arith, common_steps, length-shared)

pub returns-then-has_readers-clause-free : goal.returns-then-has_readers-clause-free
returns-then-has_readers-clause-free g c = rw c.give_readers-count.ensures.rows (free-rows_to_readers c.args.cell _ c.requires.cell c.has_readers.ensures.sound)

pub returns-in-Some-clause-free : goal.returns-in-Some-clause-free
returns-in-Some-clause-free g c = rw c.give_writer.ensures (free-rows_to_writer c.args.cell c.in-Some.party _ c.requires.cell c.has_readers.ensures.sound c.in-Some.ensures.writer)
