use Rattle.phase_locker.proofs.holder.tests.clones_and_closes.Given as goal

abbrev pub decreases-loop-t : goal.decreases-loop-t
decreases-loop-t l = goal.left-loop-t l
