use Rattle.phase_run.proofs.TellingRuns.{told_last, told_next}
use Rattle.phase_run.proofs.tell.tell_steps.Goals as goal

pub loop-number-preserved : goal.loop-number-preserved
loop-number-preserved g c = λ x made. told_next x _ _ _ _ _ _ _ _ (c.loop-number.invariant x made) c.next_line.ensures.goes c.in-Some.is c.tell_step-told.ensures

pub returns-in_default : goal.returns-in_default
returns-in_default g c = λ x made. told_last x _ _ _ _ _ _ (c.loop-number.invariant x made) c.next_line.ensures.goes c.in_default.is
