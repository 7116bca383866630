use Rattle.phase_schedule.proofs.Words.{◌∙◌, sym}
use Rattle.phase_schedule.proofs.Unknown.{found, later, none}
use Rattle.phase_schedule.proofs.cause.misplaced_cell.Goals as goal

pub returns-in-Some : goal.returns-in-Some
returns-in-Some c = found _ _ _ _ c.loop-c.invariant c.loop-c-test.true _ (sym c.misplaced.ensures ∙ c.in-Some.is)

pub loop-c-preserved : goal.loop-c-preserved
loop-c-preserved c = later _ _ _ _ c.loop-c.invariant c.loop-c-test.true (sym c.misplaced.ensures ∙ c.in_default.is)

pub returns : goal.returns
returns c = none _ _ _ c.loop-c.invariant c.loop-c-test.false
