use Rattle.phase_schedule.proofs.Words.{◌∙◌, sym}
use Rattle.phase_schedule.proofs.Unknown.{found, later, none}
use Rattle.phase_schedule.proofs.cause.unknown_step.Goals as goal

pub returns-in-Some : goal.returns-in-Some
returns-in-Some c = found _ _ _ _ c.loop-i.invariant c.loop-i-test.true _ (sym c.unknown.ensures ∙ c.in-Some.is)

pub loop-i-preserved : goal.loop-i-preserved
loop-i-preserved c = later _ _ _ _ c.loop-i.invariant c.loop-i-test.true (sym c.unknown.ensures ∙ c.in_default.is)

pub returns : goal.returns
returns c = none _ _ _ c.loop-i.invariant c.loop-i-test.false
