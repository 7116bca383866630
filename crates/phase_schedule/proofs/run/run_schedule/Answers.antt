use Rattle.phase_schedule.proofs.Words.{◌∙◌, schedule_of, sym}
use Rattle.phase_schedule.proofs.Valid.{valid, no_error}
use Rattle.phase_schedule.proofs.run.run_schedule.Goals as goal

pub returns-clause-valid : goal.returns-clause-valid
returns-clause-valid c = valid (schedule_of c.args.plan.now c.args.steps.now) c.requires.cells c.requires.steps (sym c.cause.ensures ∙ c.in_default.is)

pub returns-in-Some-clause-complete : goal.returns-in-Some-clause-complete
returns-in-Some-clause-complete c = λ v. absurd (no_error (schedule_of c.args.plan.now c.args.steps.now) c.in-Some.error c.in-Some.ensures v)
