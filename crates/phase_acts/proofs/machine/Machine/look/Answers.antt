use Rattle.phase_acts.proofs.Words.{◌∙◌, ap, no_guard, refl}
use Rattle.schedule_rules.specs.declared.line.Answer.TheVariants as answer
use Rattle.phase_locker.specs.declared.ways.Given.TheVariants as given
use Rattle.phase_acts.proofs.Holding.{has_none}
use Rattle.phase_acts.proofs.Looking.{looked}
use Rattle.phase_acts.proofs.machine.Machine.look.Goals as goal

pub returns-in_default : goal.returns-in_default
returns-in_default g c = λ cells h is. c.refuse.ensures cells h _ is.next (has_none is c.args.guard c.held.result c.held.ensures no_guard refl c.in_default.is)

pub returns : goal.returns
returns g c = λ cells h is. looked is c.held.result c.held.ensures c.in-Some.held c.in-Some.is _ c.end_step.result (c.end_step.ensures.line ∙ ap (λ v. record { answer = answer.Value v; given = given.Nobody }) c.unwrap_or.ensures) c.end_step.ensures.pushes c.end_step.ensures.kept
