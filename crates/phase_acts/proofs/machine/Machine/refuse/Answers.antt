use Rattle.phase_acts.proofs.Stepping.{refused}
use Rattle.phase_acts.proofs.machine.Machine.refuse.Goals as goal

pub returns : goal.returns
returns g c = λ cells h s n some. refused n c.args.refusal c.end_step.result c.end_step.ensures.line c.end_step.ensures.pushes c.end_step.ensures.kept some
