use Rattle.phase_schedule.proofs.Runs.{is_end}
use Rattle.phase_schedule.proofs.running.Run.finish.Goals as goal

pub returns : goal.returns
returns c = λ x lines made. is_end x lines c.args.self c.finish.result made c.finish.ensures
