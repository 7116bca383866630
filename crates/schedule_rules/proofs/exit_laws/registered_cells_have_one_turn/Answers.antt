use Rattle.schedule_rules.proofs.Turns.{one-turn}
use Rattle.schedule_rules.proofs.exit_laws.registered_cells_have_one_turn.Goals as goal

pub returns : goal.returns
returns g = λ cells h c. one-turn cells c h
