use Rattle.schedule_rules.proofs.NeverBusy.{none_busy}
use Rattle.schedule_rules.proofs.exit_laws.no_turn_is_busy.Goals as goal

pub returns : goal.returns
returns g = none_busy
