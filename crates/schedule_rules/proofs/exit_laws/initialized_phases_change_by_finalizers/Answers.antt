use Rattle.schedule_rules.proofs.Settled.{settled}
use Rattle.schedule_rules.proofs.exit_laws.initialized_phases_change_by_finalizers.Goals as goal

pub returns : goal.returns
returns g = settled
