use Rattle.schedule_rules.proofs.Told.{phase-tells}
use Rattle.schedule_rules.proofs.exit_laws.phases_tell_registration.Goals as goal

pub returns : goal.returns
returns g = phase-tells
