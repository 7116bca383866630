use Rattle.schedule_rules.proofs.Accepts.{closed-registry, closed-stays, open-accepts}
use Rattle.schedule_rules.proofs.exit_laws.closed_registries_stay.Goals as goal

pub returns-clause-open : goal.returns-clause-open
returns-clause-open g = open-accepts

pub returns-clause-closed : goal.returns-clause-closed
returns-clause-closed g = closed-registry

pub returns-clause-stays : goal.returns-clause-stays
returns-clause-stays g = closed-stays
