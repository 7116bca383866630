use Rattle.schedule_rules.proofs.Means.{keeps_values, turned_away}
use Rattle.schedule_rules.proofs.laws.access_changes_no_value.Goals as goal

pub returns-clause-changes : goal.returns-clause-changes
returns-clause-changes c = keeps_values

pub returns-clause-denies : goal.returns-clause-denies
returns-clause-denies c = turned_away
