use Rattle.schedule_rules.proofs.Values.{shown-value, value-shown}
use Rattle.schedule_rules.proofs.laws.values_shown_are_there.Goals as goal

pub returns-clause-guards : goal.returns-clause-guards
returns-clause-guards x = shown-value

pub returns-clause-lines : goal.returns-clause-lines
returns-clause-lines x = value-shown
