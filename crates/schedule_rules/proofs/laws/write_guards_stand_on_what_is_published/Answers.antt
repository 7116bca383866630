use Rattle.schedule_rules.proofs.Steady.{section-steady, guard-steady, guard-shows}
use Rattle.schedule_rules.proofs.laws.write_guards_stand_on_what_is_published.Goals as goal

pub returns-clause-sections : goal.returns-clause-sections
returns-clause-sections g = section-steady

pub returns-clause-guards : goal.returns-clause-guards
returns-clause-guards g = guard-steady

pub returns-clause-shows : goal.returns-clause-shows
returns-clause-shows g = guard-shows
