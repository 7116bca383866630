use Rattle.schedule_rules.proofs.Causes.{rounds_where_registered, closes_where_none}
use Rattle.schedule_rules.proofs.laws.looks_tell_what_is_registered.Goals as goal

pub returns-clause-round : goal.returns-clause-round
returns-clause-round g = rounds_where_registered

pub returns-clause-closed : goal.returns-clause-closed
returns-clause-closed g = closes_where_none
