use Rattle.schedule_rules.proofs.Means.{finalizes-value, skips-nothing}
use Rattle.schedule_rules.proofs.exit_laws.turns_finalize_what_is_there.Goals as goal

pub returns-clause-finalizes : goal.returns-clause-finalizes
returns-clause-finalizes g = finalizes-value

pub returns-clause-skips : goal.returns-clause-skips
returns-clause-skips g = skips-nothing
