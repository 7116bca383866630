use Rattle.schedule_rules.proofs.Causes.{cyclic_where_own, accesses_where_turned_away, finalizes_where_ready, skips_where_unready}
use Rattle.schedule_rules.proofs.laws.answers_come_exactly_by_their_causes.Goals as goal

pub returns-clause-cyclic : goal.returns-clause-cyclic
returns-clause-cyclic g = cyclic_where_own

pub returns-clause-access : goal.returns-clause-access
returns-clause-access g = accesses_where_turned_away

pub returns-clause-finalizing : goal.returns-clause-finalizing
returns-clause-finalizing g = finalizes_where_ready

pub returns-clause-skipped : goal.returns-clause-skipped
returns-clause-skipped g = skips_where_unready
