use Rattle.schedule_rules.proofs.Causes.{waits_where_barred, misses_where_barred, borrows_where_barred}
use Rattle.schedule_rules.proofs.laws.steps_wait_exactly_where_barred.Goals as goal

pub returns-clause-waits : goal.returns-clause-waits
returns-clause-waits c = waits_where_barred

pub returns-clause-borrows : goal.returns-clause-borrows
returns-clause-borrows c = borrows_where_barred

pub returns-clause-misses : goal.returns-clause-misses
returns-clause-misses c = misses_where_barred
