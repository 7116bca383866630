use Rattle.schedule_rules.proofs.Failing.{lent-unused, lent-alone, lent-leaves, refused-in-use}
use Rattle.schedule_rules.proofs.laws.lent_cells_are_not_in_use.Goals as goal

pub returns-clause-finds : goal.returns-clause-finds
returns-clause-finds g = lent-unused

pub returns-clause-changes : goal.returns-clause-changes
returns-clause-changes g = λ cells h s l c k e n. lent-alone cells h s c e n l k

pub returns-clause-leaves : goal.returns-clause-leaves
returns-clause-leaves g = lent-leaves

pub returns-clause-refuses : goal.returns-clause-refuses
returns-clause-refuses g = refused-in-use
