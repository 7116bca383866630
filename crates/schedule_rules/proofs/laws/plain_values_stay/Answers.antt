use Rattle.schedule_rules.proofs.Settled.{plain-stays}
use Rattle.schedule_rules.proofs.Values.{plain-value}
use Rattle.schedule_rules.proofs.laws.plain_values_stay.Goals as goal

pub returns-clause-there : goal.returns-clause-there
returns-clause-there x = plain-value

pub returns-clause-stays : goal.returns-clause-stays
returns-clause-stays x = λ cells h later c k n q r. (plain-stays cells h later c k n q r).1
