use Rattle.schedule_rules.proofs.NotCyclic.{waiting-not-cyclic, again-not-cyclic}
use Rattle.schedule_rules.proofs.laws.waiting_calls_are_not_cyclic.Goals as goal

pub returns-clause-waits : goal.returns-clause-waits
returns-clause-waits g = λ cells h p w. waiting-not-cyclic cells h p w

pub returns-clause-again : goal.returns-clause-again
returns-clause-again g = λ cells h s l. again-not-cyclic cells h s l
