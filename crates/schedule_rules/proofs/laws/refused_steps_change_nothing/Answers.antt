use Rattle.schedule_rules.proofs.Words.{refl, Answer}
use Rattle.schedule_rules.proofs.Causes.{refused_gives_nothing}
use Rattle.schedule_rules.proofs.laws.refused_steps_change_nothing.Goals as goal

pub returns-clause-gives : goal.returns-clause-gives
returns-clause-gives c = λ cells h s r g k. refused_gives_nothing cells h s (record { answer = Answer.Refused r; given = g }) k r refl
