use Rattle.schedule_rules.proofs.Tried.{tried-runs-or-declines, tried-unknown, tried-once, tried-known}
use Rattle.schedule_rules.proofs.exit_laws.registration_is_tried_once.Goals as goal

pub returns-clause-answers : goal.returns-clause-answers
returns-clause-answers g = λ cells h s l c. tried-runs-or-declines cells c h s l

pub returns-clause-unknown : goal.returns-clause-unknown
returns-clause-unknown g = λ cells h s l c. tried-unknown cells c h s l

pub returns-clause-once : goal.returns-clause-once
returns-clause-once g = λ cells h c. tried-once cells c h

pub returns-clause-registers : goal.returns-clause-registers
returns-clause-registers g = λ cells h e c. tried-known cells c h e
