use Rattle.phase_acts.proofs.Words.{standing}
use Rattle.phase_acts.proofs.Performing.{awake, waits_refused, may_go_on, went_on}
use Rattle.phase_acts.proofs.machine.Machine.perform.Goals as goal

pub perform_awake-requires : goal.perform_awake-requires
perform_awake-requires g c =
    record { cells = c.requires.cells; h = c.requires.h; is = awake c.requires.next c.waiting.result c.waiting.ensures c.in-None.is }

pub returns-in-None : goal.returns-in-None
returns-in-None g c = λ cells h next. c.perform_awake.ensures cells h (awake next c.waiting.result c.waiting.ensures c.in-None.is)

pub again-requires : goal.again-requires
again-requires g c =
    record { m = standing c.requires.cells c.requires.h; is = may_go_on c.requires.next c.waiting.result c.waiting.ensures c.in-Some.target c.in-Some.is c.in-Again.is; room = c.requires.next.room }

pub returns-in-Again : goal.returns-in-Again
returns-in-Again g c = λ cells h next.
    went_on next c.waiting.result c.waiting.ensures c.in-Some.target c.in-Some.is c.in-Again.is c.again.result c.again.new.self.rows
    (c.again.ensures.tries (standing cells h) (may_go_on next c.waiting.result c.waiting.ensures c.in-Some.target c.in-Some.is c.in-Again.is)) c.again.ensures.kept

pub returns-in_default : goal.returns-in_default
returns-in_default g c = λ cells h next. c.refuse.ensures cells h c.args.step.now next (waits_refused next c.waiting.result c.waiting.ensures c.in-Some.target c.in-Some.is c.in_default.not-Again)
