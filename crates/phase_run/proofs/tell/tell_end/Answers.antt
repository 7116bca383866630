use Rattle.phase_run.proofs.Telling.{tells-line, tells-two}
use Rattle.phase_run.proofs.tell.tell_end.Goals as goal

pub returns-clause-tells : goal.returns-clause-tells
returns-clause-tells g c =
    tells-two _ _ _ _ _ (tells-line _ _ _ _ _ _ _ _ _ _ c.turn-told.ensures.tells c.put_end.ensures) c.hand_on.ensures.tells
