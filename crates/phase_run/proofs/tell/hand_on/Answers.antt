use Rattle.phase_run.proofs.Telling.{tells-handed}
use Rattle.phase_run.proofs.tell.hand_on.Goals as goal

pub returns-in-Ok-clause-tells : goal.returns-in-Ok-clause-tells
returns-in-Ok-clause-tells g c =
    tells-handed _ _ _ _ _ _ _ _ _ _ c.in-Ok.is c.as_bytes.ensures c.clear.ensures c.write_text-told.ensures.whole
    c.write_text-told.ensures.part c.write_text-told.ensures.failed c.write_text-told.ensures.steady
