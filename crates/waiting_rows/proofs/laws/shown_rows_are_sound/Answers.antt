use Rattle.waiting_rows.proofs.Sound.{sound_of}
use Rattle.waiting_rows.proofs.laws.shown_rows_are_sound.Goals as goal

pub returns : goal.returns
returns g = sound_of
