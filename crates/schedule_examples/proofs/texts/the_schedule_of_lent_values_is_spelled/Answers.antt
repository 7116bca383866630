use Rattle.std.proofs.Common.{refl}
use Rattle.std.specs.Fmt.{digits}
use Rattle.phase_bits.specs.Text.{flag_text, lower_text, upper_text, phase_text}
use Rattle.schedule_examples.proofs.texts.the_schedule_of_lent_values_is_spelled.Goals as goal

pub returns : goal.returns
unfolding digits phase_text lower_text upper_text flag_text
returns c = record { goes = record { lines = refl; gifts = refl; holds = refl; finals = refl; exits = refl }; schedule = refl; transcript = refl }
