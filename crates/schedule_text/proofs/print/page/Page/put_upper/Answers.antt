use Rattle.phase_bits.specs.Text.{upper_text}
use Rattle.schedule_text.proofs.PrintPieces.{put-four}
use Rattle.schedule_text.proofs.print.page.Page.put_upper.Goals as goal

pub returns-clause-text : goal.returns-clause-text
unfolding upper_text
returns-clause-text c = put-four _ _ _ _ _ _ _ _ _ c.put_flag.ensures.text c.put_flag-2.ensures.text c.put_flag-3.ensures.text c.put_flag-4.ensures.text
