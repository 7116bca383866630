use Rattle.std.proofs.Common.{sym, ◌∙◌}
use Rattle.schedule_text.proofs.PrintPieces.{put-as}
use Rattle.schedule_text.proofs.PrintPhases.{phase_text_at_empty, phase_text_at_initialized, phase_text_at_failed, phase_text_at_registered, phase_text_at_registered_failed, phase_text_at_unregistered, phase_text_at_finalized}
use Rattle.schedule_text.proofs.print.page.Page.put_phase.Goals as goal

pub returns-in-0-clause-text : goal.returns-in-0-clause-text
returns-in-0-clause-text c = put-as _ _ _ _ c.put_word.ensures (phase_text_at_empty _ (sym c.bits.ensures ∙ c.in-0.is))

pub returns-in-1-clause-text : goal.returns-in-1-clause-text
returns-in-1-clause-text c = put-as _ _ _ _ c.put_word-in-1.ensures (phase_text_at_initialized _ (sym c.bits.ensures ∙ c.in-1.is))

pub returns-in-6-clause-text : goal.returns-in-6-clause-text
returns-in-6-clause-text c = put-as _ _ _ _ c.put_word-in-6.ensures (phase_text_at_failed _ (sym c.bits.ensures ∙ c.in-6.is))

pub returns-in-9-clause-text : goal.returns-in-9-clause-text
returns-in-9-clause-text c = put-as _ _ _ _ c.put_word-in-9.ensures (phase_text_at_registered _ (sym c.bits.ensures ∙ c.in-9.is))

pub returns-in-14-clause-text : goal.returns-in-14-clause-text
returns-in-14-clause-text c = put-as _ _ _ _ c.put_word-in-14.ensures (phase_text_at_registered_failed _ (sym c.bits.ensures ∙ c.in-14.is))

pub returns-in-36-clause-text : goal.returns-in-36-clause-text
returns-in-36-clause-text c = put-as _ _ _ _ c.put_word-in-36.ensures (phase_text_at_unregistered _ (sym c.bits.ensures ∙ c.in-36.is))

pub returns-in-73-clause-text : goal.returns-in-73-clause-text
returns-in-73-clause-text c = put-as _ _ _ _ c.put_word-in-73.ensures (phase_text_at_finalized _ (sym c.bits.ensures ∙ c.in-73.is))
