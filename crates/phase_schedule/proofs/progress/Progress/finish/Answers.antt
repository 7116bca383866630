use Rattle.phase_schedule.proofs.Words.{◌∙◌, ap, final_of_row, map}
use Rattle.phase_schedule.proofs.Made.{ends}
use Rattle.phase_schedule.proofs.progress.Progress.finish.Goals as goal

pub returns : goal.returns
returns g c = λ f h made. ends made _ (c.tell_finals.ensures ∙ ap (map (final_of_row g.L.PhaseLocker.held)) c.deref.ensures.value) c.close-exits.ensures
