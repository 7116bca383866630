use Rattle.schedule_rules.proofs.NeverBusy.{none_busy}
use Rattle.phase_run.proofs.TellingRuns.{told_all, end_of}
use Rattle.phase_run.proofs.tell.tell.Goals as goal

pub tell_exits-told-requires : goal.tell_exits-told-requires
tell_exits-told-requires g c =
    rw c.deref-2.ensures.value (none_busy c.requires.new.schedule _ (end_of _ _ _ _ _ (c.tell_steps-told.ensures c.requires.new.schedule c.requires.new.made) c.finish-finals.ensures))

pub returns : goal.returns
returns g c =
    λ x made. let first = c.tell_steps-told.ensures x made in
    told_all x _ _ _ _ _ _ _ _ _ _ _ _ c.requires.clear c.put_title.ensures first (c.finish-finals.ensures x first.lines first.made) c.deref.ensures.value
    c.deref-2.ensures.value c.tell_finals-told.ensures c.tell_exits-told.ensures c.tell_end.ensures.tells c.tell_end.ensures.clear
