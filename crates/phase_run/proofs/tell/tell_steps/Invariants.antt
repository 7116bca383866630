use Rattle.std.proofs.Common.{[], Ok}
use Rattle.schedule_rules.specs.Transcripts.{Schedule}
use Rattle.phase_schedule.specs.Running.{HasMade}
use Rattle.phase_run.specs.Telling.{HasToldFirst, teller}
use Rattle.phase_run.proofs.tell.tell_steps.Given as goal

-- so many steps were told, whatever the run is of
abbrev pub invariant-loop-number : goal.invariant-loop-number
invariant-loop-number g l =
    (x : Schedule) → HasMade x [] l.initial.run
    → HasToldFirst x l.number (teller (g.K.Sink.given l.fn.out) (g.K.Sink.faults l.fn.out) l.initial.page (Ok tt))
    (teller (g.K.Sink.given l.out) (g.K.Sink.faults l.out) l.page l.told) l.run
