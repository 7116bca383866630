use Rattle.std.proofs.Common.{take}
use Rattle.schedule_text.specs.Lines.{lines_text}
use Rattle.schedule_text.specs.TranscriptText.{exit_lines}
use Rattle.phase_run.specs.Telling.{Tells, teller}
use Rattle.phase_run.proofs.tell.tell_exits.Given as goal

-- the lines of the first turns were told
abbrev pub invariant-loop-turned : goal.invariant-loop-turned
invariant-loop-turned g l =
    Tells (lines_text (exit_lines (take l.turned-index l.exits)))
    (teller (g.K.Sink.given l.fn.out) (g.K.Sink.faults l.fn.out) l.initial.page l.initial.told)
    (teller (g.K.Sink.given l.out) (g.K.Sink.faults l.out) l.page l.told)
