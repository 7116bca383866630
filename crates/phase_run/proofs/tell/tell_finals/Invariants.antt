use Rattle.std.proofs.Common.{take}
use Rattle.schedule_text.specs.Lines.{lines_text}
use Rattle.schedule_text.specs.TranscriptText.{final_lines}
use Rattle.phase_run.specs.Telling.{Tells, teller}
use Rattle.phase_run.proofs.tell.tell_finals.Given as goal

-- the lines of the first cells were told
abbrev pub invariant-loop-cell : goal.invariant-loop-cell
invariant-loop-cell g l =
    Tells (lines_text (final_lines 0 (take l.cell l.finals)))
    (teller (g.K.Sink.given l.fn.out) (g.K.Sink.faults l.fn.out) l.initial.page l.initial.told)
    (teller (g.K.Sink.given l.out) (g.K.Sink.faults l.out) l.page l.told)
