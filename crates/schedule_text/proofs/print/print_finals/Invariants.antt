use Rattle.std.proofs.Common.{◌≡◌, ◌++◌, drop, true}
use Rattle.schedule_text.specs.Lines.{lines_text}
use Rattle.schedule_text.specs.Pages.{has_line_room}
use Rattle.schedule_text.specs.TranscriptText.{final_lines}
use Rattle.schedule_text.proofs.print.print_finals.Given as goal

-- with the lines that are left, text and page are the whole, and the next line fits
abbrev pub invariant-loop-cell : goal.invariant-loop-cell
invariant-loop-cell l =
    record {
      text : (l.text.items ++ l.page) ++ lines_text (final_lines l.cell (drop l.cell l.finals))
          ≡ (l.initial.text.items ++ l.initial.page) ++ lines_text (final_lines 0 l.finals);
      room : has_line_room l.page ≡ true;
    }
