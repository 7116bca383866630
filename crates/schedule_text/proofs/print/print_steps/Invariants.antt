use Rattle.std.proofs.Common.{◌≡◌, ◌++◌, drop, true}
use Rattle.schedule_text.specs.Lines.{lines_text}
use Rattle.schedule_text.specs.Pages.{has_line_room}
use Rattle.schedule_text.specs.TranscriptText.{step_lines}
use Rattle.schedule_text.proofs.print.print_steps.Given as goal

-- with the lines that are left, text and page are the whole, and the next line fits
abbrev pub invariant-loop-number : goal.invariant-loop-number
invariant-loop-number l =
    record {
      text : (l.text.items ++ l.page) ++ lines_text (step_lines l.number (drop l.number l.lines))
          ≡ (l.initial.text.items ++ l.initial.page) ++ lines_text (step_lines 0 l.lines);
      room : has_line_room l.page ≡ true;
    }
