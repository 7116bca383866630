use Rattle.std.proofs.Common.{◌≡◌, ◌++◌, drop, true}
use Rattle.schedule_text.specs.Lines.{lines_text}
use Rattle.schedule_text.specs.Pages.{has_line_room}
use Rattle.schedule_text.specs.TranscriptText.{exit_lines}
use Rattle.schedule_text.proofs.print.print_exits.Given as goal

-- with the turns that are left, text and page are the whole, and the next line fits
abbrev pub invariant-loop-turned : goal.invariant-loop-turned
invariant-loop-turned l =
    record {
      text : (l.text.items ++ l.page) ++ lines_text (exit_lines (drop l.turned-index l.exits))
          ≡ (l.initial.text.items ++ l.initial.page) ++ lines_text (exit_lines l.exits);
      room : has_line_room l.page ≡ true;
    }
