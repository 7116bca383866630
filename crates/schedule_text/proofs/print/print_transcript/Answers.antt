use Rattle.std.proofs.Common.{◌++◌, ◌∙◌, ap, sym, refl, append_assoc}
use Rattle.schedule_text.specs.Lines.{lines_text}
use Rattle.schedule_text.specs.TranscriptText.{step_lines, final_lines, exit_lines}
use Rattle.schedule_text.proofs.PrintPieces.{put-same, transcript_printed}
use Rattle.schedule_text.proofs.print.print_transcript.Goals as goal

pub returns : goal.returns
returns c =
    let told = c.args.t.now in
    let text = c.print_exits.new.text.items in
    transcript_printed (c.new-text.result.items ++ c.put_title.new.self) (c.print_steps.new.text.items ++ c.print_steps.new.page)
    (c.print_finals.new.text.items ++ c.print_finals.new.page) (text ++ c.print_exits.new.page) _
    (step_lines 0 told.lines.items) (final_lines 0 told.finals.items) (exit_lines told.exits.items)
    (rw (c.new-text.ensures.items, c.put_title.ensures, c.in_ok-page.ensures) refl)
    (put-same (λ ls. lines_text (step_lines 0 ls)) _ _ _ _ c.in_ok-print_steps.ensures.text c.deref.ensures.value)
    (put-same (λ fs. lines_text (final_lines 0 fs)) _ _ _ _ c.in_ok-print_finals.ensures.text c.deref-2.ensures.value)
    (put-same (λ ts. lines_text (exit_lines ts)) _ _ _ _ c.in_ok-print_exits.ensures.text c.deref-3.ensures.value)
    (c.in_ok-extend_from_slice.ensures.items ∙ ap (λ bytes. text ++ bytes) (c.as_bytes.ensures ∙ c.put_end.ensures)
    ∙ sym (append_assoc text c.print_exits.new.page _))
