use Rattle.uses.proofs.built.run_and_print.Goals as goal

pub print_transcript-requires : goal.print_transcript-requires
print_transcript-requires c = c.no_turn_is_busy.ensures _ _ c.in_ok-transcript.ensures.legal
