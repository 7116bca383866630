use Rattle.phase_moves.proofs.close.close_cell.Goals as goal

pub close_run-requires : goal.close_run-requires
close_run-requires g c = c.requires c.in-Some.open c.in-Some.is
