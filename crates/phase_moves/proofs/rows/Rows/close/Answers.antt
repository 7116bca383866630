use Rattle.phase_moves.proofs.Closing.{are_closing}
use Rattle.phase_moves.proofs.rows.Rows.close.Goals as goal

pub close_cells-requires-clause-closing : goal.close_cells-requires-clause-closing
close_cells-requires-clause-closing g c = are_closing g.L.PhaseLocker.held g.L.PhaseLocker.place c.close_guards.new.self c.close_guards.ensures.can
