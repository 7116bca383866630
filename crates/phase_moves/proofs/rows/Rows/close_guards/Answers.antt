use Rattle.phase_moves.proofs.Words.{refl}
use Rattle.phase_moves.proofs.Closing.{pops}
use Rattle.phase_moves.proofs.rows.Rows.close_guards.Goals as goal

pub close_guard-requires : goal.close_guard-requires
close_guard-requires g c = pops g.L.PhaseLocker.held g.L.PhaseLocker.place c.loop-row.self _ c.in-Some.row c.loop-row.invariant.can c.in-Some.ensures.items refl refl refl refl
