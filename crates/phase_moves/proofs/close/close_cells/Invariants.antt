use Rattle.phase_moves.proofs.Words.{◌<◌, ◌^◌, length, AreClosing}
use Rattle.phase_moves.proofs.close.close_cells.Given as goal

abbrev pub invariant-loop-row : goal.invariant-loop-row
invariant-loop-row g l = record { closing : AreClosing g.L.PhaseLocker.held g.L.PhaseLocker.place l.parks l.cells.items; few : length l.cells.items < 2 ^ 32 }

abbrev pub decreases-loop-row : goal.decreases-loop-row
decreases-loop-row g l = length l.cells.items
