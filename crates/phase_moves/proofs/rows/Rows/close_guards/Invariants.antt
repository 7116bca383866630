use Rattle.phase_moves.proofs.Words.{◌≡◌, length, CanClose}
use Rattle.phase_moves.proofs.rows.Rows.close_guards.Given as goal

abbrev pub invariant-loop-row : goal.invariant-loop-row
invariant-loop-row g l =
    record {
      can : CanClose g.L.PhaseLocker.held g.L.PhaseLocker.place l.self;
      cells : length l.self.cells.items ≡ length l.fn.self.cells.items;
      turns : l.self.exit.turns.items ≡ l.fn.self.exit.turns.items;
    }

abbrev pub decreases-loop-row : goal.decreases-loop-row
decreases-loop-row g l = length l.self.guards.items
