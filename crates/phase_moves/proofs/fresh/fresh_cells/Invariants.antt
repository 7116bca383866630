use Rattle.phase_moves.proofs.Words.{ℕ, ◌≡◌, ◌≤◌, length, slice_get, vec_capacity, Some, cell_at, IsFreshCell}
use Rattle.phase_moves.proofs.fresh.fresh_cells.Given as goal

abbrev pub invariant-loop-plan : goal.invariant-loop-plan
invariant-loop-plan g l =
    record {
      count : length l.rows.items ≡ l.plan-index;
      each : (c : ℕ) (r : _) → slice_get l.rows.items c ≡ Some r → IsFreshCell g.L.PhaseLocker.held g.L.PhaseLocker.place (cell_at l.plans c) r;
      room : length l.plans ≤ vec_capacity l.rows;
    }
