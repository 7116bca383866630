use Rattle.phase_schedule.proofs.Words.{◌≡◌, ◌≤◌, final_of_row, length, map, take, vec_capacity}
use Rattle.phase_schedule.proofs.progress.tell_finals.Given as goal

abbrev pub invariant-loop-row : goal.invariant-loop-row
invariant-loop-row g l =
    record {
      made : l.finals.items ≡ map (final_of_row g.L.PhaseLocker.held) (take l.row-index l.rows);
      room : length l.rows ≤ vec_capacity l.finals;
    }
