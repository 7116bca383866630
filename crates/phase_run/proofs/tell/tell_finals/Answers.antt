use Rattle.std.proofs.Common.{refl}
use Rattle.phase_run.proofs.TellingRuns.{cell_next}
use Rattle.phase_run.proofs.tell.tell_finals.Goals as goal

pub loop-cell-preserved : goal.loop-cell-preserved
loop-cell-preserved g c = cell_next c.args.finals.now c.loop-cell.cell _ _ _ _ _ c.loop-cell-test.true refl c.loop-cell.invariant c.tell_final-told.ensures
