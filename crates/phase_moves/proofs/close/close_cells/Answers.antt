use Rattle.phase_moves.proofs.Words.{◌∙◌}
use Rattle.phase_moves.proofs.Closing.{last_closing, rest_closing, rest_few}
use Rattle.phase_moves.proofs.close.close_cells.Goals as goal

pub close_cell-requires : goal.close_cell-requires
close_cell-requires g c =
    last_closing g.L.PhaseLocker.held g.L.PhaseLocker.place c.loop-row.parks c.loop-row.cells.items c.pop.new.self.items c.in-Some.row c.len.result c.loop-row.invariant.closing c.in-Some.ensures.items (c.len.ensures ∙ c.pop.new.self.ok.0)

pub loop-row-preserved : goal.loop-row-preserved
loop-row-preserved g c =
    record {
      closing = rest_closing g.L.PhaseLocker.held g.L.PhaseLocker.place c.loop-row.parks _ c.loop-row.cells.items c.pop.new.self.items c.in-Some.row c.len.result c.loop-row.invariant.closing c.in-Some.ensures.items (c.len.ensures ∙ c.pop.new.self.ok.0) c.close_cell.ensures;
      few = rest_few c.loop-row.cells.items c.pop.new.self.items c.in-Some.row _ c.loop-row.invariant.few c.in-Some.ensures.items;
    }
