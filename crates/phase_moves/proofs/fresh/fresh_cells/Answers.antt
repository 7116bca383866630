use Rattle.phase_moves.proofs.Words.{◌≡◌, ◌∙◌, ◌≤◌, ap, length, subst, sym, true, CellPlan, IsFreshCell, kind_at}
use Rattle.phase_moves.proofs.Starting.{planned_at, row_more, size_more}
use Rattle.phase_moves.proofs.fresh.fresh_cells.Goals as goal

pub loop-plan-preserved : goal.loop-plan-preserved
loop-plan-preserved g c =
    record {
      count = ap length c.push_reserved.ensures.items ∙ size_more c.loop-plan.rows.items c.fresh_cell.result c.loop-plan.plan-index c.loop-plan.invariant.count;
      each = row_more g.L.PhaseLocker.held g.L.PhaseLocker.place c.args.plans.now c.loop-plan.rows.items _ c.loop-plan.plan-index c.fresh_cell.result c.loop-plan.invariant.count c.loop-plan.invariant.each
          (subst (λ x. IsFreshCell g.L.PhaseLocker.held g.L.PhaseLocker.place x c.fresh_cell.result) (planned_at c.args.plans.now c.loop-plan.plan-index _ c.loop-plan-test.true) c.fresh_cell.ensures) c.push_reserved.ensures.items;
      room = subst (λ n. length c.args.plans.now ≤ n) (sym c.push_reserved.ensures.capacity) c.loop-plan.invariant.room;
    }

pub fresh_cell-requires : goal.fresh_cell-requires
fresh_cell-requires g c = subst (λ (x : CellPlan). g.L.PhaseLocker.takes (kind_at x.place) ≡ true) (sym (planned_at c.args.plans.now c.loop-plan.plan-index _ c.loop-plan-test.true)) (c.requires c.loop-plan.plan-index c.loop-plan-test.true)
