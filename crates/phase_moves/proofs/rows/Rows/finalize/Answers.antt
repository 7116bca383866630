use Rattle.phase_moves.proofs.Words.{◌∙◌, ◌<◌, [], ◌∷◌, ◌++◌, length, refl, sym, ap, arith, value_finalized, CellRow}
use Rattle.phase_moves.proofs.{Innermost.end_inside, Innermost.end_cell, Innermost.end_fits, Innermost.has_run, Finalizing.final_running, Finalizing.finalizes_as}
use Rattle.phase_moves.proofs.rows.Rows.finalize.Goals as goal

pub index_mut-row-requires : goal.index_mut-row-requires
index_mut-row-requires g c = let lt : c.args.cell < length c.args.self.now.cells.items = end_inside g.L.PhaseLocker.held g.L.PhaseLocker.place _ c.args.self.now _ _ _ c.requires.is.inner in grind arith

pub finish_final-given-requires-clause-cell : goal.finish_final-given-requires-clause-cell
finish_final-given-requires-clause-cell g c = end_cell g.L.PhaseLocker.held g.L.PhaseLocker.place _ c.args.self.now c.args.party c.args.cell _ c.requires.is.inner c.index_mut-row.result.now c.index_mut-row.ensures.value c.in-Some.open (sym c.take_run.ensures.run ∙ c.in-Some.is)

pub finish_final-given-requires-clause-finalizing : goal.finish_final-given-requires-clause-finalizing
finish_final-given-requires-clause-finalizing g c = rw c.take_run.ensures.row (final_running g.L.PhaseLocker.held g.L.PhaseLocker.place _ c.args.self.now c.args.party c.args.cell _ c.requires.is c.index_mut-row.result.now c.index_mut-row.ensures.value c.in-Some.open (sym c.take_run.ensures.run ∙ c.in-Some.is))

pub finish_final-given-requires-clause-fits : goal.finish_final-given-requires-clause-fits
finish_final-given-requires-clause-fits g c = rw c.take_run.ensures.row (end_fits g.L.PhaseLocker.held g.L.PhaseLocker.place _ c.args.self.now c.args.party c.args.cell _ c.requires.is.inner c.index_mut-row.result.now c.index_mut-row.ensures.value c.in-Some.open (sym c.take_run.ensures.run ∙ c.in-Some.is))

pub returns-in_default-clause-finalizes : goal.returns-in_default-clause-finalizes
returns-in_default-clause-finalizes g c = λ m s is. has_run g.L.PhaseLocker.held g.L.PhaseLocker.place m c.args.self.now c.args.party c.args.cell s is.inner c.index_mut-row.result.now c.index_mut-row.ensures.value (sym c.take_run.ensures.run ∙ c.in_default.is)

pub returns-clause-finalizes : goal.returns-clause-finalizes
returns-clause-finalizes g c = λ m s is.
    let r = c.finish_final-given.ensures in let e = c.take_run.ensures.row in
    finalizes_as g.L.PhaseLocker.held g.L.PhaseLocker.place m c.args.self.now c.args.party c.args.cell s is c.index_mut-row.result.now c.index_mut-row.ensures.value _ _ c.index_mut.result.now _ c.index_mut.ensures.value c.in-Some.open (sym c.take_run.ensures.run ∙ c.in-Some.is) refl refl refl refl
    (ap (λ (x : CellRow _). x.plan) e) (ap (λ (x : CellRow _). x.waiting) e) c.args.left (c.value_finalized-row.ensures ∙ (λ i. value_finalized (e i).plan.kind c.args.left (e i).value)) (ap (λ (x : CellRow _). x.run) e) (rw e at r.running) c.args.fine c.finish_final-given.result refl refl (c.push_reserved.ensures.items ∙ (λ i. c.args.self.now.exit.turns.items ++ record { cell = c.args.cell; turn = c.turn_of-turn.ensures i } ∷ [])) (rw e at r.finishes) r.closed r.reads (rw e at r.left)
