use Rattle.phase_moves.proofs.Words.{◌∙◌, ◌<◌, length, refl, sym, ap, arith, CellRow}
use Rattle.phase_moves.proofs.Ending.{end_running, end_room, is_made, ends_failed, ends_read, ends_write, ends_phase}
use Rattle.phase_moves.proofs.Innermost.{end_inside, end_cell, end_fits, has_run}
use Rattle.phase_moves.proofs.rows.Rows.end.Goals as goal

pub index_mut-row-requires : goal.index_mut-row-requires
index_mut-row-requires g c = let lt : c.args.cell < length c.args.self.now.cells.items = end_inside g.L.PhaseLocker.held g.L.PhaseLocker.place _ c.args.self.now _ _ _ c.requires.is.inner in grind arith

pub finish-finished-requires-clause-cell : goal.finish-finished-requires-clause-cell
finish-finished-requires-clause-cell g c = end_cell g.L.PhaseLocker.held g.L.PhaseLocker.place _ c.args.self.now c.args.party c.args.cell _ c.requires.is.inner c.index_mut-row.result.now c.index_mut-row.ensures.value c.in-Some.open (sym c.take_run.ensures.run ∙ c.in-Some.is)

pub finish-finished-requires-clause-running : goal.finish-finished-requires-clause-running
finish-finished-requires-clause-running g c = rw c.take_run.ensures.row (end_running g.L.PhaseLocker.held g.L.PhaseLocker.place _ c.args.self.now c.args.party c.args.cell _ _ c.requires.is c.index_mut-row.result.now c.index_mut-row.ensures.value c.in-Some.open (sym c.take_run.ensures.run ∙ c.in-Some.is))

pub finish-finished-requires-clause-fits : goal.finish-finished-requires-clause-fits
finish-finished-requires-clause-fits g c = rw c.take_run.ensures.row (end_fits g.L.PhaseLocker.held g.L.PhaseLocker.place _ c.args.self.now c.args.party c.args.cell _ c.requires.is.inner c.index_mut-row.result.now c.index_mut-row.ensures.value c.in-Some.open (sym c.take_run.ensures.run ∙ c.in-Some.is))

pub finish-finished-requires-clause-room : goal.finish-finished-requires-clause-room
finish-finished-requires-clause-room g c = λ e. end_room g.L.PhaseLocker.held g.L.PhaseLocker.place _ c.args.self.now c.args.party c.args.cell c.args.made _ c.requires.is c.index_mut-row.result.now c.index_mut-row.ensures.value c.in-Some.open (sym c.take_run.ensures.run ∙ c.in-Some.is) c.is_some.result (is_made c.args.made c.is_some.result c.is_some.ensures) e.1

pub returns-in-Read-clause-ends : goal.returns-in-Read-clause-ends
returns-in-Read-clause-ends g c = λ m s is.
    let r = c.finish-finished.ensures in let e = c.take_run.ensures.row in
    ends_read g.L.PhaseLocker.held g.L.PhaseLocker.place m c.args.self.now c.args.party c.args.cell c.args.made s is c.index_mut-row.result.now c.index_mut-row.ensures.value _ _ c.index_mut.result.now _ c.index_mut.ensures.value c.in-Some.open (sym c.take_run.ensures.run ∙ c.in-Some.is) refl refl refl refl refl
    (ap (λ (x : CellRow _). x.plan) e) (ap (λ (x : CellRow _). x.waiting) e) (ap (λ (x : CellRow _). x.run) e) r.running c.is_some.result (is_made c.args.made c.is_some.result c.is_some.ensures) c.finish-finished.result (rw e at r.finishes) r.stands r.reads (rw e at r.left) c.in-Read.lock c.in-Read.phase c.in-Read.is refl

pub returns-in-Write-clause-ends : goal.returns-in-Write-clause-ends
returns-in-Write-clause-ends g c = λ m s is.
    let r = c.finish-finished.ensures in let e = c.take_run.ensures.row in
    ends_write g.L.PhaseLocker.held g.L.PhaseLocker.place m c.args.self.now c.args.party c.args.cell c.args.made s is c.index_mut-row.result.now c.index_mut-row.ensures.value _ _ c.index_mut.result.now _ c.index_mut.ensures.value c.in-Some.open (sym c.take_run.ensures.run ∙ c.in-Some.is) refl refl refl refl refl
    (ap (λ (x : CellRow _). x.plan) e) (ap (λ (x : CellRow _). x.waiting) e) (ap (λ (x : CellRow _). x.run) e) r.running c.is_some.result (is_made c.args.made c.is_some.result c.is_some.ensures) c.finish-finished.result (rw e at r.finishes) r.stands r.reads (rw e at r.left) c.in-Write.lock c.in-Write.phase c.in-Write.is (ap (λ (x : CellRow _). x.value) e) refl

pub returns-in-Failed-clause-ends : goal.returns-in-Failed-clause-ends
returns-in-Failed-clause-ends g c = λ m s is.
    let r = c.finish-finished.ensures in let e = c.take_run.ensures.row in
    ends_failed g.L.PhaseLocker.held g.L.PhaseLocker.place m c.args.self.now c.args.party c.args.cell c.args.made s is c.index_mut-row.result.now c.index_mut-row.ensures.value _ _ c.index_mut.result.now _ c.index_mut.ensures.value c.in-Some.open (sym c.take_run.ensures.run ∙ c.in-Some.is) refl refl refl refl refl
    (ap (λ (x : CellRow _). x.plan) e) (ap (λ (x : CellRow _). x.waiting) e) (ap (λ (x : CellRow _). x.run) e) r.running c.is_some.result (is_made c.args.made c.is_some.result c.is_some.ensures) c.finish-finished.result (rw e at r.finishes) r.stands r.reads (rw e at r.left) c.in-Failed.phase c.in-Failed.is (ap (λ (x : CellRow _). x.value) e)

pub returns-in-Phase-clause-ends : goal.returns-in-Phase-clause-ends
returns-in-Phase-clause-ends g c = λ m s is.
    let r = c.finish-finished.ensures in let e = c.take_run.ensures.row in
    ends_phase g.L.PhaseLocker.held g.L.PhaseLocker.place m c.args.self.now c.args.party c.args.cell c.args.made s is c.index_mut-row.result.now c.index_mut-row.ensures.value _ _ c.index_mut.result.now _ c.index_mut.ensures.value c.in-Some.open (sym c.take_run.ensures.run ∙ c.in-Some.is) refl refl refl refl refl
    (ap (λ (x : CellRow _). x.plan) e) (ap (λ (x : CellRow _). x.waiting) e) (ap (λ (x : CellRow _). x.run) e) r.running c.is_some.result (is_made c.args.made c.is_some.result c.is_some.ensures) c.finish-finished.result (rw e at r.finishes) r.stands r.reads (rw e at r.left) c.in-Phase.phase c.in-Phase.is refl

pub returns-in_default-clause-ends : goal.returns-in_default-clause-ends
returns-in_default-clause-ends g c = λ m s is. has_run g.L.PhaseLocker.held g.L.PhaseLocker.place m c.args.self.now c.args.party c.args.cell s is.inner c.index_mut-row.result.now c.index_mut-row.ensures.value (sym c.take_run.ensures.run ∙ c.in_default.is)
