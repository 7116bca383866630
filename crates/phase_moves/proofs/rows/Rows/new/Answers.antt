use Rattle.phase_moves.proofs.Words.{vec_capacity, ◌∙◌, ap, refl, subst, ◌≤◌, new_registry, no_rows, AreFreshCells}
use Rattle.phase_moves.proofs.Starting.{fresh}
use Rattle.phase_moves.proofs.rows.Rows.new.Goals as goal

pub returns : goal.returns
returns g c =
    fresh g.L.PhaseLocker.held g.L.PhaseLocker.place c.args.plan.now c.args.count _ c.requires.parties
    (subst (λ xs. AreFreshCells g.L.PhaseLocker.held g.L.PhaseLocker.place xs c.in-Ok.cells.items) c.deref.ensures.value c.in-Ok.ensures)
    c.in_ok-parties.ensures (c.in_ok-parks.ensures ∙ ap (λ n. no_rows n c.args.plan.now.parties) (c.len.ensures ∙ c.args.plan.now.cells.ok.0)) c.in_ok-guards.ensures.items
    (c.in_ok-registry.ensures ∙ ap new_registry (c.len-2.ensures ∙ c.args.plan.now.cells.ok.0)) refl c.in_ok-turns.ensures.items c.in_ok-guards.ensures.exact (subst (λ n. n ≤ vec_capacity c.in_ok-turns.turns) (c.len-3.ensures ∙ c.args.plan.now.cells.ok.0) c.in_ok-turns.ensures.capacity)
