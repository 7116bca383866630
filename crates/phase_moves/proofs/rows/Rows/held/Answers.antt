use Rattle.phase_moves.proofs.Words.{◌≡◌, ◌<◌, ◌∙◌, length, get_or, subst}
use Rattle.phase_moves.proofs.Looking.{holds_by}
use Rattle.phase_moves.proofs.rows.Rows.held.Goals as goal

pub returns-in-Some : goal.returns-in-Some
returns-in-Some g c = λ m r.
    c.shown.ensures
    ∙ holds_by g.L.PhaseLocker.held g.L.PhaseLocker.place m c.args.self.now r c.args.party c.args.guard c.in-Some.row.now (subst (λ xs. c.args.guard < length xs) c.deref.ensures.value c.in-Some.ensures.lookup.3.0) (subst (λ xs. c.in-Some.row.now ≡ get_or xs c.args.guard c.in-Some.row.now) c.deref.ensures.value c.in-Some.ensures.lookup.1)
