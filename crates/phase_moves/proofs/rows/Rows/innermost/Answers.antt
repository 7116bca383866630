use Rattle.phase_moves.proofs.Words.{◌≡◌, get_or, subst}
use Rattle.phase_moves.proofs.Looking.{runs_by}
use Rattle.phase_moves.proofs.rows.Rows.innermost.Goals as goal

pub returns-in-Some-innermost : goal.returns-in-Some-innermost
returns-in-Some-innermost g c = λ m r lt.
    runs_by g.L.PhaseLocker.held g.L.PhaseLocker.place m c.args.self.now r c.args.party c.in-Some-innermost.cell c.in-Some.of.now c.run.result lt (subst (λ xs. c.in-Some.of.now ≡ get_or xs c.args.party c.in-Some.of.now) c.deref.ensures.value c.in-Some.ensures.lookup.1) c.in-Some-innermost.is c.run.ensures
