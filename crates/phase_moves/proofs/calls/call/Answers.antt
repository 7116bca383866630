use Rattle.phase_moves.proofs.Words.{◌≡◌, true, ◌∙◌, sym, is_finalizable, is_run}
use Rattle.phase_moves.proofs.Registering.{asked_as_run, some_same}
use Rattle.phase_moves.proofs.calls.call.Goals as goal

pub returns-else-waits-clause-registry : goal.returns-else-waits-clause-registry
returns-else-waits-clause-registry g c =
    let r = c.begin in let e : is_finalizable c.args.kind ≡ true = sym c.finalizable.ensures ∙ c.if-finalizable.true in
    rw e (some_same _ _ r.ensures.registry ∙ asked_as_run c.args.ask.tol.leak c.args.registry.now c.args.who.cell (g.L.PhaseLocker.held c.args.cell.now.locker).phase _ (is_run r.result.0) r.ensures.exactly.runs)
