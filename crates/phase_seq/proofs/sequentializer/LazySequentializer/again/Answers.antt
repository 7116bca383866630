use Rattle.std.proofs.Common.{◌≡◌, ◌∙◌, false, Some, ap, subst, refl}
use Rattle.phase_seq.specs.Registers.{Settles}
use Rattle.phase_seq.specs.Exactly.{is_run}
use Rattle.phase_seq.proofs.Exactness.{settled_again}
use Rattle.phase_seq.proofs.Settled.{others_then, settled_opens}
use Rattle.phase_seq.proofs.sequentializer.LazySequentializer.again.Goals as goal

pub returns-in-Some-clause-resumes : goal.returns-in-Some-clause-resumes
returns-in-Some-clause-resumes g c =
    let e = c.resume-begun in
    rw c.in-Some.is (record {
      entered = e.result;
      held = g.L.PhaseLocker.held e.new.self.locker;
      rows = e.new.parks;
      enters = e.ensures.resumes;
      fits = rw e.ensures.left.place at e.ensures.left.fits;
      others = e.ensures.left.others;
      same = e.ensures.left.same;
      settles = subst (λ p. Settles c.args.ask.tol.leak c.in-Some.registry.now p e.result (g.L.PhaseLocker.held e.new.self.locker) e.new.parks c.settle.result (g.L.PhaseLocker.held c.settle.new.self.locker) c.settle.new.parks) c.phase-phase.ensures.phase c.settle.ensures.settles;
    })

pub returns-in-Some-clause-registry : goal.returns-in-Some-clause-registry
returns-in-Some-clause-registry g c = rw c.in-Some.is (ap (λ m. Some m) (rw (c.resume-begun.ensures.exactly.runs, ← c.settle.ensures.exactly.admitted, c.phase-phase.ensures.phase) at c.settle.ensures.registry))

pub returns-in-Some-clause-left : goal.returns-in-Some-clause-left
returns-in-Some-clause-left g c =
    let e = c.resume-begun in
    record {
      others = others_then c.args.who.cell c.args.parks.now e.new.parks c.settle.new.parks e.ensures.left.others c.settle.ensures.left.others;
      fits = c.settle.ensures.left.fits;
      place = c.settle.ensures.left.place ∙ e.ensures.left.place;
      same = record { parties = c.settle.ensures.left.same.parties ∙ e.ensures.left.same.parties; cells = c.settle.ensures.left.same.cells ∙ e.ensures.left.same.cells };
    }

pub returns-in-Some-clause-running : goal.returns-in-Some-clause-running
returns-in-Some-clause-running g c = record {
  running = c.settle.ensures.running;
  sections = λ o here was.
      let none : is_run c.resume-begun.result.0 ≡ false = c.resume-begun.ensures.alone.fresh (rw here at was.locked) in
      let still = c.settle.ensures.still none in
      rw (still.1, still.2, still.3) (c.resume-begun.ensures.running.sections o here was);
}

pub returns-in-Some-clause-opens : goal.returns-in-Some-clause-opens
returns-in-Some-clause-opens g c =
    let e = c.resume-begun in
    settled_opens (is_run e.result.0) e.result.0 c.settle.result.0 c.args.who.cell (g.L.PhaseLocker.held c.args.self.now.locker) c.args.parks.now (g.L.PhaseLocker.held e.new.self.locker) e.new.parks (g.L.PhaseLocker.held c.settle.new.self.locker) c.settle.new.parks refl e.ensures.opens e.ensures.alone.fresh
    (λ none. let still = c.settle.ensures.still none in (ap (λ r. r.0) still.0, still.1, still.2)) c.settle.ensures.reads c.settle.ensures.closes

pub returns-in-Some-clause-exactly : goal.returns-in-Some-clause-exactly
returns-in-Some-clause-exactly g c =
    rw c.in-Some.is (settled_again c.args.who c.args.ask c.args.self.now.running (g.L.PhaseLocker.held c.args.self.now.locker) c.args.parks.now _ c.resume-begun.result.0 c.settle.result.0 c.resume-begun.ensures.exactly (rw c.phase-phase.ensures.phase at c.settle.ensures.exactly))
