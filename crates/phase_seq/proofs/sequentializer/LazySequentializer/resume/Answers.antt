use Rattle.std.proofs.Common.{◌≡◌, false, rules, ◌∙◌, sym}
use Rattle.phase_seq.specs.Begins.{is_cyclic}
use Rattle.phase_seq.proofs.Sections.{section_stays, again_apart}
use Rattle.phase_seq.proofs.Answered.{begun_by_stands, begun_by_opens}
use Rattle.phase_seq.specs.Exactly.{is_run}
use Rattle.phase_seq.proofs.Exactness.{again_exactly, cyclic_again}
use Rattle.phase_seq.proofs.Resumed.{resumed}
use Rattle.phase_seq.proofs.Settled.{again_quiet}
use Rattle.phase_seq.proofs.sequentializer.LazySequentializer.resume.Goals as goal

pub returns-clause-resumes : goal.returns-clause-resumes
returns-clause-resumes g c =
    let apart : is_cyclic c.args.ask.want c.args.who.party c.args.self.now.running ≡ false = sym c.is_cyclic.ensures ∙ c.if-is_cyclic.false in
    rw c.begun_by.ensures.locker (resumed _ _ c.args.who c.args.ask c.args.self.now.running _ _ _ c.again-attempt.result c.begun_by.result _ _ apart c.wake.ensures.wake (λ n e. search rules) c.again-attempt.ensures.again (rw (← c.phase-phase.ensures.phase) c.begun_by.ensures.begun))

pub returns-clause-stands : goal.returns-clause-stands
returns-clause-stands g c =
    rw (c.begun_by.ensures.running, c.begun_by.ensures.locker, c.begun_by.ensures.begun)
    (begun_by_stands c.args.who c.args.ask c.phase-phase.result c.again-attempt.result.0 c.args.self.now.running _ _ c.phase-phase.ensures.known c.again-attempt.ensures.stands)

pub returns-clause-alone : goal.returns-clause-alone
returns-clause-alone g c = record {
  fresh = λ held.
      rw (c.begun_by.ensures.begun, c.phase-phase.ensures.phase) (again_apart _ (g.L.PhaseLocker.place c.args.self.now.locker) c.args.who c.args.ask _ _ c.args.parks.now c.again-attempt.result _ _ (λ n e. search rules)
      c.requires.calls.party c.requires.calls.here c.requires.fits c.again-attempt.ensures.again held);
  quiet = λ run.
      again_quiet _ (g.L.PhaseLocker.place c.args.self.now.locker) c.args.who c.args.ask _ _ c.args.parks.now c.again-attempt.result _ _ (λ n e. search rules) c.again-attempt.ensures.again
      (rw (c.begun_by.ensures.begun, c.phase-phase.ensures.phase) at run);
}

pub returns-clause-exactly : goal.returns-clause-exactly
returns-clause-exactly g c =
    let apart : is_cyclic c.args.ask.want c.args.who.party c.args.self.now.running ≡ false = sym c.is_cyclic.ensures ∙ c.if-is_cyclic.false in
    rw (c.begun_by.ensures.begun, c.phase-phase.ensures.phase)
    (again_exactly c.args.who c.args.ask c.args.self.now.running _ (g.L.PhaseLocker.place c.args.self.now.locker) _ _ c.args.parks.now c.again-attempt.result _ _ apart (λ n e. search rules) c.again-attempt.ensures.again)

pub returns-then-is_cyclic-clause-exactly : goal.returns-then-is_cyclic-clause-exactly
returns-then-is_cyclic-clause-exactly g c = cyclic_again c.args.who c.args.ask c.args.self.now.running _ c.args.parks.now (sym c.is_cyclic.ensures ∙ c.if-is_cyclic.true)

pub returns-clause-opens : goal.returns-clause-opens
returns-clause-opens g c =
    rw (c.begun_by.ensures.locker, c.begun_by.ensures.begun)
    (begun_by_opens c.args.who c.args.ask c.phase-phase.result c.again-attempt.result.0 _ _ _ _ c.again-attempt.ensures.opens)

pub returns-clause-running : goal.returns-clause-running
returns-clause-running g c = record {
  running = c.begun_by.ensures.running;
  sections = λ o here was.
      let none : is_run c.begun_by.result ≡ false = (returns-clause-alone g c).fresh (rw here at was.locked) in
      rw c.begun_by.ensures.locker (section_stays o c.begun_by.result c.args.self.now.running _ _ _ c.args.parks.now _ none c.begun_by.ensures.running (rw here c.again-attempt.ensures.opens.writes) was);
}
