use Rattle.std.proofs.Common.{◌≡◌, false, rules, sym, ◌∙◌}
use Rattle.phase_seq.specs.Begins.{is_cyclic}
use Rattle.phase_seq.specs.Exactly.{is_run}
use Rattle.phase_seq.proofs.Exactness.{cyclic_exactly, tried_exactly, locks_exactly}
use Rattle.phase_seq.proofs.Sections.{section_stays, begun_apart, tried_writes}
use Rattle.phase_seq.proofs.Answered.{begun_by_stands, tried_stands, tried_opens, begun_by_opens}
use Rattle.phase_seq.proofs.sequentializer.LazySequentializer.enter.Goals as goal

pub returns-then-ask-clause-stands : goal.returns-then-ask-clause-stands
returns-then-ask-clause-stands g c =
    rw (c.begun_tried.ensures.running, c.begun_tried.ensures.locker, c.begun_tried.ensures.begun, c.phase-phase.ensures.phase)
    (tried_stands (g.L.PhaseLocker.place c.args.self.now.locker) c.args.who c.args.ask c.args.self.now.running _ _ c.args.parks.now _ _ c.requires.fits c.requires.calls.free c.try_lock-got.ensures.tries)

pub returns-clause-stands : goal.returns-clause-stands
returns-clause-stands g c =
    rw (c.begun_by.ensures.running, c.begun_by.ensures.locker, c.begun_by.ensures.begun)
    (begun_by_stands c.args.who c.args.ask c.phase-phase.result c.lock-attempt.result.0 c.args.self.now.running _ _ c.phase-phase.ensures.known c.lock-attempt.ensures.stands)

pub returns-then-is_cyclic-clause-exactly : goal.returns-then-is_cyclic-clause-exactly
returns-then-is_cyclic-clause-exactly g c = cyclic_exactly c.args.who c.args.ask c.args.self.now.running _ (sym c.is_cyclic.ensures ∙ c.if-is_cyclic.true)

pub returns-then-ask-clause-exactly : goal.returns-then-ask-clause-exactly
returns-then-ask-clause-exactly g c =
    let apart : is_cyclic c.args.ask.want c.args.who.party c.args.self.now.running ≡ false = sym c.is_cyclic.ensures ∙ c.if-is_cyclic.false in
    rw (c.begun_tried.ensures.begun, c.phase-phase.ensures.phase)
    (tried_exactly c.args.who c.args.ask c.args.self.now.running _ _ _ _ apart c.if-ask.true (λ n e. search rules) c.try_lock-got.ensures.tries)

pub returns-clause-exactly : goal.returns-clause-exactly
returns-clause-exactly g c =
    let apart : is_cyclic c.args.ask.want c.args.who.party c.args.self.now.running ≡ false = sym c.is_cyclic.ensures ∙ c.if-is_cyclic.false in
    rw (c.begun_by.ensures.begun, c.phase-phase.ensures.phase)
    (locks_exactly c.args.who c.args.ask c.args.self.now.running _ (g.L.PhaseLocker.place c.args.self.now.locker) _ _ c.args.parks.now c.lock-attempt.result _ _ apart c.if-ask.false (λ n e. search rules) c.lock-attempt.ensures.locks)

pub returns-then-ask-clause-opens : goal.returns-then-ask-clause-opens
returns-then-ask-clause-opens g c =
    rw (c.begun_tried.ensures.locker, c.begun_tried.ensures.begun, c.phase-phase.ensures.phase)
    (tried_opens (g.L.PhaseLocker.place c.args.self.now.locker) c.args.who c.args.ask _ _ c.args.parks.now _ _ c.requires.fits c.try_lock-got.ensures.tries)

pub returns-clause-opens : goal.returns-clause-opens
returns-clause-opens g c =
    rw (c.begun_by.ensures.locker, c.begun_by.ensures.begun)
    (begun_by_opens c.args.who c.args.ask c.phase-phase.result c.lock-attempt.result.0 _ _ _ _ c.lock-attempt.ensures.opens)

pub returns-then-ask-clause-running : goal.returns-then-ask-clause-running
returns-then-ask-clause-running g c = record {
  running = c.begun_tried.ensures.running;
  sections = λ o here was.
      let kept = tried_writes _ (g.L.PhaseLocker.place c.args.self.now.locker) c.args.who.cell _ c.args.parks.now _ _ c.requires.fits c.try_lock-got.ensures.tries in
      let none : is_run c.begun_tried.result ≡ false = begun_apart c.begun_tried.result c.args.ask _ _ c.args.parks.now c.args.who.cell (returns-then-ask-clause-exactly g c).runs (rw here at was.locked) in
      rw c.begun_tried.ensures.locker (section_stays o c.begun_tried.result c.args.self.now.running _ _ _ c.args.parks.now c.args.parks.now none c.begun_tried.ensures.running (rw here kept) was);
}

pub returns-clause-running : goal.returns-clause-running
returns-clause-running g c = record {
  running = c.begun_by.ensures.running;
  sections = λ o here was.
      let none : is_run c.begun_by.result ≡ false = begun_apart c.begun_by.result c.args.ask _ _ c.args.parks.now c.args.who.cell (returns-clause-exactly g c).runs (rw here at was.locked) in
      rw c.begun_by.ensures.locker (section_stays o c.begun_by.result c.args.self.now.running _ _ _ c.args.parks.now _ none c.begun_by.ensures.running (rw here c.lock-attempt.ensures.opens.writes) was);
}
