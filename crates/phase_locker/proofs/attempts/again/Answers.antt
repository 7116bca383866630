use Rattle.std.proofs.Common.{◌∙◌, arith, sym}
use Rattle.phase_locker.proofs.Keeping.{again_fits, freed_size, gives_up_freed}
use Rattle.phase_locker.proofs.Others.{again_others, again_rows, freed_others}
use Rattle.phase_locker.proofs.Spinning.{spins_again}
use Rattle.phase_locker.proofs.Standing.{Between, keeps_stands, between, again_stands}
use Rattle.phase_locker.proofs.Opening.{keeps_opens, again_opens, between_only}
use Rattle.phase_locker.proofs.attempts.again.Given as given
use Rattle.phase_locker.proofs.attempts.again.Goals as goal

pub returns-then-spins_on-clause-again : goal.returns-then-spins_on-clause-again
returns-then-spins_on-clause-again g c = record {
  nature = c.how-nature.result;
  allowed = rw (← c.stored_phase.ensures.phase) c.how-nature.ensures;
  steps = spins_again (g.S.Store.place c.args.store.now) c.args.who c.args.wake c.how-nature.result (g.S.Store.kept c.args.store.now) c.args.parks.now c.requires.calls.here c.requires.fits (rw c.waiting-waiting.ensures.waiting at (sym c.spins_on.ensures ∙ c.if-spins_on.true));
}

pub returns-then-keeps-clause-left : goal.returns-then-keeps-clause-left
returns-then-keeps-clause-left g c = record {
  others = rw c.keep.ensures.keeps.rows (freed_others c.args.who.cell c.args.who.party c.args.parks.now c.requires.calls.party c.requires.calls.here);
  fits = c.keep.ensures.fits;
  place = c.keep.ensures.place;
  same = c.keep.ensures.same;
}

pub returns-clause-left : goal.returns-clause-left
returns-clause-left g c = record {
  others =
      again_others (g.S.Store.place c.hand_over-given.new.store) c.ne-fresh.result c.args.who c.args.wake c.how-nature.result (g.S.Store.kept c.give_up.new.store) c.args.parks.now c.give_up.new.parks c.hand_over-given.result (g.S.Store.kept c.hand_over-given.new.store) c.hand_over-given.new.parks c.judge.result (g.S.Store.kept c.judge.new.store) c.judge.new.parks
      c.requires.calls.cell c.requires.calls.party c.requires.calls.here c.give_up.ensures.rows c.hand_over-given.ensures.sound c.hand_over-given.ensures.hands c.hand_over-given.ensures.free c.hand_over-given.ensures.same c.judge.ensures.judged;
  fits =
      rw c.judge.ensures.place (again_fits _ _ _ _ _ _ _ _ c.args.parks.now _ _ _ _ _ _ _ c.requires.calls.cell c.requires.calls.party c.requires.calls.here c.waiting-waiting.ensures.sound c.requires.fits
      (c.hand_over-given.ensures.place ∙ c.give_up.ensures.place) (rw (← c.waiting-waiting.ensures.waiting) c.give_up.ensures.kept) c.give_up.ensures.rows c.hand_over-given.ensures.sound c.hand_over-given.ensures.hands c.hand_over-given.ensures.free c.hand_over-given.ensures.same c.judge.ensures.judged);
  place = c.judge.ensures.place ∙ c.hand_over-given.ensures.place ∙ c.give_up.ensures.place;
  same = record {
    parties = c.judge.ensures.same.parties ∙ c.hand_over-given.ensures.same.parties ∙ (rw (← c.give_up.ensures.rows) at (freed_size c.args.who.party c.args.parks.now)).0;
    cells = c.judge.ensures.same.cells ∙ c.hand_over-given.ensures.same.cells ∙ (rw (← c.give_up.ensures.rows) at (freed_size c.args.who.party c.args.parks.now)).1;
  };
}

pub returns-clause-rows : goal.returns-clause-rows
returns-clause-rows g c =
    let size = rw (← c.give_up.ensures.rows) at (freed_size c.args.who.party c.args.parks.now) in
    again_rows (g.S.Store.place c.hand_over-given.new.store) c.ne-fresh.result c.args.who c.args.wake c.how-nature.result (g.S.Store.kept c.give_up.new.store) c.args.parks.now c.give_up.new.parks c.hand_over-given.result (g.S.Store.kept c.hand_over-given.new.store) c.hand_over-given.new.parks c.judge.result (g.S.Store.kept c.judge.new.store) c.judge.new.parks
    (omega (arith, c.requires.calls.cell, size.1)) c.give_up.ensures.rows c.hand_over-given.ensures.sound c.hand_over-given.ensures.hands c.judge.ensures.judged

stays_between : (g : given.Over) → (c : goal.After-judge g) → Between (g.S.Store.place c.hand_over-given.new.store) c.args.who (g.S.Store.kept c.args.store.now) c.args.parks.now (g.S.Store.kept c.hand_over-given.new.store) c.hand_over-given.new.parks
stays_between g c =
    between (g.S.Store.place c.args.store.now) (g.S.Store.place c.hand_over-given.new.store) c.args.who (g.S.Store.kept c.args.store.now) (g.S.Store.kept c.give_up.new.store) c.args.parks.now c.give_up.new.parks c.hand_over-given.result (g.S.Store.kept c.hand_over-given.new.store) c.hand_over-given.new.parks
    c.requires.calls.cell c.requires.calls.party c.requires.calls.here c.waiting-waiting.ensures.sound c.requires.fits
    (c.hand_over-given.ensures.place ∙ c.give_up.ensures.place) (rw (← c.waiting-waiting.ensures.waiting) c.give_up.ensures.kept) c.give_up.ensures.rows c.hand_over-given.ensures.sound c.hand_over-given.ensures.hands c.hand_over-given.ensures.free c.hand_over-given.ensures.same

pub returns-clause-stands : goal.returns-clause-stands
returns-clause-stands g c = again_stands (g.S.Store.place c.hand_over-given.new.store) c.ne-fresh.result c.args.who c.args.wake c.how-nature.result (g.S.Store.kept c.args.store.now) c.args.parks.now (g.S.Store.kept c.hand_over-given.new.store) c.hand_over-given.new.parks c.judge.result (g.S.Store.kept c.judge.new.store) c.judge.new.parks (stays_between g c) c.judge.ensures.known c.judge.ensures.judged

pub returns-then-keeps-clause-stands : goal.returns-then-keeps-clause-stands
returns-then-keeps-clause-stands g c =
    keeps_stands c.args.who c.how-nature.result (g.S.Store.place c.args.store.now) (g.S.Store.kept c.args.store.now) c.args.parks.now c.keep.result (g.S.Store.kept c.keep.new.store) c.keep.new.parks
    c.requires.calls.party c.requires.calls.here c.requires.fits (rw c.waiting-waiting.ensures.waiting at (sym c.keeps.ensures ∙ c.if-keeps.true)) c.keep.ensures.keeps.answer c.keep.ensures.keeps.rows c.keep.ensures.keeps.held

pub returns-clause-opens : goal.returns-clause-opens
returns-clause-opens g c =
    again_opens (g.S.Store.place c.hand_over-given.new.store) c.ne-fresh.result c.args.who c.args.wake c.how-nature.result (g.S.Store.kept c.args.store.now) c.args.parks.now (g.S.Store.kept c.hand_over-given.new.store) c.hand_over-given.new.parks c.judge.result (g.S.Store.kept c.judge.new.store) c.judge.new.parks (stays_between g c)
    (between_only c.args.who (g.S.Store.kept c.args.store.now) (g.S.Store.kept c.give_up.new.store) c.args.parks.now c.give_up.new.parks c.hand_over-given.result (g.S.Store.kept c.hand_over-given.new.store) c.hand_over-given.new.parks c.requires.calls.cell c.requires.calls.party c.requires.calls.here
    (rw (← c.waiting-waiting.ensures.waiting) c.give_up.ensures.kept) c.give_up.ensures.rows c.hand_over-given.ensures.sound c.hand_over-given.ensures.hands)
    c.judge.ensures.judged

pub returns-then-keeps-clause-opens : goal.returns-then-keeps-clause-opens
returns-then-keeps-clause-opens g c =
    keeps_opens c.args.who c.how-nature.result (g.S.Store.place c.args.store.now) (g.S.Store.kept c.args.store.now) c.args.parks.now c.keep.result (g.S.Store.kept c.keep.new.store) c.keep.new.parks
    c.requires.calls.party c.requires.calls.here c.requires.fits (rw c.waiting-waiting.ensures.waiting at (sym c.keeps.ensures ∙ c.if-keeps.true)) c.keep.ensures.keeps.answer c.keep.ensures.keeps.rows c.keep.ensures.keeps.held

pub hand_over-given-requires-clause-parked : goal.hand_over-given-requires-clause-parked
hand_over-given-requires-clause-parked g c =
    rw (c.give_up.ensures.place, c.give_up.ensures.rows) (λ e. ((gives_up_freed (g.S.Store.place c.args.store.now) (g.S.Store.kept c.args.store.now) c.args.parks.now c.args.who.cell c.args.who.party c.requires.calls.cell c.waiting-waiting.ensures.sound.cells c.requires.calls.party c.requires.calls.here c.requires.fits).still e).0)

pub judge-requires-clause-parked : goal.judge-requires-clause-parked
judge-requires-clause-parked g c = λ e.
    ((between (g.S.Store.place c.args.store.now) (g.S.Store.place c.hand_over-given.new.store) c.args.who (g.S.Store.kept c.args.store.now) (g.S.Store.kept c.give_up.new.store) c.args.parks.now c.give_up.new.parks c.hand_over-given.result (g.S.Store.kept c.hand_over-given.new.store) c.hand_over-given.new.parks
    c.requires.calls.cell c.requires.calls.party c.requires.calls.here c.waiting-waiting.ensures.sound c.requires.fits
    (c.hand_over-given.ensures.place ∙ c.give_up.ensures.place) (rw (← c.waiting-waiting.ensures.waiting) c.give_up.ensures.kept) c.give_up.ensures.rows c.hand_over-given.ensures.sound c.hand_over-given.ensures.hands c.hand_over-given.ensures.free c.hand_over-given.ensures.same).fits.still e).0
