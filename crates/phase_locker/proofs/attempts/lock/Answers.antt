use Rattle.std.proofs.Common.{true}
use Rattle.phase_locker.proofs.Judging.{judged_fits}
use Rattle.phase_locker.proofs.Others.{judged_others, judged_rows}
use Rattle.phase_locker.proofs.Standing.{judged_stands}
use Rattle.phase_locker.proofs.Opening.{judged_opens}
use Rattle.phase_locker.proofs.attempts.lock.Goals as goal

pub returns-clause-left : goal.returns-clause-left
returns-clause-left g c = record {
  others = judged_others (g.S.Store.place c.args.store.now) true c.args.who c.args.wake c.how-nature.result (g.S.Store.kept c.args.store.now) c.args.parks.now c.judge.result (g.S.Store.kept c.judge.new.store) c.judge.new.parks c.requires.calls.party c.requires.calls.free c.judge.ensures.judged;
  fits = rw c.judge.ensures.place (judged_fits _ _ _ _ _ _ _ _ _ _ c.requires.calls.party c.requires.calls.free c.requires.fits c.judge.ensures.judged);
  place = c.judge.ensures.place;
  same = c.judge.ensures.same;
}

pub returns-clause-rows : goal.returns-clause-rows
returns-clause-rows g c = judged_rows (g.S.Store.place c.args.store.now) true c.args.who c.args.wake c.how-nature.result (g.S.Store.kept c.args.store.now) c.args.parks.now c.judge.result (g.S.Store.kept c.judge.new.store) c.judge.new.parks c.judge.ensures.judged

pub returns-clause-stands : goal.returns-clause-stands
returns-clause-stands g c = judged_stands (g.S.Store.place c.args.store.now) true c.args.who c.args.wake c.how-nature.result (g.S.Store.kept c.args.store.now) c.args.parks.now c.judge.result (g.S.Store.kept c.judge.new.store) c.judge.new.parks c.requires.calls.party c.requires.calls.free c.requires.fits c.judge.ensures.known c.judge.ensures.judged

pub returns-clause-opens : goal.returns-clause-opens
returns-clause-opens g c = judged_opens (g.S.Store.place c.args.store.now) true c.args.who c.args.wake c.how-nature.result (g.S.Store.kept c.args.store.now) c.args.parks.now c.judge.result (g.S.Store.kept c.judge.new.store) c.judge.new.parks c.requires.calls.party c.requires.calls.free c.requires.fits c.judge.ensures.judged

pub judge-requires-clause-parked : goal.judge-requires-clause-parked
judge-requires-clause-parked g c = λ e. (c.requires.fits.still e).0
