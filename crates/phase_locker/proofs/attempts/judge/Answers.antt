use Rattle.std.proofs.Common.{◌≡◌, ◌∙◌, sym, true, false, refl, ap}
use Rattle.phase_locker.specs.declared.tickets.Attempt.TheVariants.{Got}
use Rattle.phase_locker.specs.Natures.{bars}
use Rattle.phase_locker.specs.Fits.{flagged}
use Rattle.phase_locker.proofs.Judging.{parked_way, waits_unparked}
use Rattle.phase_locker.proofs.attempts.judge.Goals as goal

pub returns-then-bars-clause-judged : goal.returns-then-bars-clause-judged
returns-then-bars-clause-judged g c =
    let e : bars (g.S.Store.kept c.args.store.now) c.args.nature ≡ true = sym c.bars.ensures.bars ∙ c.if-bars.true in
    let way = parked_way (g.S.Store.place c.args.store.now) c.args.wake c.wait-way.result c.args.fresh c.args.nature (g.S.Store.kept c.args.store.now) c.wait-way.ensures.may in
    rw e (record { how = c.wait-way.result; may = way.0; answer = refl; rows = c.wait-way.ensures.rows; held = c.flag.ensures.kept ∙ ap (flagged c.args.who.cell c.wait-way.new.parks) (sym way.1) })

pub returns-clause-judged : goal.returns-clause-judged
returns-clause-judged g c =
    let e : bars (g.S.Store.kept c.args.store.now) c.args.nature ≡ false = sym c.bars.ensures.bars ∙ c.if-bars.false in
    rw e (record { answer = ap (λ r. Got r) c.admit-got.ensures.got; rows = refl; held = c.flag-2.ensures.kept ∙ ap (flagged c.args.who.cell c.args.parks.now) c.admit-got.ensures.kept })

pub flag-requires-clause-parked : goal.flag-requires-clause-parked
flag-requires-clause-parked g c = rw c.wait-way.ensures.rows (waits_unparked c.wait-way.result (g.S.Store.place c.args.store.now) c.args.wake c.args.who c.args.parks.now c.wait-way.ensures.may c.requires.parked)
