use Rattle.phase_moves.proofs.Words.{◌∙◌, refl, ap, arith}
use Rattle.phase_moves.proofs.Lending.{got_fits, got_open, lend_kind, lends, none_waits, stays_held}
use Rattle.phase_moves.proofs.rows.Rows.lend.Goals as goal

pub returns-in_default-clause-lends : goal.returns-in_default-clause-lends
returns-in_default-clause-lends g c = λ hand m is.
    let r = c.try_write.ensures in let tried = rw c.in_default.is at r.tries in
    stays_held g.L.PhaseLocker.held g.L.PhaseLocker.place hand m c.args.self.now c.args.cell is c.index_mut-row.result.now c.index_mut-row.ensures.value _ (record c.index_mut-row.result.now { seq = c.try_write.new.cell }) refl refl refl refl refl refl refl refl r.running r.place r.parks
    (none_waits g.L.PhaseLocker.held g.L.PhaseLocker.place hand m c.args.self.now c.args.cell is c.index_mut-row.result.now c.index_mut-row.ensures.value c.index.result.now c.index.ensures (λ lt. let f = c.if-index-gt0.false in grind (arith, lt, f))) refl tried c.args.loan

pub find-lent-requires-clause-lends : goal.find-lent-requires-clause-lends
find-lent-requires-clause-lends g c = lend_kind g.L.PhaseLocker.held g.L.PhaseLocker.place c.requires.hand c.requires.m c.args.self.now c.args.cell c.requires.is c.index_mut-row.result.now c.index_mut-row.ensures.value

pub release_write-given-requires-clause-fits : goal.release_write-given-requires-clause-fits
release_write-given-requires-clause-fits g c =
    let r = c.try_write.ensures in
    got_fits g.L.PhaseLocker.held g.L.PhaseLocker.place c.requires.hand c.requires.m c.args.self.now c.args.cell c.requires.is c.index_mut-row.result.now c.index_mut-row.ensures.value
    (none_waits g.L.PhaseLocker.held g.L.PhaseLocker.place c.requires.hand c.requires.m c.args.self.now c.args.cell c.requires.is c.index_mut-row.result.now c.index_mut-row.ensures.value c.index.result.now c.index.ensures (λ lt. let f = c.if-index-gt0.false in grind (arith, lt, f))) c.try_write.new.cell.locker c.try_write.new.parks (rw c.in-Some.is at r.tries) r.fits r.place r.parks

pub release_write-given-requires-clause-open : goal.release_write-given-requires-clause-open
release_write-given-requires-clause-open g c =
    let r = c.try_write.ensures in
    got_open g.L.PhaseLocker.held g.L.PhaseLocker.place c.requires.hand c.requires.m c.args.self.now c.args.cell c.requires.is c.index_mut-row.result.now c.index_mut-row.ensures.value
    (none_waits g.L.PhaseLocker.held g.L.PhaseLocker.place c.requires.hand c.requires.m c.args.self.now c.args.cell c.requires.is c.index_mut-row.result.now c.index_mut-row.ensures.value c.index.result.now c.index.ensures (λ lt. let f = c.if-index-gt0.false in grind (arith, lt, f))) c.try_write.new.cell.locker c.try_write.new.parks (rw c.in-Some.is at r.tries) r.fits r.place r.parks

pub returns-clause-lends : goal.returns-clause-lends
returns-clause-lends g c = λ hand m is.
    let r = c.try_write.ensures in let e = c.release_write-given.ensures in
    lends g.L.PhaseLocker.held g.L.PhaseLocker.place hand m c.args.self.now c.args.cell is c.index_mut-row.result.now c.index_mut-row.ensures.value
    (none_waits g.L.PhaseLocker.held g.L.PhaseLocker.place hand m c.args.self.now c.args.cell is c.index_mut-row.result.now c.index_mut-row.ensures.value c.index.result.now c.index.ensures (λ lt. let f = c.if-index-gt0.false in grind (arith, lt, f))) c.try_write.new.cell.locker c.try_write.new.parks (rw c.in-Some.is at r.tries) r.fits r.place r.parks
    _ (record c.index_mut-row.result.now { value = c.find-lent.result.1.value; seq = c.release_write-given.new.cell }) refl refl refl refl refl refl refl refl (e.running ∙ r.running)
    c.find-lent.result.1 refl c.find-lent.ensures.known c.release_write-given.result e.hands e.reads e.closed e.left (record { phase = c.phase.result; value = c.index_mut-row.result.now.value }) (c.phase.ensures.phase ∙ ap (λ l. (g.L.PhaseLocker.held l).phase) c.locker.ensures) refl c.args.loan c.find-lent.result.0 c.find-lent.ensures.finds
