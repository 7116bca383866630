use Rattle.phase_locker.proofs.Keeping.{keeps_fit}
use Rattle.phase_locker.proofs.attempts.keep.Goals as goal

pub returns-in-Read-clause-fits : goal.returns-in-Read-clause-fits
returns-in-Read-clause-fits g c = rw (c.flag.ensures.place, c.flag.ensures.kept, c.free.ensures) (keeps_fit c.args.nature _ _ _ c.args.who.cell c.args.who.party c.requires.party c.requires.here c.requires.fits c.requires.keeps)

pub returns-in-Write-clause-fits : goal.returns-in-Write-clause-fits
returns-in-Write-clause-fits g c = rw (c.flag.ensures.place, c.flag.ensures.kept, c.free.ensures) (keeps_fit c.args.nature _ _ _ c.args.who.cell c.args.who.party c.requires.party c.requires.here c.requires.fits c.requires.keeps)

pub flag-requires-clause-parked : goal.flag-requires-clause-parked
flag-requires-clause-parked g c =
    rw c.free.ensures (λ e. ((keeps_fit c.args.nature (g.S.Store.place c.args.store.now) (g.S.Store.kept c.args.store.now) c.args.parks.now c.args.who.cell c.args.who.party c.requires.party c.requires.here c.requires.fits c.requires.keeps).still e).0)
