use Rattle.std.proofs.Common.{◌∙◌, ap, arith, false, refl}
use Rattle.phase_bits.specs.declared.holders.Holders.{Holders}
use Rattle.phase_locker.proofs.Leaving.{downgraded_fits, write_has_no_reader}
use Rattle.phase_locker.proofs.Standing.{downgraded_reads}
use Rattle.phase_locker.proofs.Others.{others_refl}
use Rattle.phase_locker.proofs.gifts.downgrade.Goals as goal

pub add_readers-requires : goal.add_readers-requires
add_readers-requires g c =
    let same = ap (λ (h : Holders). h.readers) (c.set_locked.ensures.kept ∙ ap (λ (h : Holders). record h { locked = false }) c.store_phase.ensures.kept) in
    omega (arith, same, write_has_no_reader _ _ _ _ c.requires.fits c.requires.open)

pub returns-clause-left : goal.returns-clause-left
returns-clause-left g c = record {
  others = others_refl c.args.cell c.args.parks.now;
  fits =
      rw (c.flag.ensures.place, c.add_readers.ensures.place, c.set_locked.ensures.place, c.store_phase.ensures.place, c.flag.ensures.kept, c.add_readers.ensures.kept, c.set_locked.ensures.kept, c.store_phase.ensures.kept)
      (downgraded_fits _ c.args.phase _ _ _ c.requires.fits c.requires.open);
  place = c.flag.ensures.place ∙ c.add_readers.ensures.place ∙ c.set_locked.ensures.place ∙ c.store_phase.ensures.place;
  same = record { parties = refl; cells = refl };
}

pub returns-clause-reads : goal.returns-clause-reads
returns-clause-reads g c =
    rw (c.flag.ensures.kept, c.add_readers.ensures.kept, c.set_locked.ensures.kept, c.store_phase.ensures.kept)
    (downgraded_reads (g.S.Store.place c.args.store.now) c.args.phase (g.S.Store.kept c.args.store.now) _ c.args.parks.now c.args.cell c.requires.fits c.requires.open refl)

pub flag-requires-clause-parked : goal.flag-requires-clause-parked
flag-requires-clause-parked g c = rw (c.add_readers.ensures.place, c.set_locked.ensures.place, c.store_phase.ensures.place) (λ e. (c.requires.fits.still e).0)
