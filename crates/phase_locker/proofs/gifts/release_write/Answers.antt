use Rattle.std.proofs.Common.{◌∙◌, ap, false}
use Rattle.phase_bits.specs.declared.holders.Holders.{Holders}
use Rattle.phase_locker.proofs.Holding.{hands_fit_at}
use Rattle.phase_locker.proofs.Leaving.{holds-leave_write}
use Rattle.phase_locker.proofs.Others.{hands_others, hands_rows}
use Rattle.phase_locker.proofs.Standing.{released_write_reads, released_closed}
use Rattle.phase_locker.proofs.gifts.release_write.Goals as goal

pub returns-clause-left : goal.returns-clause-left
returns-clause-left g c = record {
  others = hands_others _ _ _ _ _ _ c.requires.cell c.hand_over.ensures.sound c.hand_over.ensures.hands;
  fits =
      hands_fit_at _ _ _ _ _ _ _ _ _ (c.hand_over.ensures.place ∙ c.set_locked.ensures.place ∙ c.store_phase.ensures.place) (c.set_locked.ensures.kept ∙ ap (λ (h : Holders). record h { locked = false }) c.store_phase.ensures.kept) c.requires.cell c.hand_over.ensures.sound
      (holds-leave_write _ c.args.phase _ _ _ c.requires.fits c.requires.open) c.hand_over.ensures.hands;
  place = c.hand_over.ensures.place ∙ c.set_locked.ensures.place ∙ c.store_phase.ensures.place;
  same = c.hand_over.ensures.same;
}

pub returns-clause-rows : goal.returns-clause-rows
returns-clause-rows g c = hands_rows _ _ _ _ _ _ c.requires.cell c.hand_over.ensures.sound c.hand_over.ensures.hands

pub returns-clause-reads : goal.returns-clause-reads
returns-clause-reads g c =
    released_write_reads _ c.args.phase _ _ _ _ _ _ _ (c.set_locked.ensures.kept ∙ ap (λ (h : Holders). record h { locked = false }) c.store_phase.ensures.kept) c.requires.cell c.hand_over.ensures.sound c.requires.fits c.requires.open c.hand_over.ensures.hands

pub returns-clause-closed : goal.returns-clause-closed
returns-clause-closed g c =
    released_closed c.hand_over.result c.args.cell c.args.phase (g.S.Store.kept c.args.store.now) _ c.args.parks.now _ _ (c.set_locked.ensures.kept ∙ ap (λ (h : Holders). record h { locked = false }) c.store_phase.ensures.kept) c.requires.cell c.hand_over.ensures.sound c.hand_over.ensures.hands

pub hand_over-requires-clause-parked : goal.hand_over-requires-clause-parked
hand_over-requires-clause-parked g c = rw (c.set_locked.ensures.place ∙ c.store_phase.ensures.place) (λ e. (c.requires.fits.still e).0)
