use Rattle.std.proofs.Common.{◌∙◌}
use Rattle.phase_locker.proofs.Holding.{hands_fit_at}
use Rattle.phase_locker.proofs.Leaving.{holds-leave_read}
use Rattle.phase_locker.proofs.Others.{hands_others, hands_rows}
use Rattle.phase_locker.proofs.Standing.{released_reads}
use Rattle.phase_locker.proofs.Opening.{released_none}
use Rattle.phase_locker.proofs.gifts.release_read.Goals as goal

pub returns-clause-left : goal.returns-clause-left
returns-clause-left g c = record {
  others = hands_others _ _ _ _ _ _ c.requires.cell c.hand_over.ensures.sound c.hand_over.ensures.hands;
  fits =
      hands_fit_at _ _ _ _ _ _ _ _ _ (c.hand_over.ensures.place ∙ c.drop_reader.ensures.place) c.drop_reader.ensures.kept c.requires.cell c.hand_over.ensures.sound
      (holds-leave_read _ _ _ _ c.requires.fits c.requires.open) c.hand_over.ensures.hands;
  place = c.hand_over.ensures.place ∙ c.drop_reader.ensures.place;
  same = c.hand_over.ensures.same;
}

pub returns-clause-rows : goal.returns-clause-rows
returns-clause-rows g c = hands_rows _ _ _ _ _ _ c.requires.cell c.hand_over.ensures.sound c.hand_over.ensures.hands

pub returns-clause-reads : goal.returns-clause-reads
returns-clause-reads g c = released_reads _ _ _ _ _ _ _ c.drop_reader.ensures.kept c.requires.cell c.hand_over.ensures.sound c.requires.open c.hand_over.ensures.hands

pub returns-clause-closed : goal.returns-clause-closed
returns-clause-closed g c = released_none _ _ _ _ _ _ _ _ c.drop_reader.ensures.kept c.requires.cell c.hand_over.ensures.sound c.requires.fits c.requires.open c.hand_over.ensures.hands

pub hand_over-requires-clause-parked : goal.hand_over-requires-clause-parked
hand_over-requires-clause-parked g c = rw c.drop_reader.ensures.place (λ e. (c.requires.fits.still e).0)
