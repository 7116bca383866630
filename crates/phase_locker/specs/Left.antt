-- What a call at one cell leaves alone.
use Rattle.std.specs.Prelude.{◌≡◌, ℕ}
use Rattle.phase_bits.specs.declared.holders.Holders.{Holders}
use Rattle.phase_locker.specs.declared.ways.LockerKind.{LockerKind}
use Rattle.phase_locker.specs.Rows.{Rows, SameSize}
use Rattle.phase_locker.specs.Fits.{Fits}
use Rattle.phase_locker.specs.Others.{OthersStay}

-- the other cells stay; record and rows of this one still fit; the locker keeps its place, and the rows their number
pub record Left {L : Type 0} (held : L → Holders) (kind : L → LockerKind) (c : ℕ) (old new : L) (s s' : Rows) : Type 0 where
  pub others : OthersStay c s s'
  pub fits : Fits (kind new) (held new) s' c
  pub place : kind new ≡ kind old
  pub same : SameSize s s'
