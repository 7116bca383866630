-- When a gift may be given.
use Rattle.std.specs.Prelude.{ℕ, true, ◌≡◌, ◌+◌}
use Rattle.phase_bits.specs.declared.holders.Holders.{Holders}
use Rattle.phase_locker.specs.declared.ways.LockerKind.{LockerKind}
use Rattle.phase_locker.specs.declared.ways.Given.{Given}
use Rattle.phase_locker.specs.declared.ways.Given.TheVariants as given
use Rattle.schedule_rules.specs.Kinds.{cell_at, is_parking}
use Rattle.schedule_rules.specs.History.{count}
use Rattle.schedule_rules.specs.Guards.{Guard}
use Rattle.schedule_rules.specs.Gifts.{reaches}
use Rattle.schedule_rules.specs.Waits.{shares_read, shares_write, drains_on}
use Rattle.phase_moves.specs.declared.rows.Rows.{Rows}
use Rattle.phase_moves.specs.Standing.{Standing, reads_in, writes_in, left}
use Rattle.phase_moves.specs.Moves.{IsReader, IsWriter}

-- what stands on a cell: holds, shares and drains
abbrev pub stand_on : ℕ → Standing → ℕ
stand_on c m = reads_in c m + count (shares_read c) m.waits + (writes_in c m + count (shares_write c) m.waits) + count (drains_on c) m.waits

-- a gift on a cell that parks, for calls that are parked there, once nothing stands on it
pub record IsGift (c : ℕ) (m : Standing) (g : Given) : Type 0 where
  pub parks : is_parking (cell_at m.plans c).place ≡ true
  pub reach : reaches c g m.waits ≡ true
  pub free : stand_on c m ≡ 0

-- nothing is given, or that
abbrev pub MayGive : ℕ → Standing → Given → Type 0
MayGive c m given.Nobody = Unit {0}
MayGive c m (given.Writer q) = IsGift c m (given.Writer q)
MayGive c m given.Readers = IsGift c m given.Readers

-- at a downgrade parked readers may be given shares as well, beside the reader
pub record IsShare (c : ℕ) (m : Standing) : Type 0 where
  pub parks : is_parking (cell_at m.plans c).place ≡ true
  pub reach : reaches c given.Readers m.waits ≡ true

abbrev pub MayGiveDown : ℕ → Standing → Given → Type 0
MayGiveDown c m given.Nobody = Unit {0}
MayGiveDown c m (given.Writer q) = ⊥
MayGiveDown c m given.Readers = IsShare c m

module _ {L : Type 0} (held : L → Holders) (place : L → LockerKind) where
  -- what is given as a guard is given back
  abbrev pub GivesRead : Rows L → ℕ → Given → Type 0
  GivesRead old c g = (hand : ℕ) (m : Standing) (x : Guard) → IsReader held place hand m old x c → MayGive x.cell (left x given.Nobody m) g

  abbrev pub GivesWrite : Rows L → ℕ → Given → Type 0
  GivesWrite old c g = (hand : ℕ) (m : Standing) (x : Guard) → IsWriter held place hand m old x c → MayGive x.cell (left x given.Nobody m) g

  abbrev pub GivesDown : Rows L → ℕ → Given → Type 0
  GivesDown old c g = (hand : ℕ) (m : Standing) (x : Guard) → IsWriter held place hand m old x c → MayGiveDown x.cell m g
