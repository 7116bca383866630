-- The lock of a cell that belongs to one party.
use Rattle.std.specs.Prelude.{◌≡◌, Bool, true, false}
use Rattle.phase_bits.specs.declared.holders.Holders.{Holders}
use Rattle.phase_locker.specs.declared.ways.LockerKind.{LockerKind}
use Rattle.phase_locker.specs.declared.ways.LockerKind.TheVariants.{Park, Spin, Own}

-- the cell belongs to one party
abbrev pub is_own : LockerKind → Bool
is_own Park = false
is_own Spin = false
is_own Own = true

-- a write hold is open: nobody reads beside it
pub record IsHeldToWrite (h : Holders) : Type 0 where
  pub locked : h.locked ≡ true
  pub alone : h.readers ≡ 0
