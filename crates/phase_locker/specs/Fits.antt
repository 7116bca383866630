-- What fits of the record of a cell and the rows of the parties.
use Rattle.std.specs.Prelude.{◌≡◌, ℕ, ◌-◌, ◌<◌, ◌≤◌, Bool, true, false, not}
use Rattle.phase_bits.specs.declared.holders.Holders.{Holders}
use Rattle.phase_locker.specs.declared.ways.LockerKind.{LockerKind}
use Rattle.phase_locker.specs.declared.ways.LockerKind.TheVariants.{Park, Spin, Own}
use Rattle.phase_locker.specs.Rows.{Rows, no_rows, readers_of, writers_of, is_empty, shares, drains, claims}

-- calls of this kind park
abbrev pub is_park : LockerKind → Bool
is_park Park = true
is_park Spin = false
is_park Own = false

-- nobody is parked at this cell
abbrev pub NobodyParked : Rows → ℕ → Type 0
NobodyParked s c = (is_empty (readers_of s c) ≡ true) × (is_empty (writers_of s c) ≡ true)

-- calls are parked only on a kind that parks
abbrev pub ParkedOnPark : LockerKind → Rows → ℕ → Type 0
ParkedOnPark k s c = is_park k ≡ false → NobodyParked s c

-- the record of a cell and the rows go together:
-- the waiter flags say that the lists are not empty;
-- read shares are among the readers;
-- at most one party has a claim, and then the record is locked;
-- beside readers it is locked for a drain alone;
-- calls are parked only where the record has a reader or is locked;
-- on a kind that does not park nobody is parked or has a share or a claim
pub record Fits (k : LockerKind) (h : Holders) (s : Rows) (c : ℕ) : Type 0 where
  pub read_flag : h.read_waiters ≡ not (is_empty (readers_of s c))
  pub write_flag : h.write_waiters ≡ not (is_empty (writers_of s c))
  pub shared : shares s c ≤ h.readers
  pub one : claims s c ≤ 1
  pub locked : h.locked ≡ false → claims s c ≡ 0
  pub drained : h.locked ≡ true → 0 < h.readers → 0 < drains s c
  pub idle : h.locked ≡ false → h.readers ≡ 0 → NobodyParked s c
  pub still : is_park k ≡ false → NobodyParked s c × (shares s c ≡ 0) × (claims s c ≡ 0)

-- the record goes with rows of which nobody waits
abbrev pub FitsNew : LockerKind → Holders → Type 0
FitsNew k h = (cells parties c : ℕ) → Fits k h (no_rows cells parties) c

-- the record with the waiter flags that the lists of the cell give
abbrev pub flagged : ℕ → Rows → Holders → Holders
flagged c s h = record {
  phase = h.phase;
  readers = h.readers;
  locked = h.locked;
  read_waiters = not (is_empty (readers_of s c));
  write_waiters = not (is_empty (writers_of s c));
}

-- how many read holds are open: the readers beyond the shares
abbrev pub open_reads : Holders → Rows → ℕ → ℕ
open_reads h s c = h.readers - shares s c

-- a write hold is open: the record is locked, and for no claim
pub record IsWriteOpen (h : Holders) (s : Rows) (c : ℕ) : Type 0 where
  pub locked : h.locked ≡ true
  pub unclaimed : claims s c ≡ 0

-- no hold, share or claim is left
pub record IsIdle (h : Holders) : Type 0 where
  pub readers : h.readers ≡ 0
  pub locked : h.locked ≡ false

-- the new record goes with all rows that the old one went with
abbrev pub KeepsFit : LockerKind → Holders → Holders → Type 0
KeepsFit k old new = (s : Rows) (c : ℕ) → Fits k old s c → Fits k new s c
