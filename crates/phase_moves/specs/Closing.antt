-- What is given back at the end.
use Rattle.std.specs.Prelude.{ℕ, List, ◌≡◌, ◌<◌, length, slice_get}
use Rattle.std.specs.declared.option.Option.TheVariants.{Some}
use Rattle.phase_bits.specs.declared.holders.Holders.{Holders}
use Rattle.phase_locker.specs.declared.ways.LockerKind.{LockerKind}
use Rattle.phase_locker.specs.Fits.{Fits}
use Rattle.phase_locker.specs.Others.{OthersStay}
use Rattle.phase_locker.specs.Rows.{Rows as Parking, SameSize}
use Rattle.phase_seq.specs.declared.section.Section.{Section}
use Rattle.phase_seq.specs.declared.sequentializer.LazySequentializer.{LazySequentializer}
use Rattle.phase_seq.specs.Stands.{IsFinalizing, IsRunning}
use Rattle.schedule_rules.specs.declared.step.Want.{Want}
use Rattle.schedule_rules.specs.declared.step.Want.TheVariants.{Calls, Turns}
use Rattle.schedule_rules.specs.Guards.{numbered}
use Rattle.phase_moves.specs.declared.rows.CellRow.{CellRow}
use Rattle.phase_moves.specs.declared.rows.GuardRow.{GuardRow}
use Rattle.phase_moves.specs.declared.rows.OpenRun.{OpenRun}
use Rattle.phase_moves.specs.declared.rows.Rows.{Rows}
use Rattle.phase_moves.specs.Standing.{Standing}
use Rattle.phase_moves.specs.Stands.{Stands, guard_row}
use Rattle.phase_moves.specs.Moves.{Rests}

-- the other cells stay
pub record StayBeside (c : ℕ) (old new : Parking) : Type 0 where
  pub others : OthersStay c old new
  pub same : SameSize old new

module _ {L : Type 0} (held : L → Holders) (place : L → LockerKind) where
  -- the rows stand for something
  pub record CanClose (v : Rows L) : Type 0 where
    pub m : Standing
    pub rests : Rests held place m v

  -- the row of the latest step was popped: the guard in hand is that of this row
  pub record IsPopped (row : GuardRow) (v : Rows L) : Type 0 where
    pub m : Standing
    pub stands : Stands held place (length v.guards.items) m v
    pub row_is : row ≡ guard_row (numbered (length v.guards.items) m.guards)

  -- ---- sections

  -- the section is open at its sequentializer, which runs its generator, or its finalizer
  abbrev pub RunsFor : Want → Section → LazySequentializer L (Unit {0}) → Parking → Type 0
  RunsFor (Calls k) section seq s = IsRunning section seq.running (held seq.locker) s
  RunsFor Turns section seq s = IsFinalizing section (held seq.locker) s

  -- the section of this cell is open
  pub record IsOpenRun (c : ℕ) (s : Parking) (seq : LazySequentializer L (Unit {0})) (want : Want) (section : Section) : Type 0 where
    pub at : section.who.cell ≡ c
    pub inside : c < length s.readers
    pub fits : Fits (place seq.locker) (held seq.locker) s c
    pub runs : RunsFor want section seq s

  -- what runs in the cell is open
  abbrev pub IsClosing : ℕ → Parking → CellRow L → Type 0
  IsClosing c s row = (o : OpenRun) → row.run ≡ Some o → IsOpenRun c s row.seq o.run.want o.section

  abbrev pub AreClosing : Parking → List (CellRow L) → Type 0
  AreClosing s rows = (c : ℕ) (row : CellRow L) → slice_get rows c ≡ Some row → IsClosing c s row
