-- A worker that counts sections.
use Rattle.std.specs.Prelude.{ℕ, ◌≡◌}
use Rattle.lazy_threads.specs.declared.seat.CellSeat.{CellSeat}
use Rattle.lazy_threads.specs.declared.table.SyncTable.{SyncTable}
use Rattle.lazy_threads.specs.declared.view.Hold.TheVariants as hold
use Rattle.lazy_threads.specs.Seats.{IsSeatOf, view_of}

-- the seat is of this word, holds no lock, and has recorded so many sections
pub record HasRecorded (word : SyncTable) (n : ℕ) (seat : CellSeat) : Type 0 where
  pub table : IsSeatOf word seat
  pub free : (view_of seat).hold ≡ hold.Free
  pub recorded : seat.recorded ≡ n
