-- What a clause sees of a table and of a seat.
use Rattle.std.specs.Prelude.{◌≡◌, ℕ, ◌+◌, ◌-◌, ◌^◌, Bool, if◌then◌else◌, min}
use Rattle.atomic_table.specs.Seated.{TableId}
use Rattle.lazy_threads.specs.declared.view.View.{View}
use Rattle.lazy_threads.specs.declared.table.SyncTable.{SyncTable}
use Rattle.lazy_threads.specs.declared.seat.CellSeat.{CellSeat}

-- which table it is, and which one the seat is of
abbrev pub table_of : SyncTable → TableId
table_of table = table.words.shared.table_id

abbrev pub seat_table : CellSeat → TableId
seat_table seat = seat.token.table_id

-- the seat is of this table
abbrev pub IsSeatOf : SyncTable → CellSeat → Type 0
IsSeatOf table seat = seat_table seat ≡ table_of table

-- what the seat knows of the word
abbrev pub view_of : CellSeat → View
view_of seat = seat.token.me.0

-- it is the same seat, of the same table
pub record IsSameSeat (old new : CellSeat) : Type 0 where
  pub table : seat_table new ≡ seat_table old
  pub id : new.token.id ≡ old.token.id

-- the length of trail that the seat has seen, and how many sections it recorded
pub record Counts (length sections : ℕ) (seat : CellSeat) : Type 0 where
  pub trail : seat.trail_seen ≡ length
  pub recorded : seat.recorded ≡ sections

abbrev pub SameCounts : CellSeat → CellSeat → Type 0
SameCounts old new = Counts old.trail_seen old.recorded new

-- a count stays at the greatest u64
abbrev pub added : ℕ → ℕ → ℕ
added n m = min (n + m) (2 ^ 64 - 1)

-- one more where a section was recorded
abbrev pub counted : Bool → ℕ → ℕ
counted recorded n = if recorded then added n 1 else n
