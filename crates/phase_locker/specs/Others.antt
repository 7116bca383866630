-- What a call at one cell leaves as it was: the other cells, and the rows of the other parties.
use Rattle.std.specs.Prelude.{◌≡◌, ◌≢◌, ℕ, false}
use Rattle.phase_locker.specs.declared.ways.Waiting.TheVariants.{Free}
use Rattle.phase_locker.specs.Rows.{Rows, row_of, readers_of, writers_of, reads_at, writes_at, shares, drains, claims}

-- the rows say of this cell what they said before
pub record SameAt (d : ℕ) (old new : Rows) : Type 0 where
  pub readers : readers_of new d ≡ readers_of old d
  pub writers : writers_of new d ≡ writers_of old d
  pub shares : shares new d ≡ shares old d
  pub drains : drains new d ≡ drains old d
  pub claims : claims new d ≡ claims old d

-- all cells but this one are as they were, and each party that waits at another cell has its row
pub record OthersStay (c : ℕ) (old new : Rows) : Type 0 where
  pub cells : (d : ℕ) → d ≢ c → SameAt d old new
  pub rows : (p : ℕ) → (row_of old p).waiting ≢ Free → (row_of old p).cell ≢ c → row_of new p ≡ row_of old p

-- a party that is not parked at this cell has its row
abbrev pub RowStays : ℕ → Rows → Rows → ℕ → Type 0
RowStays c old new p = reads_at c (row_of old p) ≡ false → writes_at c (row_of old p) ≡ false → row_of new p ≡ row_of old p

-- each party that is not parked at this cell has its row
abbrev pub RowsStay : ℕ → Rows → Rows → Type 0
RowsStay c old new = (p : ℕ) → RowStays c old new p

-- each party but the caller that is not parked at this cell has its row
abbrev pub RowsStayBeside : ℕ → ℕ → Rows → Rows → Type 0
RowsStayBeside caller c old new = (p : ℕ) → p ≢ caller → RowStays c old new p
