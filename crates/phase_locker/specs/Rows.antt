-- The rows of the parties, the lists of the parked parties of each cell, and how they change.
use Rattle.std.specs.Prelude.{◌≡◌, ℕ, ◌<◌, ◌==◌, Bool, true, false, ◌&&◌, ◌||◌, not, if◌then◌else◌, List, [], ◌∷◌, ◌++◌, length, filter, count_by, slice_index_or, slice_set, replicate}
use Rattle.phase_bits.specs.Records.{readers_limit}
pub use Rattle.phase_bits.specs.Lists.{is_empty, first_of, occurs}
use Rattle.phase_locker.specs.declared.ways.Waiting.{Waiting}
use Rattle.phase_locker.specs.declared.ways.Waiting.TheVariants.{Free, ParkedRead, ParkedWrite, Drain, ShareRead, ShareWrite}
use Rattle.phase_locker.specs.declared.ways.Row.{Row}

-- a row for each party, and for each cell its parked readers and its parked writers, both in order of parking
pub record Rows : Type 0 where
  pub rows : List Row
  pub readers : List (List ℕ)
  pub writers : List (List ℕ)

-- the row of a party that does not wait
abbrev pub free_row : Row
free_row = record { waiting = Free; cell = 0 }

-- the row of this party
abbrev pub row_of : Rows → ℕ → Row
row_of s p = slice_index_or s.rows p free_row

-- the parked readers of this cell
abbrev pub readers_of : Rows → ℕ → List ℕ
readers_of s c = slice_index_or s.readers c []

-- the parked writers of this cell
abbrev pub writers_of : Rows → ℕ → List ℕ
writers_of s c = slice_index_or s.writers c []

-- nobody waits
abbrev pub no_rows : ℕ → ℕ → Rows
no_rows cells parties = record { rows = replicate parties free_row; readers = replicate cells []; writers = replicate cells [] }

-- ---- ways of waiting

-- it is parked as a reader
abbrev pub is_parked_read : Waiting → Bool
is_parked_read ParkedRead = true
is_parked_read w = false

-- it is parked as a writer
abbrev pub is_parked_write : Waiting → Bool
is_parked_write ParkedWrite = true
is_parked_write w = false

-- it is in a list
abbrev pub is_parked : Waiting → Bool
is_parked w = is_parked_read w || is_parked_write w

-- it has been given a read lock
abbrev pub is_share_read : Waiting → Bool
is_share_read ShareRead = true
is_share_read w = false

-- it drains the readers
abbrev pub is_drain : Waiting → Bool
is_drain Drain = true
is_drain w = false

-- a drain or a write share: it keeps the record locked
abbrev pub is_claim : Waiting → Bool
is_claim Drain = true
is_claim ShareWrite = true
is_claim w = false

-- the row is that of a parked reader of this cell
abbrev pub reads_at : ℕ → Row → Bool
reads_at c r = is_parked_read r.waiting && (r.cell == c)

-- the row is that of a parked writer of this cell
abbrev pub writes_at : ℕ → Row → Bool
writes_at c r = is_parked_write r.waiting && (r.cell == c)

-- the row has a read share of this cell
abbrev pub shares_at : ℕ → Row → Bool
shares_at c r = is_share_read r.waiting && (r.cell == c)

-- the row is a drain of this cell
abbrev pub drains_at : ℕ → Row → Bool
drains_at c r = is_drain r.waiting && (r.cell == c)

-- the row has a claim on this cell
abbrev pub claims_at : ℕ → Row → Bool
claims_at c r = is_claim r.waiting && (r.cell == c)

-- how many parties have a read share of this cell
abbrev pub shares : Rows → ℕ → ℕ
shares s c = count_by (shares_at c) s.rows

-- how many parties drain this cell
abbrev pub drains : Rows → ℕ → ℕ
drains s c = count_by (drains_at c) s.rows

-- how many parties have a claim on this cell
abbrev pub claims : Rows → ℕ → ℕ
claims s c = count_by (claims_at c) s.rows

-- ---- lists

-- the list without this party
abbrev pub without : ℕ → List ℕ → List ℕ
without p ps = filter (λ q. not (q == p)) ps

-- the lists of each cell have exactly the parties whose rows say so, each once
pub record IsSound (s : Rows) : Type 0 where
  pub readers : (c p : ℕ) → c < length s.readers → occurs p (readers_of s c) ≡ (if reads_at c (row_of s p) then 1 else 0)
  pub writers : (c p : ℕ) → c < length s.readers → occurs p (writers_of s c) ≡ (if writes_at c (row_of s p) then 1 else 0)
  pub cells : length s.writers ≡ length s.readers
  pub few : length s.rows < readers_limit

-- ---- changes

-- the party waits so at this cell, in no list
abbrev pub put : Waiting → ℕ → ℕ → Rows → Rows
put w c p s = record s { rows = slice_set s.rows p (record { waiting = w; cell = c }) }

-- the party parks at the end of the list of the cell's readers
abbrev pub park_reader : ℕ → ℕ → Rows → Rows
park_reader c p s = record {
  rows = slice_set s.rows p (record { waiting = ParkedRead; cell = c });
  readers = slice_set s.readers c (readers_of s c ++ p ∷ []);
  writers = s.writers;
}

-- the party parks at the end of the list of the cell's writers
abbrev pub park_writer : ℕ → ℕ → Rows → Rows
park_writer c p s = record {
  rows = slice_set s.rows p (record { waiting = ParkedWrite; cell = c });
  readers = s.readers;
  writers = slice_set s.writers c (writers_of s c ++ p ∷ []);
}

-- a party that waits so at this cell waits no longer, and leaves its list
abbrev pub left : Waiting → ℕ → ℕ → Rows → Rows
left ParkedRead c p s = record { rows = slice_set s.rows p free_row; readers = slice_set s.readers c (without p (readers_of s c)); writers = s.writers }
left ParkedWrite c p s = record { rows = slice_set s.rows p free_row; readers = s.readers; writers = slice_set s.writers c (without p (writers_of s c)) }
left w c p s = record { rows = slice_set s.rows p free_row; readers = s.readers; writers = s.writers }

-- the party waits no longer
abbrev pub freed : ℕ → Rows → Rows
freed p s = left (row_of s p).waiting (row_of s p).cell p s

-- each of these parties is given a read share
unfoldable pub shared : ℕ → List ℕ → List Row → List Row
shared c [] rows = rows
shared c (p ∷ ps) rows = shared c ps (slice_set rows p (record { waiting = ShareRead; cell = c }))

-- the parked readers of this cell are given read shares, and its list is empty
abbrev pub rows_to_readers : ℕ → Rows → Rows
rows_to_readers c s = record { rows = shared c (readers_of s c) s.rows; readers = slice_set s.readers c []; writers = s.writers }

-- the party is given a write share, and leaves the list of this cell's writers
abbrev pub rows_to_writer : ℕ → ℕ → Rows → Rows
rows_to_writer c p s = record {
  rows = slice_set s.rows p (record { waiting = ShareWrite; cell = c });
  readers = s.readers;
  writers = slice_set s.writers c (without p (writers_of s c));
}

-- the rows are of as many parties and cells
pub record SameSize (old new : Rows) : Type 0 where
  pub parties : length new.rows ≡ length old.rows
  pub cells : length new.readers ≡ length old.readers

-- some party does not wait
pub record HasFree (s : Rows) : Type 0 where
  pub party : ℕ
  pub inside : party < length s.rows
  pub free : (row_of s party).waiting ≡ Free
