-- How a party stands after its call, and which holds are open then.
use Rattle.std.specs.Prelude.{◌≡◌, ◌≢◌, ℕ, ◌+◌, ◌<◌, Bool, true, false, length}
use Rattle.phase_bits.specs.declared.holders.Holders.{Holders}
use Rattle.phase_bits.specs.Number.{IsKnown}
use Rattle.phase_locker.specs.declared.tickets.LockResult.{LockResult}
use Rattle.phase_locker.specs.declared.tickets.LockResult.TheVariants.{Read, Write, None}
use Rattle.phase_locker.specs.declared.tickets.ReadTicket.{ReadTicket}
use Rattle.phase_locker.specs.declared.tickets.WriteTicket.{WriteTicket}
use Rattle.phase_locker.specs.declared.tickets.Attempt.{Attempt}
use Rattle.phase_locker.specs.declared.tickets.Attempt.TheVariants.{Got, Wait}
use Rattle.phase_locker.specs.declared.ways.Who.{Who}
use Rattle.phase_locker.specs.declared.ways.How.{How}
use Rattle.phase_locker.specs.declared.ways.How.TheVariants.{Spin, ParkedRead, ParkedWrite, Drain}
use Rattle.phase_locker.specs.declared.ways.Waiting.{Waiting}
use Rattle.phase_locker.specs.declared.ways.Waiting.TheVariants as waiting
use Rattle.phase_locker.specs.Rows.{Rows, row_of}
use Rattle.phase_locker.specs.Fits.{IsWriteOpen, open_reads}

-- ---- before the call

-- cell and party are there, and the party does not wait
pub record MayCall (w : Who) (s : Rows) : Type 0 where
  pub cell : w.cell < length s.readers
  pub party : w.party < length s.rows
  pub free : (row_of s w.party).waiting ≡ waiting.Free

-- cell and party are there, and the party waits at this cell
pub record MayCallAgain (w : Who) (s : Rows) : Type 0 where
  pub cell : w.cell < length s.readers
  pub party : w.party < length s.rows
  pub waits : (row_of s w.party).waiting ≢ waiting.Free
  pub here : (row_of s w.party).cell ≡ w.cell

-- ---- after the call

-- the lock that was got is open; a phase that was got has no bit above the eight flags
abbrev pub IsOpen : LockResult ReadTicket WriteTicket → Holders → Rows → ℕ → Type 0
IsOpen (Read t) h s c = 0 < open_reads h s c
IsOpen (Write t) h s c = IsWriteOpen h s c
IsOpen (None p) h s c = IsKnown p

-- how the row of a party that waits so says it
abbrev pub way_of : How → Waiting
way_of Spin = waiting.Spin
way_of ParkedRead = waiting.ParkedRead
way_of ParkedWrite = waiting.ParkedWrite
way_of Drain = waiting.Drain

-- a party that got what it wants waits no longer, and its lock is open; another one waits so at the cell
abbrev pub Stands : Who → Attempt → Holders → Rows → Type 0
Stands w (Got r) h s = ((row_of s w.party).waiting ≡ waiting.Free) × IsOpen r h s w.cell
Stands w (Wait how) h s = row_of s w.party ≡ record { waiting = way_of how; cell = w.cell }

-- how many read holds are opened by what was got
abbrev pub reads_got : LockResult ReadTicket WriteTicket → ℕ
reads_got (Read t) = 1
reads_got (Write t) = 0
reads_got (None p) = 0

-- how many read holds an answer opens
abbrev pub reads_opened : Attempt → ℕ
reads_opened (Got r) = reads_got r
reads_opened (Wait how) = 0

-- what was got is the lock to write
abbrev pub is_write : LockResult ReadTicket WriteTicket → Bool
is_write (Read t) = false
is_write (Write t) = true
is_write (None p) = false

-- an answer gives the lock to write
abbrev pub opens_write : Attempt → Bool
opens_write (Got r) = is_write r
opens_write (Wait how) = false

-- the holds of the cell that are open after a call, which opens so many read holds, and a write hold or none: those that
-- were open before, and these
pub record Opens (c opened : ℕ) (write : Bool) (h : Holders) (s : Rows) (h' : Holders) (s' : Rows) : Type 0 where
  pub reads : open_reads h' s' c ≡ open_reads h s c + opened
  pub writes : IsWriteOpen h s c → IsWriteOpen h' s' c
  pub only : write ≡ false → IsWriteOpen h' s' c → IsWriteOpen h s c
