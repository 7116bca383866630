-- What a call that may wait does to the record of its cell and to the rows.
use Rattle.std.specs.Prelude.{◌≡◌, ◌==◌, Bool, true, false, ◌&&◌, not, MatchBool}
use Rattle.phase_bits.specs.declared.phase.Phase.{Phase}
use Rattle.phase_bits.specs.declared.holders.Holders.{Holders}
use Rattle.phase_bits.specs.Records.{leave_read, drain, give_up}
use Rattle.phase_locker.specs.declared.tickets.LockNature.{LockNature}
use Rattle.phase_locker.specs.declared.tickets.LockNature.TheVariants.{Read, Write}
use Rattle.phase_locker.specs.declared.tickets.Attempt.{Attempt}
use Rattle.phase_locker.specs.declared.tickets.Attempt.TheVariants.{Got, Wait}
use Rattle.phase_locker.specs.declared.ways.Who.{Who}
use Rattle.phase_locker.specs.declared.ways.How.{How}
use Rattle.phase_locker.specs.declared.ways.How.TheVariants.{Spin, ParkedRead, ParkedWrite, Drain}
use Rattle.phase_locker.specs.declared.ways.Given.{Given}
use Rattle.phase_locker.specs.declared.ways.Given.TheVariants.{Nobody}
use Rattle.phase_locker.specs.declared.ways.LockerKind.{LockerKind}
use Rattle.phase_locker.specs.declared.ways.Waiting.{Waiting}
use Rattle.phase_locker.specs.declared.ways.Waiting.TheVariants as waiting
use Rattle.phase_locker.specs.Natures.{bars, admitted, got}
use Rattle.phase_locker.specs.Rows.{Rows, row_of, is_drain, put, park_reader, park_writer, freed}
use Rattle.phase_locker.specs.Fits.{is_park, flagged}
use Rattle.phase_locker.specs.Gifts.{Hands}

-- ---- a barred call waits

-- a call waits so that does not drain: it parks, where calls park, to be woken as its waking nature says
abbrev pub ParksBy : LockerKind → LockNature → How → Type 0
ParksBy k wake Spin = is_park k ≡ false
ParksBy k wake ParkedRead = (is_park k ≡ true) × (wake ≡ Read)
ParksBy k wake ParkedWrite = (is_park k ≡ true) × (wake ≡ Write)
ParksBy k wake Drain = ⊥

-- a barred call may wait so: it drains alone where calls park, it wants to write, readers alone bar it, and it is fresh,
-- that is, it did not drain before
abbrev pub MayWait : LockerKind → Bool → LockNature → LockNature → Holders → How → Type 0
MayWait k fresh wake n h Spin = is_park k ≡ false
MayWait k fresh wake n h ParkedRead = (is_park k ≡ true) × (wake ≡ Read)
MayWait k fresh wake n h ParkedWrite = (is_park k ≡ true) × (wake ≡ Write)
MayWait k fresh wake n h Drain = (is_park k ≡ true) × (fresh ≡ true) × (n ≡ Write) × (h.locked ≡ false)

-- the rows after a call began to wait so
abbrev pub rows_waiting : How → Who → Rows → Rows
rows_waiting Spin w s = put waiting.Spin w.cell w.party s
rows_waiting ParkedRead w s = park_reader w.cell w.party s
rows_waiting ParkedWrite w s = park_writer w.cell w.party s
rows_waiting Drain w s = put waiting.Drain w.cell w.party s

-- the record after a call began to wait so
abbrev pub held_waiting : How → Holders → Holders
held_waiting Spin h = h
held_waiting ParkedRead h = h
held_waiting ParkedWrite h = h
held_waiting Drain h = drain h

-- the call waits
pub record Waits (k : LockerKind) (fresh : Bool) (w : Who) (wake n : LockNature) (h : Holders) (s : Rows) (a : Attempt) (h' : Holders) (s' : Rows) : Type 0 where
  pub how : How
  pub may : MayWait k fresh wake n h how
  pub answer : a ≡ Wait how
  pub rows : s' ≡ rows_waiting how w s
  pub held : h' ≡ flagged w.cell s' (held_waiting how h)

-- the call gets what it wants
pub record Gets (w : Who) (n : LockNature) (h : Holders) (s : Rows) (a : Attempt) (h' : Holders) (s' : Rows) : Type 0 where
  pub answer : a ≡ Got (got n h.phase)
  pub rows : s' ≡ s
  pub held : h' ≡ flagged w.cell s' (admitted h n)

-- a call of this nature is judged: it waits exactly where it is barred
abbrev pub Judged : LockerKind → Bool → Who → LockNature → LockNature → Holders → Rows → Attempt → Holders → Rows → Type 0
Judged k fresh w wake n h s a h' s' = MatchBool (bars h n) (Waits k fresh w wake n h s a h' s') (Gets w n h s a h' s')

-- a call of a party that does not wait
pub record Locks (post : Phase → LockNature → Type 0) (k : LockerKind) (w : Who) (wake : LockNature) (h : Holders) (s : Rows) (r : Attempt × Given) (h' : Holders) (s' : Rows) : Type 0 where
  pub nature : LockNature
  pub allowed : post h.phase nature
  pub judged : Judged k true w wake nature h s r.0 h' s'
  pub given : r.1 ≡ Nobody

-- ---- a call of a party that waits

-- the call spins on: it spins where calls do not park, and is barred again
abbrev pub spins_on : LockerKind → Waiting → LockNature → Holders → Bool
spins_on k waiting.Spin n h = not (is_park k) && bars h n
spins_on k w n h = false

-- the call keeps what it has: a share of the nature that it wants now, or a drain that no reader is left beside
abbrev pub keeps : Waiting → LockNature → Holders → Bool
keeps waiting.ShareRead Read h = true
keeps waiting.ShareWrite Write h = true
keeps waiting.Drain Write h = h.readers == 0
keeps w n h = false

-- the record after a call gave up what it had
abbrev pub given_up : Waiting → Holders → Holders
given_up waiting.ShareRead h = leave_read h
given_up waiting.ShareWrite h = give_up h
given_up waiting.Drain h = give_up h
given_up w h = h

-- the call keeps what it has, and gets what it wants
pub record Keeps (w : Who) (n : LockNature) (h : Holders) (s : Rows) (r : Attempt × Given) (h' : Holders) (s' : Rows) : Type 0 where
  pub answer : r.0 ≡ Got (got n h.phase)
  pub given : r.1 ≡ Nobody
  pub rows : s' ≡ freed w.party s
  pub held : h' ≡ flagged w.cell s' h

-- the call gives up what it has and leaves its list, which may cause a hand-over, and is judged then
pub record GivesUp (k : LockerKind) (w : Who) (wake n : LockNature) (h : Holders) (s : Rows) (r : Attempt × Given) (h' : Holders) (s' : Rows) : Type 0 where
  pub between : Holders
  pub rows : Rows
  pub hands : Hands w.cell (given_up (row_of s w.party).waiting h) (freed w.party s) r.1 between rows
  pub judged : Judged k (not (is_drain (row_of s w.party).waiting)) w wake n between rows r.0 h' s'

-- a call of a party that waits
pub record Again (post : Phase → LockNature → Type 0) (k : LockerKind) (w : Who) (wake : LockNature) (h : Holders) (s : Rows) (r : Attempt × Given) (h' : Holders) (s' : Rows) : Type 0 where
  pub nature : LockNature
  pub allowed : post h.phase nature
  pub steps : MatchBool (keeps (row_of s w.party).waiting nature h) (Keeps w nature h s r h' s') (GivesUp k w wake nature h s r h' s')

-- ---- what a locker chooses

-- no call drains
abbrev pub NeverDrains : How → Type 0
NeverDrains Spin = Unit {0}
NeverDrains ParkedRead = Unit {0}
NeverDrains ParkedWrite = Unit {0}
NeverDrains Drain = ⊥

-- a call that waits does it in one of these ways
abbrev pub WaitsBy : (How → Type 0) → Attempt → Type 0
WaitsBy ways (Got r) = Unit {0}
WaitsBy ways (Wait how) = ways how
