-- What each call does to the view of its seat, and which move of the record its step is.
use Rattle.std.specs.Prelude.{◌≡◌, ◌≢◌, ℕ, ◌+◌, ◌^◌, ◌<◌, ◌≤◌, true, false, List, ◌++◌, ◌⊎◌}
use Rattle.phase_bits.specs.Number.{number, phase_of, IsKnown}
use Rattle.phase_bits.specs.Records.{most_readers, leave_read, leave_write, downgrade}
use Rattle.phase_bits.specs.Word.{unpacked, readers_in, phase_in}
use Rattle.phase_bits.specs.declared.phase.Phase.{Phase}
use Rattle.phase_locker.specs.Natures.{bars, admitted}
use Rattle.phase_locker.specs.declared.tickets.LockNature.{LockNature}
use Rattle.phase_locker.specs.declared.tickets.LockNature.TheVariants as nature
use Rattle.phase_locker.specs.declared.tickets.LockResult.{LockResult}
use Rattle.phase_locker.specs.declared.tickets.LockResult.TheVariants as got
use Rattle.lazy_threads.specs.declared.view.View.{View}
use Rattle.lazy_threads.specs.declared.view.Hold.{Hold}
use Rattle.lazy_threads.specs.declared.view.Hold.TheVariants.{Free, Read, Write}
use Rattle.lazy_threads.specs.Rule.{IsCellWord}
use Rattle.lazy_threads.specs.Views.{HasInitialized, saw_initialized, entered_read, left_read, left_write, downgraded}

-- ---- looking

-- the phase that the last load found
abbrev pub phase_got : View → Phase
phase_got v = phase_of (phase_in v.last)

-- the seat loaded the word, and has seen all that it saw before. INITIALIZED lasts: once seen it is found, and once found it is seen
pub record Looks (v w : View) : Type 0 where
  pub loads : v.loads < w.loads
  pub seen : (more : List ℕ) × (w.seen ≡ more ++ v.seen)
  pub lasts : saw_initialized v.seen ≡ true → HasInitialized w.last
  pub knows : HasInitialized w.last → saw_initialized w.seen ≡ true

-- ---- entering

-- the nature of what was got, and the hold that goes with it
abbrev pub nature_got : {R W : Type 0} → LockResult R W → LockNature
nature_got (got.Read r) = nature.Read
nature_got (got.Write w) = nature.Write
nature_got (got.None phase) = nature.None

abbrev pub hold_of : LockNature → Hold
hold_of nature.Read = Read
hold_of nature.Write = Write
hold_of nature.None = Free

-- a call got what its rule asks at the phase found: the record did not bar it, and the step was the move that admits it
pub record Enters (rule : Phase → LockNature → Type 0) (v w : View) (nature : LockNature) : Type 0 where
  pub looks : Looks v w
  pub asked : rule (phase_got w) nature
  pub free : bars (unpacked w.last) nature ≡ false
  pub hold : w.hold ≡ hold_of nature
  pub entered : w.hold ≡ Write → w.entered ≡ phase_in w.last
  pub before : w.before ≡ w.last
  pub event : unpacked w.after ≡ admitted (unpacked w.before) nature

-- what a call answers is what it got
abbrev pub Gets : {R W : Type 0} → (Phase → LockNature → Type 0) → View → View → LockResult R W → Type 0
Gets rule v w result = Enters rule v w (nature_got result)

-- where no lock was asked, the phase answered is the one found
abbrev pub TellsPhase : {R W : Type 0} → LockResult R W → View → Type 0
TellsPhase (got.Read r) w = Unit {0}
TellsPhase (got.Write u) w = Unit {0}
TellsPhase (got.None phase) w = phase ≡ phase_got w

-- the record said by the last loaded word bars what the rule asks
pub record IsBarred (rule : Phase → LockNature → Type 0) (w : View) : Type 0 where
  pub nature : LockNature
  pub asked : rule (phase_got w) nature
  pub bars : bars (unpacked w.last) nature ≡ true

-- a step of another seat came between: the seat loaded twice, and found two words
pub record IsBeaten (v w : View) : Type 0 where
  pub loads : v.loads + 2 ≤ w.loads
  pub differ : w.last ≢ w.earlier

-- a call got nothing, for one of two reasons
pub record Misses (rule : Phase → LockNature → Type 0) (v w : View) : Type 0 where
  pub looks : Looks v w
  pub hold : w.hold ≡ v.hold
  pub why : IsBarred rule w ⊎ IsBeaten v w

-- a clone got a read hold for the other seat: the record that the first seat found did not bar a reader, and the other's step was the move that admits one
pub record Clones (seat old new : View) : Type 0 where
  pub free : bars (unpacked seat.last) nature.Read ≡ false
  pub view : new ≡ entered_read seat.last old
  pub event : unpacked new.after ≡ admitted (unpacked new.before) nature.Read

-- between two attempts of a call: the seat has looked since, and has no hold
pub record Waits (v w : View) : Type 0 where
  pub hold : w.hold ≡ Free
  pub loads : v.loads ≤ w.loads
  pub seen : (more : List ℕ) × (w.seen ≡ more ++ v.seen)

-- the readers are at the limit, and the other seat did nothing
pub record IsFull (seat old new : View) : Type 0 where
  pub readers : readers_in seat.last ≡ most_readers
  pub same : new ≡ old

-- a step of another seat came between: the other seat's exchange found another word than the first seat's load
pub record IsOvertaken (seat old new : View) : Type 0 where
  pub looks : Looks old new
  pub hold : new.hold ≡ old.hold
  pub differ : new.last ≢ seat.last

-- a clone got nothing, for one of two reasons
abbrev pub MissesClone : View → View → View → Type 0
MissesClone seat old new = IsFull seat old new ⊎ IsOvertaken seat old new

-- ---- leaving

-- a phase that a write hold may publish: it has the eight flags alone, and INITIALIZED where the phase at entry had it
pub record MayPublish (phase : Phase) (v : View) : Type 0 where
  pub known : IsKnown phase
  pub lasts : HasInitialized v.entered → HasInitialized (number phase)

-- a read hold was given back
pub record LeavesRead (v w : View) : Type 0 where
  pub word : IsCellWord w.before
  pub some : 0 < readers_in w.before
  pub view : w ≡ left_read w.before v
  pub event : unpacked w.after ≡ leave_read (unpacked w.before)

-- a write hold was given back with this phase. The word before is known: no other seat made it
pub record LeavesWrite (phase : Phase) (v w : View) : Type 0 where
  pub view : w ≡ left_write (v.entered + 2 ^ 29) (number phase) v
  pub event : unpacked w.after ≡ leave_write phase (unpacked w.before)

-- a write hold became a read hold with this phase
pub record Downgrades (phase : Phase) (v w : View) : Type 0 where
  pub view : w ≡ downgraded (v.entered + 2 ^ 29) (number phase + 256) v
  pub event : unpacked w.after ≡ downgrade phase (unpacked w.before)
