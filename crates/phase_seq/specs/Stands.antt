-- How a party stands after its call, and which locks are open then.
use Rattle.std.specs.Prelude.{◌≡◌, ℕ, ◌<◌, Bool, true, false, Option, Some}
use Rattle.phase_bits.specs.declared.holders.Holders.{Holders}
use Rattle.phase_bits.specs.Number.{IsKnown}
use Rattle.phase_locker.specs.declared.ways.Who.{Who}
use Rattle.phase_locker.specs.declared.ways.Waiting.TheVariants.{Free}
use Rattle.phase_locker.specs.Rows.{Rows, row_of}
use Rattle.phase_locker.specs.Fits.{IsWriteOpen, open_reads}
use Rattle.phase_locker.specs.Stands.{way_of}
use Rattle.phase_seq.specs.declared.section.Section.{Section}
use Rattle.phase_seq.specs.declared.section.Begun.{Begun}
use Rattle.phase_seq.specs.declared.section.Begun.TheVariants as begun
use Rattle.phase_seq.specs.declared.section.Finished.{Finished}
use Rattle.phase_seq.specs.declared.section.Finished.TheVariants as finished
use Rattle.phase_seq.specs.Asks.{initializes, finalizes}
use Rattle.phase_seq.specs.Begins.{running_after}

-- the section is the open one of the cell: its party runs the generator that its call asked for, and its lock is open
pub record IsRunning (section : Section) (running : Option ℕ) (h : Holders) (s : Rows) : Type 0 where
  pub party : running ≡ Some section.who.party
  pub asked : initializes section.want ≡ true
  pub known : IsKnown section.stays
  pub locked : IsWriteOpen h s section.who.cell

-- the section is the open one of the cell: its call finalizes, and its lock is open
pub record IsFinalizing (section : Section) (h : Holders) (s : Rows) : Type 0 where
  pub asked : finalizes section.want ≡ true
  pub locked : IsWriteOpen h s section.who.cell

-- the party does not wait
abbrev pub IsFree : Who → Rows → Type 0
IsFree who s = (row_of s who.party).waiting ≡ Free

-- a call that waits has its row; after every other answer but Cyclic the party does not wait, and what it got is open. A
-- phase that it is told has no bit above the eight flags
abbrev pub BegunStands : Who → Begun → Option ℕ → Holders → Rows → Type 0
BegunStands who (begun.Wait how) running h s = row_of s who.party ≡ record { waiting = way_of how; cell = who.cell }
BegunStands who begun.Missed running h s = IsFree who s
BegunStands who begun.Cyclic running h s = Unit {0}
BegunStands who (begun.Nothing p) running h s = IsFree who s × IsKnown p
BegunStands who (begun.Read t p) running h s = IsFree who s × (0 < open_reads h s who.cell) × IsKnown p
BegunStands who (begun.Write t p) running h s = IsFree who s × IsWriteOpen h s who.cell × IsKnown p
BegunStands who (begun.Run section) running h s = IsFree who s × (section.who ≡ who) × IsRunning section running h s
BegunStands who (begun.Final section) running h s = IsFree who s × (section.who ≡ who) × IsFinalizing section h s

-- how many read locks an answer opens
abbrev pub reads_begun : Begun → ℕ
reads_begun (begun.Wait how) = 0
reads_begun begun.Missed = 0
reads_begun begun.Cyclic = 0
reads_begun (begun.Nothing p) = 0
reads_begun (begun.Read t p) = 1
reads_begun (begun.Write t p) = 0
reads_begun (begun.Run section) = 0
reads_begun (begun.Final section) = 0

-- an answer opens a write lock
abbrev pub begins_write : Begun → Bool
begins_write (begun.Wait how) = false
begins_write begun.Missed = false
begins_write begun.Cyclic = false
begins_write (begun.Nothing p) = false
begins_write (begun.Read t p) = false
begins_write (begun.Write t p) = true
begins_write (begun.Run section) = true
begins_write (begun.Final section) = true

-- who runs after a call: the party of a run that it began, and else the party that ran; a section that was open still is
pub record RunsAfter (c : ℕ) (b : Begun) (was : Option ℕ) (h : Holders) (s : Rows) (now : Option ℕ) (h' : Holders) (s' : Rows) : Type 0 where
  pub running : now ≡ running_after b was
  pub sections : (o : Section) → o.who.cell ≡ c → IsRunning o was h s → IsRunning o now h' s'

-- what is left open when a run has ended. The phase that is told has no bit above the eight flags
abbrev pub FinishedStands : ℕ → Finished → Holders → Rows → Type 0
FinishedStands c (finished.Phase p) h s = (¬ IsWriteOpen h s c) × IsKnown p
FinishedStands c (finished.Read t p) h s = (¬ IsWriteOpen h s c) × IsKnown p
FinishedStands c (finished.Write t p) h s = IsWriteOpen h s c × IsKnown p
FinishedStands c (finished.Failed p) h s = (¬ IsWriteOpen h s c) × IsKnown p

-- how many read locks are open when a run has ended
abbrev pub reads_finished : Finished → ℕ
reads_finished (finished.Phase p) = 0
reads_finished (finished.Read t p) = 1
reads_finished (finished.Write t p) = 0
reads_finished (finished.Failed p) = 0
