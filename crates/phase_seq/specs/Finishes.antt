-- What the end of a run does. What a call is then told, and what record it leaves, are functions of its want and of the
-- phase that was reached; where there are others, a hand-over is laid over that record.
use Rattle.std.specs.Prelude.{◌≡◌, ℕ, Bool, true, false, if◌then◌else◌, MatchBool}
use Rattle.phase_bits.specs.declared.phase.Phase.{Phase}
use Rattle.phase_bits.specs.declared.holders.Holders.{Holders}
use Rattle.phase_bits.specs.Records.{leave_write, downgrade}
use Rattle.phase_locker.specs.declared.ways.Given.{Given}
use Rattle.phase_locker.specs.declared.ways.Given.TheVariants.{Nobody}
use Rattle.phase_locker.specs.Natures.{read_ticket, write_ticket}
use Rattle.phase_locker.specs.Rows.{Rows}
use Rattle.phase_locker.specs.Gifts.{Hands, HandsBeside}
use Rattle.phase_seq.specs.declared.ask.Want.{Want}
use Rattle.phase_seq.specs.declared.ask.Want.TheVariants.{Init, Read, Write, ReadOnly, WriteOnly, Finalize}
use Rattle.phase_seq.specs.declared.section.Section.{Section}
use Rattle.phase_seq.specs.declared.section.Finished.{Finished}
use Rattle.phase_seq.specs.declared.section.Finished.TheVariants as finished
use Rattle.phase_seq.specs.Phases.{reached, finalized}

-- ---- what becomes of answer and record

-- what a call is told that had the lock to write, and goes on as it wants, at this phase
abbrev pub told_on : Want → Phase → Finished
told_on Init p = finished.Phase p
told_on Read p = finished.Read read_ticket p
told_on Write p = finished.Write write_ticket p
told_on ReadOnly p = finished.Read read_ticket p
told_on WriteOnly p = finished.Write write_ticket p
told_on Finalize p = finished.Phase p

-- the record that it leaves: the lock is given back, or becomes one to read, or stays, and the phase is not published yet
abbrev pub left_on : Want → Phase → Holders → Holders
left_on Init p h = leave_write p h
left_on Read p h = downgrade p h
left_on Write p h = h
left_on ReadOnly p h = downgrade p h
left_on WriteOnly p h = h
left_on Finalize p h = leave_write p h

-- what a call is told whose run reached this phase, and made a value or failed
abbrev pub ended_with : Want → Bool → Phase → Finished
ended_with w made p = if made then told_on w p else finished.Failed p

-- the record that it leaves: where the run failed, the lock is given back
abbrev pub left_with : Want → Bool → Phase → Holders → Holders
left_with w made p h = if made then left_on w p h else leave_write p h

-- ---- the hand-over

-- this is told, no lock is left, and what the call gave up is handed on
pub record GivesBack (answer : Finished) (c : ℕ) (left : Holders) (s : Rows) (r : Finished × Given) (h' : Holders) (s' : Rows) : Type 0 where
  pub finished : r.0 ≡ answer
  pub hands : Hands c left s r.1 h' s'

-- this is told, and the lock to read that is left may be shared
pub record ReadsOn (answer : Finished) (c : ℕ) (left : Holders) (s : Rows) (r : Finished × Given) (h' : Holders) (s' : Rows) : Type 0 where
  pub finished : r.0 ≡ answer
  pub downgrades : HandsBeside c left s r.1 h' s'

-- this is told, and nothing is handed on: the lock stays
pub record WritesOn (answer : Finished) (left : Holders) (s : Rows) (r : Finished × Given) (h' : Holders) (s' : Rows) : Type 0 where
  pub finished : r ≡ (answer, Nobody)
  pub held : h' ≡ left
  pub rows : s' ≡ s

-- a call that asks for a run has the lock to write, and goes on as it wants, at this phase
abbrev pub GoesOn : Want → ℕ → Phase → Holders → Rows → Finished × Given → Holders → Rows → Type 0
GoesOn Init c p h s r h' s' = GivesBack (told_on Init p) c (left_on Init p h) s r h' s'
GoesOn Read c p h s r h' s' = ReadsOn (told_on Read p) c (left_on Read p h) s r h' s'
GoesOn Write c p h s r h' s' = WritesOn (told_on Write p) (left_on Write p h) s r h' s'
GoesOn ReadOnly c p h s r h' s' = ⊥
GoesOn WriteOnly c p h s r h' s' = ⊥
GoesOn Finalize c p h s r h' s' = ⊥

-- a run ends: it made a value, or failed
abbrev pub Finishes : Section → Bool → Holders → Rows → Finished × Given → Holders → Rows → Type 0
Finishes section made h s r h' s' =
    MatchBool made
    (GoesOn section.want section.who.cell (reached section.stays true) h s r h' s')
    (GivesBack (ended_with section.want false (reached section.stays false)) section.who.cell (left_with section.want false (reached section.stays false) h) s r h' s')

-- a finalizer ends: the lock is given back with the phase that it reached, and handed on
pub record FinishesFinal (section : Section) (fine : Bool) (h : Holders) (s : Rows) (r : Phase × Given) (h' : Holders) (s' : Rows) : Type 0 where
  pub phase : r.0 ≡ finalized h.phase fine
  pub hands : Hands section.who.cell (left_on Finalize (finalized h.phase fine) h) s r.1 h' s'
