-- What a call begins, and what it does to the record of its cell and to the rows.
use Rattle.std.specs.Prelude.{◌≡◌, ℕ, ◌==◌, Bool, false, ◌&&◌, if◌then◌else◌, MatchBool, Option, Some, None}
use Rattle.phase_bits.specs.declared.phase.Phase.{Phase}
use Rattle.phase_bits.specs.declared.holders.Holders.{Holders}
use Rattle.phase_locker.specs.declared.tickets.LockNature.{LockNature}
use Rattle.phase_locker.specs.declared.tickets.LockResult.{LockResult}
use Rattle.phase_locker.specs.declared.tickets.LockResult.TheVariants as got
use Rattle.phase_locker.specs.declared.tickets.ReadTicket.{ReadTicket}
use Rattle.phase_locker.specs.declared.tickets.WriteTicket.{WriteTicket}
use Rattle.phase_locker.specs.declared.tickets.Attempt.{Attempt}
use Rattle.phase_locker.specs.declared.tickets.Attempt.TheVariants as attempt
use Rattle.phase_locker.specs.declared.ways.Who.{Who}
use Rattle.phase_locker.specs.declared.ways.Given.{Given}
use Rattle.phase_locker.specs.declared.ways.Given.TheVariants.{Nobody}
use Rattle.phase_locker.specs.declared.ways.LockerKind.{LockerKind}
use Rattle.phase_locker.specs.Natures.{Tries}
use Rattle.phase_locker.specs.Rows.{Rows}
use Rattle.phase_locker.specs.Attempts.{Locks, Again}
use Rattle.phase_seq.specs.declared.ask.Want.{Want}
use Rattle.phase_seq.specs.declared.ask.Ask.{Ask}
use Rattle.phase_seq.specs.declared.section.Section.{Section}
use Rattle.phase_seq.specs.declared.section.Begun.{Begun}
use Rattle.phase_seq.specs.declared.section.Begun.TheVariants as begun
use Rattle.phase_seq.specs.Phases.{unregistered}
use Rattle.phase_seq.specs.Asks.{initializes, finalizes, asks_run, nature_of, wake_of}

-- the party runs the generator of the cell
abbrev pub runs : ℕ → Option ℕ → Bool
runs p None = false
runs p (Some q) = q == p

-- a call with this want, by this party, asks for a run of the generator that the party itself is running
abbrev pub is_cyclic : Want → ℕ → Option ℕ → Bool
is_cyclic w p running = initializes w && runs p running

-- the call gives the locker this rule: what it wants at each phase
abbrev pub rule : Ask → Phase → LockNature → Type 0
rule ask p n = n ≡ nature_of ask p

-- ---- the answer

-- the section of a call, with the flags that stay
abbrev pub section_by : Who → Want → Phase → WriteTicket → Section
section_by who want stays t = record { who = who; want = want; stays = stays; ticket = t }

-- what is begun with the lock to write where no run is asked: a finalizer section where the call finalizes
abbrev pub begun_write : Who → Want → Phase → WriteTicket → Begun
begun_write who want p t = if finalizes want then begun.Final (section_by who want p t) else begun.Write t p

-- what is begun with what the locker gave at this phase: a run where the call asks for one, and has the lock to write
abbrev pub begun_of : Who → Ask → Phase → LockResult ReadTicket WriteTicket → Begun
begun_of who ask p (got.None q) = begun.Nothing q
begun_of who ask p (got.Read t) = begun.Read t p
begun_of who ask p (got.Write t) = if asks_run ask p then begun.Run (section_by who ask.want unregistered t) else begun_write who ask.want p t

-- what an attempt begins
abbrev pub begun_by : Who → Ask → Phase → Attempt → Begun
begun_by who ask p (attempt.Wait how) = begun.Wait how
begun_by who ask p (attempt.Got g) = begun_of who ask p g

-- what a call begins that does not wait
abbrev pub begun_tried : Who → Ask → Phase → Option (LockResult ReadTicket WriteTicket) → Begun
begun_tried who ask p None = begun.Missed
begun_tried who ask p (Some g) = begun_of who ask p g

-- the party that runs after this answer
abbrev pub running_after : Begun → Option ℕ → Option ℕ
running_after (begun.Run section) running = Some section.who.party
running_after (begun.Wait how) running = running
running_after begun.Missed running = running
running_after begun.Cyclic running = running
running_after (begun.Nothing p) running = running
running_after (begun.Read t p) running = running
running_after (begun.Write t p) running = running
running_after (begun.Final section) running = running

-- ---- the call

-- no lock is tried, and nothing changes
pub record TurnsBack (h : Holders) (s : Rows) (r : Begun × Given) (h' : Holders) (s' : Rows) : Type 0 where
  pub answer : r ≡ (begun.Cyclic, Nobody)
  pub held : h' ≡ h
  pub rows : s' ≡ s

-- the call takes a lock where it is not barred, and does not wait
pub record TriesLock (who : Who) (ask : Ask) (h : Holders) (s : Rows) (r : Begun × Given) (h' : Holders) (s' : Rows) : Type 0 where
  pub got : Option (LockResult ReadTicket WriteTicket)
  pub tries : Tries (rule ask) h got h'
  pub answer : r ≡ (begun_tried who ask h.phase got, Nobody)
  pub rows : s' ≡ s

-- the call is one attempt that may wait
pub record MakesAttempt (k : LockerKind) (who : Who) (ask : Ask) (h : Holders) (s : Rows) (r : Begun × Given) (h' : Holders) (s' : Rows) : Type 0 where
  pub attempt : Attempt
  pub locks : Locks (rule ask) k who (wake_of ask.want) h s (attempt, r.1) h' s'
  pub answer : r.0 ≡ begun_by who ask h.phase attempt

-- the call is one more attempt of a party that waits
pub record MakesAnother (k : LockerKind) (who : Who) (ask : Ask) (h : Holders) (s : Rows) (r : Begun × Given) (h' : Holders) (s' : Rows) : Type 0 where
  pub attempt : Attempt
  pub again : Again (rule ask) k who (wake_of ask.want) h s (attempt, r.1) h' s'
  pub answer : r.0 ≡ begun_by who ask h.phase attempt

-- a call of a party that does not wait
abbrev pub Begins : LockerKind → Who → Ask → Option ℕ → Holders → Rows → Begun × Given → Holders → Rows → Type 0
Begins k who ask running h s r h' s' =
    MatchBool (is_cyclic ask.want who.party running) (TurnsBack h s r h' s')
    (MatchBool ask.fast (TriesLock who ask h s r h' s') (MakesAttempt k who ask h s r h' s'))

-- a call of a party that waits
abbrev pub Resumes : LockerKind → Who → Ask → Option ℕ → Holders → Rows → Begun × Given → Holders → Rows → Type 0
Resumes k who ask running h s r h' s' =
    MatchBool (is_cyclic ask.want who.party running) (TurnsBack h s r h' s') (MakesAnother k who ask h s r h' s')
