-- Calls on the cell of one party that run its generator or finalizer at once.
use Rattle.std.specs.Prelude.{◌≡◌, ℕ, ◌<◌, Bool, true, false, ◌&&◌, not, if◌then◌else◌, MatchBool, Option, Some, None, Result, Ok, Err}
use Rattle.phase_bits.specs.declared.phase.Phase.{Phase}
use Rattle.phase_bits.specs.declared.holders.Holders.{Holders}
use Rattle.phase_bits.specs.Flags.{has, initialized}
use Rattle.phase_bits.specs.Number.{number}
use Rattle.phase_bits.specs.Records.{admit_write}
use Rattle.exit_registry.specs.Registry.{Registry, cells_of, is_known}
use Rattle.exit_registry.specs.declared.turns.Turn.{Turn}
use Rattle.exit_registry.specs.declared.turns.Turn.TheVariants as turn
use Rattle.phase_locker.specs.declared.tickets.LockNature.TheVariants as nature
use Rattle.phase_locker.specs.declared.tickets.ReadTicket.{ReadTicket}
use Rattle.phase_locker.specs.declared.tickets.WriteTicket.{WriteTicket}
use Rattle.phase_locker.specs.Natures.{bars, admitted, read_ticket, write_ticket}
use Rattle.phase_locker.specs.Owned.{IsHeldToWrite}
use Rattle.phase_seq.specs.declared.generator.InitFault.{InitFault}
use Rattle.phase_seq.specs.declared.finalizer.FinalFault.{FinalFault}
use Rattle.phase_seq.specs.declared.init_error.InitError.{InitError}
use Rattle.phase_seq.specs.declared.init_error.InitError.TheVariants.{Access, Failed, Cyclic, Borrowed}
use Rattle.phase_seq.specs.declared.tolerance.Tolerance.{Tolerance}
use Rattle.phase_seq.specs.declared.ask.Want.{Want}
use Rattle.phase_seq.specs.declared.ask.Want.TheVariants.{Init, Finalize}
use Rattle.phase_seq.specs.declared.ask.Ask.{Ask}
use Rattle.phase_seq.specs.declared.section.Finished.{Finished}
use Rattle.phase_seq.specs.declared.section.Finished.TheVariants as finished
use Rattle.phase_seq.specs.Asks.{asks_run, nature_of}
use Rattle.phase_seq.specs.Phases.{unregistered, staying, refused, reached, finalized}
use Rattle.phase_seq.specs.Finishes.{left_on, left_with, ended_with}
use Rattle.phase_seq.specs.Registers.{is_refused}

-- ---- the registry

-- the cell may be registered where it is not yet: while its phase is empty and no write hold is open it is not known
pub record MayEnlist (c : ℕ) (h : Holders) (m : Registry) : Type 0 where
  pub inside : c < cells_of m
  pub unknown : number h.phase ≡ 0 → ¬ IsHeldToWrite h → is_known m c ≡ false

-- ---- a run

-- the flags that stay beside those of a run
abbrev pub stays_at : Option Registry → Phase → Phase
stays_at None p = unregistered
stays_at (Some m) p = staying m.is_open p

-- the flags that stay where the generator runs; none where the cell can't be registered, and does not put up with it
abbrev pub enlisted : Bool → Option Registry → Phase → Option Phase
enlisted leak m p = if is_refused leak m p then None else Some (stays_at m p)

-- the phase that is reached, beside these flags, where the generator made a value, or failed; and that of a cell which
-- none runs for
abbrev pub reached_by : {V : Type 0} → Option Phase → Result (Option V) InitFault → Phase
reached_by None ran = refused
reached_by (Some stays) (Ok v) = reached stays true
reached_by (Some stays) (Err e) = reached stays false

-- the generator gave what it promises, and is left so
abbrev pub Gave : {V G : Type 0} → (G → Result V InitFault → G → Type 0) → G → Result (Option V) InitFault → G → Type 0
Gave attempts g (Ok None) left = ⊥
Gave attempts g (Ok (Some v)) left = attempts g (Ok v) left
Gave attempts g (Err e) left = attempts g (Err e) left

-- what came of the generator of a cell: it ran, or there was no run, since the cell is refused
abbrev pub Came : {V G : Type 0} → (G → Result V InitFault → G → Type 0) → Option Phase → G → Result (Option V) InitFault → G → Type 0
Came attempts None g ran left = (ran ≡ Ok None) × (left ≡ g)
Came attempts (Some stays) g ran left = Gave attempts g ran left

-- ---- a call

-- the tolerance of a generator with these constants
abbrev pub tolerance : Bool → Bool → Tolerance
tolerance retry leak = record { retry = retry; leak = leak }

-- a call that does not wait
abbrev pub asking : Want → Tolerance → Ask
asking w t = record { want = w; fast = true; tol = t }

-- the record after a section: as at the end of any run, with nobody to whom the lock is handed on
abbrev pub held_by : {V : Type 0} → Want → Phase → Result (Option V) InitFault → Holders → Holders
held_by w p (Ok v) h = left_with w true p h
held_by w p (Err e) h = left_with w false p h

-- what is told at the end of a run, with the value made, where a call says so
abbrev pub said : {V A : Type 0} → (Phase → Option V → A) → Finished → Option V → Result A InitError
said say (finished.Phase p) v = Ok (say p v)
said say (finished.Read t p) v = Ok (say p v)
said say (finished.Write t p) v = Ok (say p v)
said say (finished.Failed p) v = Err Failed

-- the answer after a section: as at the end of any run, with the value made
abbrev pub answer_by : {V A : Type 0} → (Phase → Option V → A) → Want → Phase → Result (Option V) InitFault → Result A InitError
answer_by say w p (Ok v) = said say (ended_with w true p) v
answer_by say w p (Err e) = said say (ended_with w false p) None

-- a section in which a run is due
pub record HasRun {V G A : Type 0} (attempts : G → Result V InitFault → G → Type 0) (say : Phase → Option V → A) (w : Want) (stays : Option Phase) (h : Holders) (g : G) (r : Result A InitError) (h' : Holders) (left : G) : Type 0 where
  pub ran : Result (Option V) InitFault
  pub came : Came attempts stays g ran left
  pub answer : r ≡ answer_by say w (reached_by stays ran) ran
  pub held : h' ≡ held_by w (reached_by stays ran) ran (admit_write h)

-- no run is due: this is the answer, and the record
pub record HasNone {G A : Type 0} (answer : A) (kept : Holders) (g : G) (r : A) (h' : Holders) (left : G) : Type 0 where
  pub same : r ≡ answer
  pub held : h' ≡ kept
  pub generator : left ≡ g

-- a call that is not barred, of a cell whose generator runs beside these flags, or not
abbrev pub Admits : {V G A : Type 0} → (G → Result V InitFault → G → Type 0) → (Phase → Option V → A) → Want → Tolerance → Option Phase → Holders → G → Result A InitError → Holders → G → Type 0
Admits attempts say w t stays h g r h' left =
    MatchBool (asks_run (asking w t) h.phase)
    (HasRun attempts say w stays h g r h' left)
    (HasNone (Ok (say h.phase None)) (admitted h (nature_of (asking w t) h.phase)) g r h' left)

-- the call is barred
abbrev pub is_barred_at : Want → Tolerance → Holders → Bool
is_barred_at w t h = bars h (nature_of (asking w t) h.phase)

-- the call is admitted, and asks for a run
abbrev pub is_due_at : Want → Tolerance → Holders → Bool
is_due_at w t h = not (is_barred_at w t h) && asks_run (asking w t) h.phase

-- a call
abbrev pub Calls : {V G A : Type 0} → (G → Result V InitFault → G → Type 0) → (Phase → Option V → A) → Want → Tolerance → Option Phase → Holders → G → Result A InitError → Holders → G → Type 0
Calls attempts say w t stays h g r h' left =
    MatchBool (is_barred_at w t h)
    (HasNone (Err Borrowed) h g r h' left)
    (Admits attempts say w t stays h g r h' left)

-- what is said of the phase and the value made, where there is no lock, or one to read, or one to write
abbrev pub told : {V : Type 0} → Phase → Option V → Phase × Option V
told p v = (p, v)

abbrev pub told_read : {V : Type 0} → Phase → Option V → ReadTicket × Phase × Option V
told_read p v = (read_ticket, p, v)

abbrev pub told_write : {V : Type 0} → Phase → Option V → WriteTicket × Phase × Option V
told_write p v = (write_ticket, p, v)

-- ---- calls that take a closure

-- a closure gave what it promises
abbrev pub by_call : {V F : Type 0} → (F → Result V InitFault → Type 0) → F → Result V InitFault → F → Type 0
by_call post f r left = post f r

-- the answer of a call that answers nothing where it is barred
abbrev pub unless_borrowed : {A : Type 0} → Result A InitError → Option (Result A InitError)
unless_borrowed (Ok a) = Some (Ok a)
unless_borrowed (Err Borrowed) = None
unless_borrowed (Err Failed) = Some (Err Failed)
unless_borrowed (Err Cyclic) = Some (Err Cyclic)
unless_borrowed (Err (Access e)) = Some (Err (Access e))

-- a call that answers nothing where it is barred
pub record TriesCall {V F A : Type 0} (post : F → Result V InitFault → Type 0) (say : Phase → Option V → A) (w : Want) (t : Tolerance) (stays : Option Phase) (h : Holders) (f : F) (r : Option (Result A InitError)) (h' : Holders) : Type 0 where
  pub answer : Result A InitError
  pub calls : Calls (by_call post) say w t stays h f answer h' f
  pub said : r ≡ unless_borrowed answer

-- the phase and the value made, where nobody holds the cell: none was made where the run failed
abbrev pub unique_of : {V : Type 0} → Holders → Result (Phase × Option V) InitError → Phase × Option V
unique_of h (Ok a) = a
unique_of h (Err e) = (h.phase, None)

-- a call on a cell that nobody holds
pub record CallsUnique {V F : Type 0} (post : F → Result V InitFault → Type 0) (t : Tolerance) (h : Holders) (f : F) (r : Phase × Option V) (h' : Holders) : Type 0 where
  pub answer : Result (Phase × Option V) InitError
  pub calls : Calls (by_call post) told Init t (Some unregistered) h f answer h' f
  pub said : r ≡ unique_of h' answer

-- ---- the finalizer

-- the record after a finalizer that succeeded or failed
abbrev pub held_final : Bool → Holders → Holders
held_final fine h = left_on Finalize (finalized h.phase fine) (admit_write h)

-- the finalizer ran, and the turn says what it gave
abbrev pub HasFinalized : {F : Type 0} → (F → Result (Unit {0}) FinalFault → Type 0) → Holders → F → Turn → Holders → Type 0
HasFinalized post h f turn.Done h' = post f (Ok tt) × (h' ≡ held_final true h)
HasFinalized post h f turn.Failed h' = post f (Err (record {})) × (h' ≡ held_final false h)
HasFinalized post h f turn.Skipped h' = ⊥
HasFinalized post h f turn.Busy h' = ⊥

-- the turn of a cell: it is skipped exactly where the value is not there, and busy exactly where it is there and held
abbrev pub Finalizes : {F : Type 0} → (F → Result (Unit {0}) FinalFault → Type 0) → Holders → F → Turn → Holders → Type 0
Finalizes post h f t h' =
    MatchBool (has (number h.phase) initialized)
    (MatchBool (bars h nature.Write) ((t ≡ turn.Busy) × (h' ≡ h)) (HasFinalized post h f t h'))
    ((t ≡ turn.Skipped) × (h' ≡ h))
