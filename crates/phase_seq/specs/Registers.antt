-- What a call does beside its attempt on a cell that has a registry, in which it is registered for the exit.
use Rattle.std.specs.Prelude.{◌≡◌, ◌⊎◌, ℕ, ◌<◌, ◌==◌, Bool, true, false, length, ◌&&◌, not, if◌then◌else◌, MatchBool, Option, Some, None}
use Rattle.std.proofs.Common.{inl, inr}
use Rattle.phase_bits.specs.declared.phase.Phase.{Phase}
use Rattle.phase_bits.specs.declared.holders.Holders.{Holders}
use Rattle.phase_bits.specs.Number.{number, IsKnown}
use Rattle.exit_registry.specs.Registry.{Registry, cells_of, is_known, after_register}
use Rattle.phase_locker.specs.declared.ways.Who.{Who}
use Rattle.phase_locker.specs.declared.ways.Given.{Given}
use Rattle.phase_locker.specs.declared.ways.Given.TheVariants.{Nobody}
use Rattle.phase_locker.specs.declared.ways.LockerKind.{LockerKind}
use Rattle.phase_locker.specs.Rows.{Rows, SameSize}
use Rattle.phase_locker.specs.Others.{OthersStay}
use Rattle.phase_locker.specs.Fits.{Fits, IsWriteOpen}
use Rattle.phase_seq.specs.declared.section.Section.{Section}
use Rattle.phase_seq.specs.declared.section.Begun.{Begun}
use Rattle.phase_seq.specs.declared.section.Begun.TheVariants as begun
use Rattle.phase_seq.specs.declared.section.Finished.{Finished}
use Rattle.phase_seq.specs.declared.section.Finished.TheVariants as finished
use Rattle.phase_seq.specs.Phases.{staying, refused, may_generate}
use Rattle.phase_seq.specs.Finishes.{GoesOn}
use Rattle.phase_seq.specs.Begins.{running_after}
use Rattle.phase_seq.specs.Exactly.{is_run}
use Rattle.phase_seq.specs.Stands.{BegunStands}

-- ---- the registry

-- the cell may be registered where it is not yet: while its phase is empty and no write hold is open it is not known
pub record MayRegister (c : ℕ) (h : Holders) (s : Rows) (m : Registry) : Type 0 where
  pub inside : c < cells_of m
  pub unknown : number h.phase ≡ 0 → ¬ IsWriteOpen h s c → is_known m c ≡ false

-- registration may be tried for a cell of this phase: where that is empty the cell is not known
pub record MayTry (c : ℕ) (p : Phase) (m : Registry) : Type 0 where
  pub known : IsKnown p
  pub inside : c < cells_of m
  pub unknown : number p ≡ 0 → is_known m c ≡ false

-- a call has begun so on this cell, of which this party ran before, and nothing is registered yet
pub record IsEntered (who : Who) (before : Option ℕ) (b : Begun) (g : Given) (running : Option ℕ) (k : LockerKind) (h : Holders) (s : Rows) : Type 0 where
  pub cell : who.cell < length s.readers
  pub party : who.party < length s.rows
  pub runs : running ≡ running_after b before
  pub stands : BegunStands who b running h s
  pub fits : Fits k h s who.cell
  pub quiet : is_run b ≡ true → g ≡ Nobody

-- a run is begun only where no lock to write is open, and nothing is handed on beside it
pub record RunsAlone (c : ℕ) (h : Holders) (s : Rows) (b : Begun) (g : Given) : Type 0 where
  pub fresh : IsWriteOpen h s c → is_run b ≡ false
  pub quiet : is_run b ≡ true → g ≡ Nobody

-- an optional argument as it was at the end of the call, which a contract sees as a sum
abbrev pub left_behind : {A : Type 0} → Unit {0} ⊎ ((A × Unit {0}) ⊎ ⊥) → Option A
left_behind (inl u) = None
left_behind (inr (inl f)) = Some f.0
left_behind (inr (inr e)) = absurd e

-- the registry after a call: where a run is asked and admitted, registration is tried if the phase is empty
abbrev pub after_asking : Bool → ℕ → Phase → Registry → Registry
after_asking runs c p m = if runs && (number p == 0) then after_register c m else m

-- no generator runs for a call that is admitted to run one: its cell, of this phase, can't be registered and does not
-- put up with it. A cell without a registry is not registered
abbrev pub is_refused : Bool → Option Registry → Phase → Bool
is_refused leak None p = false
is_refused leak (Some m) p = not (may_generate leak (staying m.is_open p))

-- ---- a section at once

-- what is begun by a call that has a section at once: that which its want is left with
abbrev pub begun_at_once : Finished → Begun
begun_at_once (finished.Phase p) = begun.Nothing p
begun_at_once (finished.Read t p) = begun.Read t p
begun_at_once (finished.Write t p) = begun.Write t p
begun_at_once (finished.Failed p) = begun.Nothing p

-- no generator runs, and the phase says so; the call goes on as it wants
pub record HasSectionAtOnce (section : Section) (h : Holders) (s : Rows) (r : Begun × Given) (h' : Holders) (s' : Rows) : Type 0 where
  pub finished : Finished
  pub goes_on : GoesOn section.want section.who.cell refused h s (finished, r.1) h' s'
  pub answer : r.0 ≡ begun_at_once finished

-- the generator is to run, beside these flags
pub record Generates (section : Section) (stays : Phase) (h : Holders) (s : Rows) (r : Begun × Given) (h' : Holders) (s' : Rows) : Type 0 where
  pub answer : r ≡ (begun.Run (record { who = section.who; want = section.want; stays = stays; ticket = section.ticket }), Nobody)
  pub held : h' ≡ h
  pub rows : s' ≡ s

-- a run is asked and admitted on a cell that is registered for the exit
abbrev pub RunsOrNot : Bool → Section → Registry → Phase → Holders → Rows → Begun × Given → Holders → Rows → Type 0
RunsOrNot leak section m p h s r h' s' =
    MatchBool (is_refused leak (Some m) p) (HasSectionAtOnce section h s r h' s') (Generates section (staying m.is_open p) h s r h' s')

-- nothing changes, and this is the answer
pub record Stays (answer : Begun × Given) (h : Holders) (s : Rows) (r : Begun × Given) (h' : Holders) (s' : Rows) : Type 0 where
  pub same : r ≡ answer
  pub held : h' ≡ h
  pub rows : s' ≡ s

-- what becomes of an answer on a cell that is registered for the exit
abbrev pub Settles : Bool → Registry → Phase → Begun × Given → Holders → Rows → Begun × Given → Holders → Rows → Type 0
Settles leak m p (begun.Run section, given) h s r h' s' = (given ≡ Nobody) × RunsOrNot leak section m p h s r h' s'
Settles leak m p (begun.Wait how, given) h s r h' s' = Stays (begun.Wait how, given) h s r h' s'
Settles leak m p (begun.Missed, given) h s r h' s' = Stays (begun.Missed, given) h s r h' s'
Settles leak m p (begun.Cyclic, given) h s r h' s' = Stays (begun.Cyclic, given) h s r h' s'
Settles leak m p (begun.Nothing q, given) h s r h' s' = Stays (begun.Nothing q, given) h s r h' s'
Settles leak m p (begun.Read t q, given) h s r h' s' = Stays (begun.Read t q, given) h s r h' s'
Settles leak m p (begun.Write t q, given) h s r h' s' = Stays (begun.Write t q, given) h s r h' s'
Settles leak m p (begun.Final section, given) h s r h' s' = Stays (begun.Final section, given) h s r h' s'

-- ---- the call

-- a call on a cell with this number that is registered for the exit: it begins as on any other, which leaves the cell's
-- locker of this kind and the rows fitting, and what it began is settled
pub record Registers (Enters : Begun × Given → Holders → Rows → Type 0) (k : LockerKind) (c : ℕ) (s : Rows) (leak : Bool) (m : Registry) (p : Phase) (r : Begun × Given) (h' : Holders) (s' : Rows) : Type 0 where
  pub entered : Begun × Given
  pub held : Holders
  pub rows : Rows
  pub enters : Enters entered held rows
  pub fits : Fits k held rows c
  pub others : OthersStay c s rows
  pub same : SameSize s rows
  pub settles : Settles leak m p entered held rows r h' s'

-- a call, on a cell with this registry or with none
abbrev pub On : Option Registry → (Begun × Given → Holders → Rows → Type 0) → LockerKind → ℕ → Rows → Bool → Phase → Begun × Given → Holders → Rows → Type 0
On None Enters k c s leak p r h' s' = Enters r h' s'
On (Some m) Enters k c s leak p r h' s' = Registers Enters k c s leak m p r h' s'
