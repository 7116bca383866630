-- The turn of a locked cell in an exit.
use Rattle.std.specs.Prelude.{◌≡◌, Bool, true, false, MatchBool, Option, Some, None, Result, Ok, Err}
use Rattle.phase_bits.specs.Flags.{has, initialized}
use Rattle.phase_bits.specs.Number.{number}
use Rattle.exit_registry.specs.Turns.{Meanings}
use Rattle.exit_registry.specs.declared.turns.Turn.{Turn}
use Rattle.exit_registry.specs.declared.turns.Turn.TheVariants.{Skipped, Done, Failed, Busy}
use Rattle.phase_seq.specs.declared.finalizer.FinalFault.{FinalFault}
use Rattle.phase_seq.specs.Phases.{finalized, finalized_flag, finalization_panicked}
use Rattle.lazy_cells.specs.Locked.{Locked, bars_write, rests}

-- what an exit sees of a locked cell
abbrev pub meanings_of : {T G P : Type 0} → Locked T G P → Meanings
meanings_of c = record {
  initialized = has (number c.phase) initialized;
  held = bars_write c;
  finalized = has (number c.phase) finalized_flag;
  failed = has (number c.phase) finalization_panicked;
}

-- ---- what a finalizer may answer, with the value that it leaves

-- the value is finalized, and stays
abbrev pub KeepsValue : {T : Type 0} → (T → Result (Unit {0}) FinalFault → Type 0) → Option T → Result (Unit {0}) FinalFault → Option T → Type 0
KeepsValue finalizes None r left = ⊥
KeepsValue finalizes (Some v) r left = finalizes v r × (left ≡ Some v)

-- the value is dropped
abbrev pub DropsValue : {T : Type 0} → Option T → Result (Unit {0}) FinalFault → Option T → Type 0
DropsValue old r left = (r ≡ Ok tt) × (left ≡ None)

-- the value is taken out of use, and what is left of it stays
abbrev pub TakenOut : {T : Type 0} → (T → Result (Unit {0}) FinalFault → T → Type 0) → Option T → Result (Unit {0}) FinalFault → Option T → Type 0
TakenOut uninits None r left = ⊥
TakenOut uninits (Some v) r None = ⊥
TakenOut uninits (Some v) r (Some w) = uninits v r w

-- ---- the turn

-- the finalizer ran, and succeeded or failed
pub record HasEnded {T G P : Type 0} (gave : Option T → Result (Unit {0}) FinalFault → Option T → Type 0) (fine : Bool) (r : Result (Unit {0}) FinalFault) (old new : Locked T G P) : Type 0 where
  pub gives : gave old.value r new.value
  pub left : new ≡ record (rests (finalized old.phase fine) old) { value = new.value }

abbrev pub HasFinalized : {T G P : Type 0} → (Option T → Result (Unit {0}) FinalFault → Option T → Type 0) → Locked T G P → Turn → Locked T G P → Type 0
HasFinalized gave old Done new = HasEnded gave true (Ok tt) old new
HasFinalized gave old Failed new = HasEnded gave false (Err (record {})) old new
HasFinalized gave old Skipped new = ⊥
HasFinalized gave old Busy new = ⊥

-- it is skipped exactly where the cell is not initialized, and busy exactly where it is and a ticket is open
abbrev pub Finalizes : {T G P : Type 0} → (Option T → Result (Unit {0}) FinalFault → Option T → Type 0) → Locked T G P → Turn → Locked T G P → Type 0
Finalizes gave old turn new =
    MatchBool (has (number old.phase) initialized)
    (MatchBool (bars_write old) ((turn ≡ Busy) × (new ≡ old)) (HasFinalized gave old turn new))
    ((turn ≡ Skipped) × (new ≡ old))
