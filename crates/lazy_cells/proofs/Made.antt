-- What a run of the sequentializer is for a plain cell.
use Rattle.std.proofs.Common.{◌≡◌, Bool, true, false, Option, Some, None, Result, Ok, Err, refl, sym, ap, ◌∙◌, subst}
use Rattle.std.specs.Prelude.{MatchBool, if◌then◌else◌, ◌&&◌, not}
use Rattle.phase_bits.specs.declared.phase.Phase.{Phase}
use Rattle.phase_bits.specs.declared.holders.Holders.{Holders}
use Rattle.phase_bits.specs.Flags.{has, initialized}
use Rattle.phase_bits.specs.Number.{number}
use Rattle.phase_bits.specs.Records.{bars_write, admit_write}
use Rattle.phase_locker.specs.declared.tickets.LockNature.TheVariants as nature
use Rattle.phase_locker.specs.Natures.{bars, admitted}
use Rattle.phase_locker.specs.Fits.{IsIdle}
use Rattle.phase_seq.specs.declared.generator.InitFault.{InitFault}
use Rattle.phase_seq.specs.declared.init_error.InitError.{InitError}
use Rattle.phase_seq.specs.declared.init_error.InitError.TheVariants.{Borrowed}
use Rattle.phase_seq.specs.declared.tolerance.Tolerance.{Tolerance}
use Rattle.phase_seq.specs.declared.ask.Want.TheVariants.{Init}
use Rattle.phase_seq.specs.Asks.{shall_init}
use Rattle.phase_seq.specs.Direct as direct
use Rattle.lazy_cells.specs.Cells.{Cell, is_there, shown, Asks, HasRun, HasNone, say_phase, say_value}
use Rattle.lazy_cells.specs.Fills.{filled, phase_told}
use Rattle.lazy_cells.proofs.Flags.{Lacks, made_has, failed_lacks, due_lacks}

not_barred : (X Y : Type 0) (b : Bool) → b ≡ false → MatchBool b X Y → Y
not_barred X Y false e y = y
not_barred X Y true e y = absurd (cc)

idle_free : (h : Holders) → IsIdle h → bars_write h ≡ false
idle_free h i = rw (i.locked, i.readers) refl

module _ {T G P : Type 0} (att : G → Result T InitFault → G → Type 0) (t : Tolerance) (h : Holders) (b : Option T) (g : G) (m : P) where
  abbrev pub cell : Phase → Option T → G → Cell T G P
  cell p v x = record { phase = p; value = v; generator = x; marker = m }

  -- what is left of the cell, of which nobody holds the lock
  pub record IsLeft (Says : Result Phase InitError → Cell T G P → Type 0) (r : Result (Phase × Option T) InitError) (h' : Holders) (left : G) : Type 0 where
    pub says : Says (phase_told r) (cell h'.phase (filled r b) left)
    pub idle : IsIdle h'
    pub there : is_there (filled r b) ≡ has (number h'.phase) initialized

  abbrev pub old : Cell T G P
  old = cell h.phase b g

  abbrev no_run : Result (Option T) InitFault
  no_run = Ok None

  abbrev rested : Result (Phase × Option T) InitError
  rested = Ok (h.phase, None)

  abbrev pub Runs : Option Phase → Result Phase InitError → Cell T G P → Type 0
  Runs s r new = HasRun att say_phase s old r new

  abbrev pub Rests : Result Phase InitError → Cell T G P → Type 0
  Rests r new = HasNone say_phase old r new

  ran_so : IsIdle h → is_there b ≡ false → (s : Option Phase) → Lacks s → (ran : Result (Option T) InitFault) (left : G) → direct.Came att s g ran left
      → IsLeft (Runs s) (direct.answer_by direct.told Init (direct.reached_by s ran) ran) (direct.held_by Init (direct.reached_by s ran) ran (admit_write h)) left
  ran_so i e None l (Ok None) left c = record {
    says = record { ran = Ok None; came = c; phase = refl; value = refl; marker = refl; answer = refl };
    idle = record { readers = i.readers; locked = refl };
    there = e;
  }
  ran_so i e None l (Ok (Some v)) left c = let x : Ok (Some v) ≡ no_run = c.0 in absurd (cc)
  ran_so i e None l (Err f) left c = let x : Err f ≡ no_run = c.0 in absurd (cc)
  ran_so i e (Some s) l (Ok None) left c = absurd c
  ran_so i e (Some s) l (Ok (Some v)) left c = record {
    says = record { ran = Ok (Some v); came = c; phase = refl; value = refl; marker = refl; answer = refl };
    idle = record { readers = i.readers; locked = refl };
    there = sym (made_has (number s));
  }
  ran_so i e (Some s) l (Err f) left c = record {
    says = record { ran = Err f; came = c; phase = refl; value = refl; marker = refl; answer = refl };
    idle = record { readers = i.readers; locked = refl };
    there = e ∙ sym (failed_lacks (number s) l);
  }

  run_so : IsIdle h → is_there b ≡ false → (s : Option Phase) → Lacks s → (r : Result (Phase × Option T) InitError) (h' : Holders) (left : G) → direct.HasRun att direct.told Init s h g r h' left → IsLeft (Runs s) r h' left
  run_so i e s l r h' left run =
      let here = ran_so i e s l run.ran left run.came in
      let there : IsLeft (Runs s) r (direct.held_by Init (direct.reached_by s run.ran) run.ran (admit_write h)) left =
      subst (λ (x : Result (Phase × Option T) InitError). IsLeft (Runs s) x (direct.held_by Init (direct.reached_by s run.ran) run.ran (admit_write h)) left) (sym run.answer) here in
      subst (λ (x : Holders). IsLeft (Runs s) r x left) (sym run.held) there

  none_so : IsIdle h → is_there b ≡ has (number h.phase) initialized → (r : Result (Phase × Option T) InitError) (h' : Holders) (left : G) → direct.HasNone rested h g r h' left → IsLeft Rests r h' left
  none_so i e r h' left n =
      let first : IsLeft Rests rested h g = record { says = record { same = refl; answer = refl }; idle = i; there = e } in
      let second : IsLeft Rests r h g = subst (λ (x : Result (Phase × Option T) InitError). IsLeft Rests x h g) (sym n.same) first in
      let third : IsLeft Rests r h' g = subst (λ (x : Holders). IsLeft Rests r x g) (sym n.held) second in
      subst (λ (x : G). IsLeft Rests r h' x) (sym n.generator) third

  abbrev pub After : Bool → Option Phase → Result Phase InitError → Cell T G P → Type 0
  After d s r new = MatchBool d (Runs s r new) (Rests r new)

  by : IsIdle h → is_there b ≡ has (number h.phase) initialized → (s : Option Phase) → Lacks s → (r : Result (Phase × Option T) InitError) (h' : Holders) (left : G)
      → (d : Bool) → (d ≡ true → has (number h.phase) initialized ≡ false)
      → MatchBool (bars h (if d then nature.Write else nature.None)) (direct.HasNone (Err Borrowed) h g r h' left)
      (MatchBool d (direct.HasRun att direct.told Init s h g r h' left) (direct.HasNone rested (admitted h (if d then nature.Write else nature.None)) g r h' left))
      → IsLeft (After d s) r h' left
  by i e s l r h' left true f c =
      let made = run_so i (e ∙ f refl) s l r h' left (not_barred _ _ (bars_write h) (idle_free h i) c) in
      record { says = made.says; idle = made.idle; there = made.there }
  by i e s l r h' left false f c =
      let none = none_so i e r h' left c in
      record { says = none.says; idle = none.idle; there = none.there }

  -- a call that initializes the cell, beside these flags
  pub made : IsIdle h → is_there b ≡ has (number h.phase) initialized → (s : Option Phase) → Lacks s → (r : Result (Phase × Option T) InitError) (h' : Holders) (left : G)
      → direct.Calls att direct.told Init t s h g r h' left → IsLeft (After (shall_init t h.phase) s) r h' left
  made i e s l r h' left c = by i e s l r h' left (shall_init t h.phase) (due_lacks t h.phase) c

-- nobody holds the cell, so a run that is due is not barred
pub due_idle : (t : Tolerance) (h : Holders) → IsIdle h → direct.is_due_at Init t h ≡ shall_init t h.phase
due_idle t h i = each (shall_init t h.phase)
  where
    each : (d : Bool) → not (bars h (if d then nature.Write else nature.None)) && d ≡ d
    each true = rw (idle_free h i) refl
    each false = refl

-- ---- a call that shows the value

-- what is said after the cell is initialized
abbrev pub after : {T G P : Type 0} → Result Phase InitError → Cell T G P → Result T InitError
after (Ok p) c = shown c.phase c.value
after (Err e) c = Err e

module _ {T G P : Type 0} (att : G → Result T InitFault → G → Type 0) (s : Option Phase) (old : Cell T G P) (r : Result Phase InitError) (new : Cell T G P) where
  said : (ran : Result (Option T) InitFault) → after (say_phase ran new) new ≡ say_value ran new
  said (Ok o) = refl
  said (Err e) = refl

  shows : (d : Bool) → MatchBool d (HasRun att say_phase s old r new) (HasNone say_phase old r new) → MatchBool d (HasRun att say_value s old (after r new) new) (HasNone say_value old (after r new) new)
  shows true run = record { ran = run.ran; came = run.came; phase = run.phase; value = run.value; marker = run.marker; answer = ap (λ (x : Result Phase InitError). after x new) run.answer ∙ said run.ran }
  shows false none = record { same = none.same; answer = ap (λ (x : Result Phase InitError). after x new) none.answer ∙ ap (λ (c : Cell T G P). shown c.phase c.value) none.same }

  pub got : (t : Tolerance) → Asks att say_phase t s old r new → Asks att say_value t s old (after r new) new
  got t a = shows (shall_init t old.phase) a
