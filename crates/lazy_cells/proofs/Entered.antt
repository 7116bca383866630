-- What a call of the sequentializer that takes a lock is for a locked cell.
use Rattle.std.proofs.Common.{◌≡◌, Bool, true, false, Option, Some, None, Result, Ok, Err, refl, sym, ◌∙◌, subst}
use Rattle.std.specs.Prelude.{◌==◌, MatchBool, if◌then◌else◌, ◌&&◌, ◌||◌, not}
use Rattle.phase_bits.specs.declared.phase.Phase.{Phase}
use Rattle.phase_bits.specs.declared.holders.Holders.{Holders}
use Rattle.phase_bits.specs.Records as record_of
use Rattle.phase_locker.specs.declared.tickets.LockNature.TheVariants as nature
use Rattle.phase_locker.specs.declared.tickets.ReadTicket.{ReadTicket}
use Rattle.phase_locker.specs.declared.tickets.WriteTicket.{WriteTicket}
use Rattle.phase_locker.specs.Natures.{bars, admitted}
use Rattle.phase_locker.specs.Owned.{IsHeldToWrite}
use Rattle.phase_seq.specs.declared.generator.InitFault.{InitFault}
use Rattle.phase_seq.specs.declared.init_error.InitError.{InitError}
use Rattle.phase_seq.specs.declared.init_error.InitError.TheVariants.{Borrowed}
use Rattle.phase_seq.specs.declared.tolerance.Tolerance.{Tolerance}
use Rattle.phase_seq.specs.declared.ask.Want.TheVariants.{Read, Write}
use Rattle.phase_seq.specs.Asks.{shall_init}
use Rattle.phase_seq.specs.Direct as direct
use Rattle.lazy_cells.specs.Cells.{is_there}
use Rattle.lazy_cells.specs.Locked.{Locked, bars_read, bars_write, Barred, Enters, entry_by, made_by, Calls}
use Rattle.lazy_cells.specs.Guards.{IsGuarded, cell_of, to_read, to_write, in_to_read, in_to_write}
use Rattle.lazy_cells.specs.Fills.{put_in, entered, next_after}

-- ---- truth values

pub both_cases : {X Y Z : Type 0} (b : Bool) → MatchBool b X Y → (b ≡ true → X → Z) → (b ≡ false → Y → Z) → Z
both_cases true x f g = f refl x
both_cases false y f g = g refl y

pub at_true : {X : Type 0} (Y : Type 0) (b : Bool) → b ≡ true → X → MatchBool b X Y
at_true {X} Y b e x = subst (λ (c : Bool). MatchBool c X Y) (sym e) x

pub at_false : (X : Type 0) {Y : Type 0} (b : Bool) → b ≡ false → Y → MatchBool b X Y
at_false X {Y} b e y = subst (λ (c : Bool). MatchBool c X Y) (sym e) y

pub left_false : (a b : Bool) → a || b ≡ false → a ≡ false
left_false false b e = refl
left_false true b e = e

pub right_false : (a b : Bool) → a || b ≡ false → b ≡ false
right_false false b e = e
right_false true b e = absurd (cc)

-- a reader is barred by the record exactly where it is by the cell
pub same_bars : (h : Holders) → (h.locked ≡ true → h.readers ≡ 0) → record_of.bars_read h ≡ h.locked || (h.readers == record_of.most_readers)
same_bars h alone = by h.locked alone
  where
    by : (b : Bool) → (b ≡ true → h.readers ≡ 0) → (b && (h.readers == 0)) || (h.readers == record_of.most_readers) ≡ b || (h.readers == record_of.most_readers)
    by true a = rw (a refl) refl
    by false a = refl

none_there : {A : Type 0} (o : Option A) → is_there o ≡ false → o ≡ None
none_there None e = refl
none_there (Some x) e = absurd (cc)

module _ {T G P : Type 0} (att : G → Result T InitFault → G → Type 0) (t : Tolerance) (s : Option Phase) (h : Holders) (next : Option Phase) (b : Option T) (g : G) (m : P) where
  abbrev pub old : Locked T G P
  old = cell_of h next b g m

  -- nobody writes
  no_next : IsGuarded h next → h.locked ≡ false → next ≡ None
  no_next i e = none_there next (sym i.due ∙ e)

  -- ---- to read

  abbrev Reads : Option Phase → Result (ReadTicket × Phase × Option T) InitError → Holders → G → Type 0
  Reads n r h' left = Calls att t s bars_read to_read in_to_read old (entered r) (cell_of h' n (put_in r b) left m)

  moved_read : (n : Option Phase) (r r0 : Result (ReadTicket × Phase × Option T) InitError) (h' h0 : Holders) (left l0 : G) → r ≡ r0 → h' ≡ h0 → left ≡ l0 → Reads n r0 h0 l0 → Reads n r h' left
  moved_read n r r0 h' h0 left l0 er eh el x =
      let one : Reads n r h0 l0 = subst (λ (z : Result (ReadTicket × Phase × Option T) InitError). Reads n z h0 l0) (sym er) x in
      let two : Reads n r h' l0 = subst (λ (z : Holders). Reads n r z l0) (sym eh) one in
      subst (λ (z : G). Reads n r h' z) (sym el) two

  ran_read : (ran : Result (Option T) InitFault) (left : G) → direct.Came att s g ran left → bars_write old ≡ false → shall_init t h.phase ≡ true
      → Reads None (direct.answer_by direct.told_read Read (direct.reached_by s ran) ran) (direct.held_by Read (direct.reached_by s ran) ran (record_of.admit_write h)) left
  ran_read ran left came free due = record {
    entry = entry_by (direct.reached_by s ran) ran;
    made = made_by ran left old;
    comes = at_true _ _ due (at_false _ _ free (record { ran = ran; left = left; came = came; entry = refl; takes = refl }));
    answer = says ran;
    left = leaves ran;
  }
    where
      p : Phase
      p = direct.reached_by s ran

      says : (x : Result (Option T) InitFault) → entered (direct.answer_by direct.told_read Read p x) ≡ to_read (entry_by p x)
      says (Ok v) = refl
      says (Err e) = refl

      leaves : (x : Result (Option T) InitFault) → cell_of (direct.held_by Read p x (record_of.admit_write h)) None (put_in (direct.answer_by direct.told_read Read p x) b) left m ≡ in_to_read (entry_by p x) (made_by x left old)
      leaves (Ok None) = refl
      leaves (Ok (Some v)) = refl
      leaves (Err e) = refl

  rested_read : IsGuarded h next → bars_read old ≡ false → shall_init t h.phase ≡ false
      → Reads next (Ok (direct.told_read h.phase None)) (record_of.admit_read h) g
  rested_read i free due = record {
    entry = Enters h.phase;
    made = old;
    comes = at_false _ _ due (record { entry = sym (by (bars_read old) free); same = refl });
    answer = refl;
    left = is_left;
  }
    where
      by : (x : Bool) → x ≡ false → (if x then Barred else Enters h.phase) ≡ Enters h.phase
      by false e = refl
      by true e = absurd (cc)

      locked : h.locked ≡ false
      locked = left_false _ _ free

      is_left : cell_of (record_of.admit_read h) next b g m ≡ in_to_read (Enters h.phase) old
      is_left = rw (no_next i locked, locked) refl

  barred_run_read : bars_write old ≡ true → shall_init t h.phase ≡ true → Reads next (Err Borrowed) h g
  barred_run_read barred due = record {
    entry = Barred;
    made = old;
    comes = at_true _ _ due (at_true _ _ barred (record { entry = refl; same = refl }));
    answer = refl;
    left = refl;
  }

  barred_read : bars_read old ≡ true → shall_init t h.phase ≡ false → Reads next (Err Borrowed) h g
  barred_read barred due = record {
    entry = Barred;
    made = old;
    comes = at_false _ _ due (record { entry = sym (by (bars_read old) barred); same = refl });
    answer = refl;
    left = refl;
  }
    where
      by : (x : Bool) → x ≡ true → (if x then Barred else Enters h.phase) ≡ Barred
      by true e = refl
      by false e = absurd (cc)

  module _ (i : IsGuarded h next) (r : Result (ReadTicket × Phase × Option T) InitError) (h' : Holders) (left : G) where
    runs_read : shall_init t h.phase ≡ true → MatchBool (record_of.bars_write h) (direct.HasNone (Err Borrowed) h g r h' left) (direct.HasRun att direct.told_read Read s h g r h' left) → Reads next r h' left
    runs_read due c = both_cases (record_of.bars_write h) c
        (λ e none. moved_read next r _ h' _ left _ none.same none.held none.generator (barred_run_read e due))
        (λ e run. subst (λ (n : Option Phase). Reads n r h' left) (sym (no_next i (left_false _ _ e)))
        (moved_read None r _ h' _ left left run.answer run.held refl (ran_read run.ran left run.came e due)))

    rests_read : shall_init t h.phase ≡ false → MatchBool (record_of.bars_read h) (direct.HasNone (Err Borrowed) h g r h' left) (direct.HasNone (Ok (direct.told_read h.phase None)) (record_of.admit_read h) g r h' left) → Reads next r h' left
    rests_read due c = both_cases (record_of.bars_read h) c
        (λ e none. moved_read next r _ h' _ left _ none.same none.held none.generator (barred_read (sym (same_bars h i.alone) ∙ e) due))
        (λ e none. moved_read next r _ h' _ left _ none.same none.held none.generator (rested_read i (sym (same_bars h i.alone) ∙ e) due))

    by_read : (d : Bool) → shall_init t h.phase ≡ d
        → MatchBool (bars h (if d then nature.Write else nature.Read)) (direct.HasNone (Err Borrowed) h g r h' left)
        (MatchBool d (direct.HasRun att direct.told_read Read s h g r h' left) (direct.HasNone (Ok (direct.told_read h.phase None)) (admitted h (if d then nature.Write else nature.Read)) g r h' left))
        → Reads next r h' left
    by_read true due c = runs_read due c
    by_read false due c = rests_read due c

    pub entered_read : direct.Calls att direct.told_read Read t s h g r h' left → Calls att t s bars_read to_read in_to_read old (entered r) (cell_of h' next (put_in r b) left m)
    entered_read c = by_read (shall_init t h.phase) refl c

  -- ---- to write

  abbrev Writes : Option Phase → Result (WriteTicket × Phase × Option T) InitError → Holders → G → Type 0
  Writes n r h' left = Calls att t s bars_write to_write in_to_write old (entered r) (cell_of h' (next_after (entered r) n) (put_in r b) left m)

  moved_write : (n : Option Phase) (r r0 : Result (WriteTicket × Phase × Option T) InitError) (h' h0 : Holders) (left l0 : G) → r ≡ r0 → h' ≡ h0 → left ≡ l0 → Writes n r0 h0 l0 → Writes n r h' left
  moved_write n r r0 h' h0 left l0 er eh el x =
      let one : Writes n r h0 l0 = subst (λ (z : Result (WriteTicket × Phase × Option T) InitError). Writes n z h0 l0) (sym er) x in
      let two : Writes n r h' l0 = subst (λ (z : Holders). Writes n r z l0) (sym eh) one in
      subst (λ (z : G). Writes n r h' z) (sym el) two

  ran_write : (ran : Result (Option T) InitFault) (left : G) → direct.Came att s g ran left → bars_write old ≡ false → shall_init t h.phase ≡ true
      → Writes None (direct.answer_by direct.told_write Write (direct.reached_by s ran) ran) (direct.held_by Write (direct.reached_by s ran) ran (record_of.admit_write h)) left
  ran_write ran left came free due = record {
    entry = entry_by (direct.reached_by s ran) ran;
    made = made_by ran left old;
    comes = at_true _ _ due (at_false _ _ free (record { ran = ran; left = left; came = came; entry = refl; takes = refl }));
    answer = says ran;
    left = leaves ran;
  }
    where
      p : Phase
      p = direct.reached_by s ran

      says : (x : Result (Option T) InitFault) → entered (direct.answer_by direct.told_write Write p x) ≡ to_write (entry_by p x)
      says (Ok v) = refl
      says (Err e) = refl

      leaves : (x : Result (Option T) InitFault) → cell_of (direct.held_by Write p x (record_of.admit_write h)) (next_after (entered (direct.answer_by direct.told_write Write p x)) None) (put_in (direct.answer_by direct.told_write Write p x) b) left m ≡ in_to_write (entry_by p x) (made_by x left old)
      leaves (Ok None) = refl
      leaves (Ok (Some v)) = refl
      leaves (Err e) = refl

  rested_write : bars_write old ≡ false → shall_init t h.phase ≡ false
      → Writes next (Ok (direct.told_write h.phase None)) (record_of.admit_write h) g
  rested_write free due = record {
    entry = Enters h.phase;
    made = old;
    comes = at_false _ _ due (record { entry = sym (by (bars_write old) free); same = refl });
    answer = refl;
    left = is_left;
  }
    where
      by : (x : Bool) → x ≡ false → (if x then Barred else Enters h.phase) ≡ Enters h.phase
      by false e = refl
      by true e = absurd (cc)

      is_left : cell_of (record_of.admit_write h) (Some h.phase) b g m ≡ in_to_write (Enters h.phase) old
      is_left = refl

  barred_run_write : bars_write old ≡ true → shall_init t h.phase ≡ true → Writes next (Err Borrowed) h g
  barred_run_write barred due = record {
    entry = Barred;
    made = old;
    comes = at_true _ _ due (at_true _ _ barred (record { entry = refl; same = refl }));
    answer = refl;
    left = refl;
  }

  barred_write : bars_write old ≡ true → shall_init t h.phase ≡ false → Writes next (Err Borrowed) h g
  barred_write barred due = record {
    entry = Barred;
    made = old;
    comes = at_false _ _ due (record { entry = sym (by (bars_write old) barred); same = refl });
    answer = refl;
    left = refl;
  }
    where
      by : (x : Bool) → x ≡ true → (if x then Barred else Enters h.phase) ≡ Barred
      by true e = refl
      by false e = absurd (cc)

  module _ (i : IsGuarded h next) (r : Result (WriteTicket × Phase × Option T) InitError) (h' : Holders) (left : G) where
    runs_write : shall_init t h.phase ≡ true → MatchBool (record_of.bars_write h) (direct.HasNone (Err Borrowed) h g r h' left) (direct.HasRun att direct.told_write Write s h g r h' left) → Writes next r h' left
    runs_write due c = both_cases (record_of.bars_write h) c
        (λ e none. moved_write next r _ h' _ left _ none.same none.held none.generator (barred_run_write e due))
        (λ e run. subst (λ (n : Option Phase). Writes n r h' left) (sym (no_next i (left_false _ _ e)))
        (moved_write None r _ h' _ left left run.answer run.held refl (ran_write run.ran left run.came e due)))

    rests_write : shall_init t h.phase ≡ false → MatchBool (record_of.bars_write h) (direct.HasNone (Err Borrowed) h g r h' left) (direct.HasNone (Ok (direct.told_write h.phase None)) (record_of.admit_write h) g r h' left) → Writes next r h' left
    rests_write due c = both_cases (record_of.bars_write h) c
        (λ e none. moved_write next r _ h' _ left _ none.same none.held none.generator (barred_write e due))
        (λ e none. moved_write next r _ h' _ left _ none.same none.held none.generator (rested_write e due))

    by_write : (d : Bool) → shall_init t h.phase ≡ d
        → MatchBool (bars h nature.Write) (direct.HasNone (Err Borrowed) h g r h' left)
        (MatchBool d (direct.HasRun att direct.told_write Write s h g r h' left) (direct.HasNone (Ok (direct.told_write h.phase None)) (admitted h nature.Write) g r h' left))
        → Writes next r h' left
    by_write true due c = runs_write due c
    by_write false due c = rests_write due c

    pub entered_write : direct.Calls att direct.told_write Write t s h g r h' left → Calls att t s bars_write to_write in_to_write old (entered r) (cell_of h' (next_after (entered r) next) (put_in r b) left m)
    entered_write c = by_write (shall_init t h.phase) refl c

-- ---- the registry

-- where no write hold is open nobody writes
pub not_held : (h : Holders) (next : Option Phase) → IsGuarded h next → ¬ IsHeldToWrite h → h.locked ≡ false
not_held h next i f = by h.locked (λ e. f (record { locked = e; alone = i.alone e }))
  where
    by : (b : Bool) → (b ≡ true → ⊥) → b ≡ false
    by false g = refl
    by true g = absurd (g refl)

-- a read is due as a write is: the run writes
pub due_to_read : (t : Tolerance) (h : Holders) → direct.is_due_at Read t h ≡ not (record_of.bars_write h) && shall_init t h.phase
due_to_read t h = by (shall_init t h.phase)
  where
    none : (b : Bool) → b && false ≡ false
    none true = refl
    none false = refl

    by : (d : Bool) → not (bars h (if d then nature.Write else nature.Read)) && d ≡ not (record_of.bars_write h) && d
    by true = refl
    by false = none (not (record_of.bars_read h)) ∙ sym (none (not (record_of.bars_write h)))
