-- Each call keeps what is kept of a locked cell.
use Rattle.std.proofs.Common.{◌≡◌, ℕ, ◌-◌, Bool, true, false, Option, Some, None, Result, Ok, Err, refl, sym, ap, ◌∙◌, subst}
use Rattle.std.specs.Prelude.{◌==◌, ◌^◌, if◌then◌else◌, ◌&&◌, ◌||◌, not}
use Rattle.std.specs.Int.RustNames.{bit_or}
use Rattle.std.proofs.lemmas.Nat.{and_assoc, and_or_apart}
use Rattle.phase_bits.specs.declared.phase.Phase.{Phase}
use Rattle.phase_bits.specs.Flags.{has, without_flags, initialized}
use Rattle.phase_bits.specs.Number.{number}
use Rattle.exit_registry.specs.Registry.{Registry}
use Rattle.phase_seq.specs.declared.generator.InitFault.{InitFault}
use Rattle.phase_seq.specs.declared.tolerance.Tolerance.{Tolerance}
use Rattle.phase_seq.specs.Asks.{shall_init}
use Rattle.phase_seq.specs.Phases.{registration, initialization_flags, flags_reached, finalized_flag, finalization_panicked}
use Rattle.phase_seq.specs.Registers.{is_refused}
use Rattle.phase_seq.specs.Direct.{enlisted, stays_at, reached_by, Came}
use Rattle.lazy_cells.specs.Kinds.{is_finalized, is_within_reach}
use Rattle.lazy_cells.specs.Cells.{is_there}
use Rattle.lazy_cells.specs.Locked.{Locked, bars_read, bars_write, reads, writes, rests, Entry, Barred, Fails, Enters, tried, entry_by, made_by, HasRun, HasNone, Comes, Calls, Tries}
use Rattle.lazy_cells.specs.Access.{left_read, left_write, left_init, left_primed_read, left_primed_write}
use Rattle.lazy_cells.specs.Sound.{IsSound}
use Rattle.lazy_cells.proofs.Flags.{made_has, failed_lacks, stays_lack, due_lacks}
use Rattle.lazy_cells.proofs.Entered.{both_cases, left_false, right_false}

-- ---- flags

-- a finalizer ran, by the flags
abbrev pub ended : ℕ → Bool
ended n = has n finalized_flag || has n finalization_panicked

-- what a run sets is no flag of a finalizer
run_ends : (p : ℕ) (made : Bool) → ended (flags_reached p made) ≡ ended p
run_ends p true = ap (λ (z : ℕ). (z == 64) || has (bit_or p 1) 128) (and_or_apart 64 p 1 refl) ∙ ap (λ (z : ℕ). has p 64 || (z == 128)) (and_or_apart 128 p 1 refl)
run_ends p false = ap (λ (z : ℕ). (z == 64) || has (bit_or p 6) 128) (and_or_apart 64 p 6 refl) ∙ ap (λ (z : ℕ). has p 64 || (z == 128)) (and_or_apart 128 p 6 refl)

-- the flags that stay are of no finalizer where none ran
stays_end : (p : ℕ) (is_empty is_open : Bool) → ended p ≡ false → ended (if is_empty then registration is_open else without_flags p initialization_flags) ≡ false
stays_end p true true e = refl
stays_end p true false e = refl
stays_end p false is_open e = ap (λ (z : ℕ). (z == 64) || has (without_flags p initialization_flags) 128) (and_assoc 64 p (2 ^ 32 - 1 - 7)) ∙ ap (λ (z : ℕ). has p 64 || (z == 128)) (and_assoc 128 p (2 ^ 32 - 1 - 7)) ∙ e

-- flags that stay, of a cell that is not initialized
pub record IsFresh (p : ℕ) : Type 0 where
  pub lacks : has p initialized ≡ false
  pub quiet : ended p ≡ false

abbrev pub StayFresh : Option Phase → Type 0
StayFresh None = Unit {0}
StayFresh (Some s) = IsFresh (number s)

-- those that stay beside a registration
pub enlisted_fresh : (leak : Bool) (m : Registry) (p : Phase) → IsFresh (number p) → StayFresh (enlisted leak (Some m) p)
enlisted_fresh leak m p f = by (is_refused leak (Some m) p)
  where
    by : (b : Bool) → StayFresh (if b then None else Some (stays_at (Some m) p))
    by true = tt
    by false = record { lacks = stays_lack (number p) (number p == 0) m.is_open; quiet = stays_end (number p) (number p == 0) m.is_open f.quiet }

-- ---- the value after a run

or_true : (b : Bool) → b || true ≡ true
or_true true = refl
or_true false = refl

and_true : (b : Bool) → b && true ≡ b
and_true true = refl
and_true false = refl

-- a value that was made is in reach
made_reach : (hard : Bool) (s : ℕ) → IsFresh s → is_within_reach hard (record { bits = flags_reached s true }) ≡ true
made_reach hard s f = rw (made_has s, run_ends s true, f.quiet) (by hard)
  where
    by : (h : Bool) → not (h && false) ≡ true
    by true = refl
    by false = refl

-- one that was not made is not
no_reach : (hard : Bool) (n : ℕ) → has n initialized ≡ false → is_within_reach hard (record { bits = n }) ≡ false
no_reach hard n e = rw e refl

-- no reader is beside a writer
no_reader : (A : Type 0) (b : Bool) → b ≡ false → b ≡ true → A
no_reader A true e f = absurd (cc)
no_reader A false e f = absurd (cc)

right_true : (a b : Bool) → b ≡ true → a || b ≡ true
right_true true b e = refl
right_true false b e = e

both_so : {A : Type 0} (X : A → Type 0) (b : Bool) (x y : A) → (b ≡ true → X x) → X y → X (if b then x else y)
both_so X true x y f z = f refl
both_so X false x y f z = z

-- what is kept of a cell that comes in at this phase
pub record IsReady {T G P : Type 0} (hard primed : Bool) (p : Phase) (c : Locked T G P) : Type 0 where
  pub there : is_there c.value ≡ primed || is_within_reach hard p
  pub beside : not (c.readers == 0) ≡ true → is_there c.value ≡ true
  pub fresh : has (number p) initialized ≡ false → is_finalized p ≡ false
  pub same : has (number c.phase) initialized ≡ true → p ≡ c.phase

abbrev pub ReadyAt : {T G P : Type 0} → Bool → Bool → Entry → Locked T G P → Type 0
ReadyAt hard primed Barred c = IsSound hard primed c
ReadyAt hard primed (Fails p) c = IsReady hard primed p c
ReadyAt hard primed (Enters p) c = IsReady hard primed p c

module _ {T G P : Type 0} (hard primed : Bool) (old : Locked T G P) (k : IsSound hard primed old) where
  -- a cell that nobody writes is ready as it is
  pub rest_ready : old.writing ≡ false → IsReady hard primed old.phase old
  rest_ready e = record {
    there = subst (λ (p : Phase). is_there old.value ≡ primed || is_within_reach hard p) (k.shown e) k.there;
    beside = λ f. k.held (right_true old.writing _ f);
    fresh = subst (λ (p : Phase). has (number p) initialized ≡ false → is_finalized p ≡ false) (k.shown e) k.fresh;
    same = λ _. refl;
  }

  pub tried_ready : (bars : Locked T G P → Bool) → (bars old ≡ false → old.writing ≡ false) → ReadyAt hard primed (tried bars old) old
  tried_ready bars f = by (bars old) f
    where
      by : (b : Bool) → (b ≡ false → old.writing ≡ false) → ReadyAt hard primed (if b then Barred else Enters old.phase) old
      by true f = k
      by false f = rest_ready (f refl)

  module _ (att : G → Result T InitFault → G → Type 0) (t : Tolerance) (s : Option Phase) (stay : IsFresh (number old.phase) → StayFresh s) where
    -- a cell in which a run was due
    run_ready : bars_write old ≡ false → has (number old.phase) initialized ≡ false → (ran : Result (Option T) InitFault) (left : G) → Came att s old.generator ran left → ReadyAt hard primed (entry_by (reached_by s ran) ran) (made_by ran left old)
    run_ready free lacks ran left came = by s (stay is_fresh) ran came
      where
        ready : IsReady hard primed old.phase old
        ready = rest_ready (left_false _ _ free)

        is_fresh : IsFresh (number old.phase)
        is_fresh = record { lacks = lacks; quiet = ready.fresh lacks }

        out : (n : ℕ) → has n initialized ≡ false → is_there old.value ≡ primed || is_within_reach hard (record { bits = n })
        out n e = ready.there ∙ ap (λ (z : Bool). primed || z) (no_reach hard (number old.phase) lacks ∙ sym (no_reach hard n e))

        by : (s' : Option Phase) → StayFresh s' → (ran' : Result (Option T) InitFault) → Came att s' old.generator ran' left → ReadyAt hard primed (entry_by (reached_by s' ran') ran') (made_by ran' left old)
        by None f (Ok None) c = record { there = out 36 refl; beside = no_reader _ _ (right_false _ _ free); fresh = λ _. refl; same = no_reader _ _ lacks }
        by None f (Ok (Some v)) c = let none : Result (Option T) InitFault = Ok None in let x : Ok (Some v) ≡ none = c.0 in absurd (cc)
        by None f (Err e) c = let none : Result (Option T) InitFault = Ok None in let x : Err e ≡ none = c.0 in absurd (cc)
        by (Some st) f (Ok None) c = absurd c
        by (Some st) f (Ok (Some v)) c = record {
          there = sym (ap (λ (z : Bool). primed || z) (made_reach hard (number st) f) ∙ or_true primed);
          beside = λ _. refl;
          fresh = λ e. no_reader _ _ e (made_has (number st));
          same = no_reader _ _ lacks;
        }
        by (Some st) f (Err e) c = record {
          there = out (flags_reached (number st) false) (failed_lacks (number st) f.lacks);
          beside = no_reader _ _ (right_false _ _ free);
          fresh = λ _. run_ends (number st) false ∙ f.quiet;
          same = no_reader _ _ lacks;
        }

    pub ready : (bars : Locked T G P → Bool) → (bars old ≡ false → old.writing ≡ false) → (e : Entry) (made : Locked T G P) → Comes att t s bars old e made → ReadyAt hard primed e made
    ready bars f e made c = both_cases (shall_init t old.phase) c
        (λ due x. both_cases (bars_write old) x (λ _ none. here Barred none k) (λ free run. ran_so run (run_ready free (due_lacks t old.phase due) run.ran run.left run.came)))
        (λ _ none. here (tried bars old) none (tried_ready bars f))
      where
        here : (x : Entry) → HasNone x old e made → ReadyAt hard primed x old → ReadyAt hard primed e made
        here x none r =
            let one : ReadyAt hard primed e old = subst (λ (z : Entry). ReadyAt hard primed z old) (sym none.entry) r in
            subst (λ (z : Locked T G P). ReadyAt hard primed e z) (sym none.same) one

        ran_so : (run : HasRun att s old e made) → ReadyAt hard primed (entry_by (reached_by s run.ran) run.ran) (made_by run.ran run.left old) → ReadyAt hard primed e made
        ran_so run r =
            let one : ReadyAt hard primed e (made_by run.ran run.left old) = subst (λ (z : Entry). ReadyAt hard primed z (made_by run.ran run.left old)) (sym run.entry) r in
            subst (λ (z : Locked T G P). ReadyAt hard primed e z) (sym run.takes) one

-- ---- what calls leave

module _ {T G P : Type 0} (hard primed : Bool) (p : Phase) (c : Locked T G P) (r : IsReady hard primed p c) where
  in_reach : is_within_reach hard p ≡ true → is_there c.value ≡ true
  in_reach e = r.there ∙ ap (λ (z : Bool). primed || z) e ∙ or_true primed

  pub sound_rests : IsSound hard primed (rests p c)
  sound_rests = record { there = r.there; held = r.beside; fresh = r.fresh; shown = λ _. refl; same = λ _. refl }

  sound_reads : is_there c.value ≡ true → IsSound hard primed (reads p c)
  sound_reads e = record { there = r.there; held = λ _. e; fresh = r.fresh; shown = λ _. refl; same = λ _. refl }

  sound_writes : is_there c.value ≡ true → IsSound hard primed (writes p c)
  sound_writes e = record { there = r.there; held = λ _. e; fresh = r.fresh; shown = λ f. absurd (cc); same = r.same }

  pub reads_or_rests : IsSound hard primed (if is_within_reach hard p then reads p c else rests p c)
  reads_or_rests = both_so (IsSound hard primed) _ (reads p c) (rests p c) (λ e. sound_reads (in_reach e)) sound_rests

  pub writes_or_rests : IsSound hard primed (if is_within_reach hard p then writes p c else rests p c)
  writes_or_rests = both_so (IsSound hard primed) _ (writes p c) (rests p c) (λ e. sound_writes (in_reach e)) sound_rests

  module _ (always : primed ≡ true) where
    primed_there : is_there c.value ≡ true
    primed_there = r.there ∙ ap (λ (z : Bool). z || is_within_reach hard p) always

    pub always_reads : IsSound hard primed (reads p c)
    always_reads = sound_reads primed_there

    pub writes_or_reads : IsSound hard primed (if is_within_reach hard p then writes p c else reads p c)
    writes_or_reads = both_so (IsSound hard primed) _ (writes p c) (reads p c) (λ e. sound_writes primed_there) always_reads

module _ {T G P : Type 0} (hard primed : Bool) where
  abbrev pub Keeps : (Entry → Locked T G P → Locked T G P) → Type 0
  Keeps leave = (e : Entry) (c : Locked T G P) → ReadyAt hard primed e c → IsSound hard primed (leave e c)

  pub keeps_read : Keeps (left_read hard)
  keeps_read Barred c r = r
  keeps_read (Fails p) c r = sound_rests hard primed p c r
  keeps_read (Enters p) c r = reads_or_rests hard primed p c r

  pub keeps_write : Keeps (left_write hard)
  keeps_write Barred c r = r
  keeps_write (Fails p) c r = sound_rests hard primed p c r
  keeps_write (Enters p) c r = writes_or_rests hard primed p c r

  pub keeps_init : Keeps left_init
  keeps_init Barred c r = r
  keeps_init (Fails p) c r = sound_rests hard primed p c r
  keeps_init (Enters p) c r = sound_rests hard primed p c r

  pub keeps_primed_read : primed ≡ true → Keeps left_primed_read
  keeps_primed_read a Barred c r = r
  keeps_primed_read a (Fails p) c r = sound_rests hard primed p c r
  keeps_primed_read a (Enters p) c r = always_reads hard primed p c r a

  pub keeps_primed_write : primed ≡ true → Keeps (left_primed_write hard)
  keeps_primed_write a Barred c r = r
  keeps_primed_write a (Fails p) c r = sound_rests hard primed p c r
  keeps_primed_write a (Enters p) c r = writes_or_reads hard primed p c r a

module _ {T G P A : Type 0} (hard primed : Bool) (bars : Locked T G P → Bool) (quiet : (c : Locked T G P) → bars c ≡ false → c.writing ≡ false) (say : Entry → A) (leave : Entry → Locked T G P → Locked T G P) (keeps : Keeps hard primed leave) (old : Locked T G P) (k : IsSound hard primed old) (r : A) (new : Locked T G P) where
  pub sound_calls : (att : G → Result T InitFault → G → Type 0) (t : Tolerance) (s : Option Phase) → (IsFresh (number old.phase) → StayFresh s) → Calls att t s bars say leave old r new → IsSound hard primed new
  sound_calls att t s stay c = subst (IsSound hard primed) (sym c.left) (keeps c.entry c.made (ready hard primed old k att t s stay bars (quiet old) c.entry c.made c.comes))

  pub sound_tries : Tries bars say leave old r new → IsSound hard primed new
  sound_tries c = subst (IsSound hard primed) (sym c.left) (keeps (tried bars old) old (tried_ready hard primed old k bars (quiet old)))

pub read_quiet : {T G P : Type 0} (c : Locked T G P) → bars_read c ≡ false → c.writing ≡ false
read_quiet c e = left_false _ _ e

pub write_quiet : {T G P : Type 0} (c : Locked T G P) → bars_write c ≡ false → c.writing ≡ false
write_quiet c e = left_false _ _ e

-- the flags of a cell without a registry
pub unregistered_fresh : {p : ℕ} → IsFresh p → IsFresh 0
unregistered_fresh f = record { lacks = refl; quiet = refl }
