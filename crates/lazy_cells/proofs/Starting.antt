-- What a start does.
use Rattle.std.proofs.Common.{◌≡◌, ◌≢◌, ℕ, ◌<◌, Bool, true, false, Option, Some, None, Result, Ok, Err, refl, sym, ap, ◌∙◌, subst, inl, inr, arith}
use Rattle.std.specs.Prelude.{◌==◌, ◌&&◌, if◌then◌else◌}
use Rattle.std.specs.Int.RustNames.{bit_and, bit_or}
use Rattle.std.proofs.Math.ListN.{length-set}
use Rattle.std.proofs.lemmas.List.{get_or-set_other, get_or-set_same}
use Rattle.std.proofs.lemmas.Bool.{cases_eq}
use Rattle.std.proofs.lemmas.Nat.{and_or_self, and_assoc}
use Rattle.phase_bits.specs.declared.phase.Phase.{Phase}
use Rattle.phase_bits.specs.Flags.{has, initialization_panicked}
use Rattle.phase_bits.specs.Number.{number}
use Rattle.exit_registry.specs.Registry.{Registry, cells_of, is_known, registered, after_register}
use Rattle.phase_seq.specs.declared.generator.InitFault.{InitFault}
use Rattle.phase_seq.specs.declared.init_error.InitError.{InitError}
use Rattle.phase_seq.specs.declared.init_error.InitError.TheVariants.{Access, Borrowed}
use Rattle.phase_seq.specs.declared.tolerance.Tolerance.{Tolerance}
use Rattle.phase_seq.specs.Asks.{shall_init}
use Rattle.phase_seq.specs.Registers.{after_asking}
use Rattle.phase_seq.specs.Direct.{reached_by, Came}
use Rattle.lazy_cells.specs.Kinds.{is_within_reach}
use Rattle.lazy_cells.specs.Cells as plain
use Rattle.lazy_cells.specs.Locked.{Locked, bars_write, rests, Entry, Barred, Enters, tried, entry_by, made_by, Comes, Calls}
use Rattle.lazy_cells.specs.Access.{say_init, left_init, reached}
use Rattle.lazy_cells.specs.Startup.{Standing, standing_plain, standing_locked, IsFailed, Answers, KnowsMore, accessed}
use Rattle.lazy_cells.proofs.Flags.{Lacks, failed_lacks}
use Rattle.lazy_cells.proofs.Entered.{both_cases, left_false, right_false}

-- ---- the registry

cells_same : (c : ℕ) (m : Registry) → is_known m c ≡ false → KnowsMore (Some c) m m
cells_same c m u = record { cells = refl; kept = λ d e. e; others = λ d e. refl }

-- it stays
pub knows_same : (o : Option ℕ) (m : Registry) → KnowsMore o m m
knows_same o m = record { cells = refl; kept = λ d e. e; others = λ d e. refl }

apart_so : (c d : ℕ) → (c == d) ≡ false → d ≢ c
apart_so c d e f = absurd (grind arith)

registered_more : (c : ℕ) (m : Registry) → c < cells_of m → KnowsMore (Some c) m (registered c m)
registered_more c m l = record {
  cells = length-set m.known c true;
  kept = kept;
  others = λ d e. get_or-set_other m.known c d true false (apart_so c d e);
}
  where
    kept : (d : ℕ) → is_known m d ≡ true → is_known (registered c m) d ≡ true
    kept d e = elim (cases_eq c d) [
      | inl f ↦ subst (λ (x : ℕ). is_known (registered c m) x ≡ true) f (get_or-set_same m.known c true false l)
      | inr n ↦ get_or-set_other m.known c d true false (λ f. n (sym f)) ∙ e
    ]

-- a call that may register the cell
pub knows_more : (due : Bool) (c : ℕ) (p : Phase) (m : Registry) → c < cells_of m → KnowsMore (Some c) m (after_asking due c p m)
knows_more due c p m l = by (due && (number p == 0))
  where
    open_so : (b : Bool) → KnowsMore (Some c) m (if b then registered c m else m)
    open_so true = registered_more c m l
    open_so false = knows_same (Some c) m

    by : (b : Bool) → KnowsMore (Some c) m (if b then after_register c m else m)
    by true = open_so m.is_open
    by false = knows_same (Some c) m

-- ---- failed runs

has_panicked : (p : ℕ) → has (bit_or p 6) initialization_panicked ≡ true
has_panicked p = ap (λ (z : ℕ). z == 2) (sym (and_assoc 2 (bit_or p 6) 6) ∙ ap (λ (z : ℕ). bit_and z 2) (and_or_self 6 p))

module _ {T G : Type 0} (att : G → Result T InitFault → G → Type 0) (g left : G) (e : InitFault) where
  failed_so : (s : Option Phase) → Lacks s → Came att s g (Err e) left → IsFailed (reached_by {V = T} s (Err e))
  failed_so None l c = let none : Result (Option T) InitFault = Ok None in let x : Err e ≡ none = c.0 in absurd (cc)
  failed_so (Some st) l c = record { panicked = has_panicked (number st); lacks = failed_lacks (number st) l }

-- the answer at a phase where nobody holds the cell
at_phase : (hard : Bool) (p : Phase) (old new : Standing) → p ≡ new.phase → new.in_reach ≡ is_within_reach hard p → old.held ≡ false → Answers old (reached hard p p) new
at_phase hard p old new ep er eh = by (is_within_reach hard p) er
  where
    by : (b : Bool) → new.in_reach ≡ b → Answers old (if b then Ok p else Err (Access (record { phase = p }))) new
    by true e = (ep, e, eh)
    by false e = (ep, e, eh)

-- ---- locked cells

module _ {T G P : Type 0} (hard : Bool) (num : P → Option ℕ) (att : G → Result T InitFault → G → Type 0) (t : Tolerance) (s : Option Phase) (lacks : Lacks s) (old : Locked T G P) where
  abbrev st : Locked T G P → Standing
  st = standing_locked hard num

  -- what a start promises besides the registry
  pub record Stands (r : Result Phase InitError) (new : Locked T G P) : Type 0 where
    pub answers : Answers (st old) r (st new)
    pub held : bars_write new ≡ bars_write old
    pub writing : new.writing ≡ old.writing
    pub cell : num new.marker ≡ num old.marker

  same_stands : bars_write old ≡ true → Stands (Err Borrowed) old
  same_stands e = record { answers = (refl, e); held = refl; writing = refl; cell = refl }

  rests_stands : (p : Phase) (v : Option T) (left : G) → bars_write old ≡ false → Stands (reached hard p p) (rests p (record old { value = v; generator = left }))
  rests_stands p v left free = record {
    answers = at_phase hard p (st old) (st (rests p (record old { value = v; generator = left }))) refl refl free;
    held = right_false old.writing _ free ∙ sym free;
    writing = sym (left_false old.writing _ free);
    cell = refl;
  }

  ran_stands : bars_write old ≡ false → (ran : Result (Option T) InitFault) (left : G) → Came att s old.generator ran left → Stands (say_init hard (entry_by (reached_by s ran) ran)) (left_init (entry_by (reached_by s ran) ran) (made_by ran left old))
  ran_stands free (Ok v) left came = rests_stands (reached_by s (Ok v)) (plain.value_by (Ok v) old.value) left free
  ran_stands free (Err e) left came = record {
    answers = (failed_so att old.generator left e s lacks came, free);
    held = right_false old.writing _ free ∙ sym free;
    writing = sym (left_false old.writing _ free);
    cell = refl;
  }

  tried_stands : (b : Bool) → bars_write old ≡ b → Stands (say_init hard (if b then Barred else Enters old.phase)) (left_init (if b then Barred else Enters old.phase) old)
  tried_stands true e = same_stands e
  tried_stands false e = rests_stands old.phase old.value old.generator e

  moved : (r r0 : Result Phase InitError) (new n0 : Locked T G P) → r ≡ r0 → new ≡ n0 → Stands r0 n0 → Stands r new
  moved r r0 new n0 er en x = subst (λ (z : Locked T G P). Stands r z) (sym en) (subst (λ (z : Result Phase InitError). Stands z n0) (sym er) x)

  by_entry : (e : Entry) (made : Locked T G P) → Comes att t s bars_write old e made → Stands (say_init hard e) (left_init e made)
  by_entry e made c = both_cases (shall_init t old.phase) c
      (λ due x. both_cases (bars_write old) x
      (λ barred none. moved _ _ _ _ (ap (say_init hard) none.entry) (ap (λ (z : Entry). left_init z made) none.entry ∙ none.same) (same_stands barred))
      (λ free run. moved _ _ _ _ (ap (say_init hard) run.entry) (ap (λ (z : Entry). left_init z made) run.entry ∙ ap (left_init (entry_by (reached_by s run.ran) run.ran)) run.takes) (ran_stands free run.ran run.left run.came)))
      (λ _ none. moved _ _ _ _ (ap (say_init hard) none.entry) (ap (λ (z : Entry). left_init z made) none.entry ∙ ap (left_init (tried bars_write old)) none.same) (tried_stands (bars_write old) refl))

  pub stands : (r : Result Phase InitError) (new : Locked T G P) → Calls att t s bars_write (say_init hard) left_init old r new → Stands r new
  stands r new c = moved r _ new _ c.answer c.left (by_entry c.entry c.made c.comes)

-- ---- plain cells

module _ {T G P : Type 0} (num : P → Option ℕ) (att : G → Result T InitFault → G → Type 0) (t : Tolerance) (s : Option Phase) (lacks : Lacks s) (old : plain.Cell T G P) where
  abbrev sp : plain.Cell T G P → Standing
  sp = standing_plain num

  pub record StandsPlain (r : Result Phase InitError) (new : plain.Cell T G P) : Type 0 where
    pub answers : Answers (sp old) (accessed r) (sp new)
    pub cell : num new.marker ≡ num old.marker

  answered : (ran : Result (Option T) InitFault) (new : plain.Cell T G P) → Came att s old.generator ran new.generator → new.phase ≡ reached_by s ran → Answers (sp old) (accessed (plain.say_phase ran new)) (sp new)
  answered (Ok v) new came e = at_phase false new.phase (sp old) (sp new) refl refl refl
  answered (Err f) new came e = (subst IsFailed (sym e) (failed_so att old.generator new.generator f s lacks came), refl)

  pub stands_plain : (r : Result Phase InitError) (new : plain.Cell T G P) → plain.Asks att plain.say_phase t s old r new → StandsPlain r new
  stands_plain r new a = both_cases (shall_init t old.phase) a
      (λ _ run. record {
        answers = subst (λ (z : Result Phase InitError). Answers (sp old) (accessed z) (sp new)) (sym run.answer) (answered run.ran new run.came run.phase);
        cell = ap num run.marker;
      })
      (λ _ none. record {
        answers = subst (λ (z : Result Phase InitError). Answers (sp old) (accessed z) (sp new)) (sym none.answer) (subst (λ (z : plain.Cell T G P). Answers (sp old) (accessed (Ok old.phase)) (sp z)) (sym none.same) (at_phase false old.phase (sp old) (sp old) refl refl refl));
        cell = ap (λ (z : plain.Cell T G P). num z.marker) none.same;
      })
