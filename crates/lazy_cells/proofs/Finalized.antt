-- What the turn of a locked cell leaves.
use Rattle.std.proofs.Common.{◌≡◌, ℕ, Bool, true, false, Option, Some, None, Result, Ok, Err, refl, sym, ap, ◌∙◌, subst}
use Rattle.std.specs.Prelude.{◌==◌, ◌&&◌, ◌||◌, not}
use Rattle.std.proofs.lemmas.Nat.{and_or_self, and_or_apart}
use Rattle.phase_bits.specs.declared.phase.Phase.{Phase}
use Rattle.phase_bits.specs.Flags.{has, initialized}
use Rattle.phase_bits.specs.Number.{number}
use Rattle.exit_registry.specs.Turns.{Meanings, left_by}
use Rattle.exit_registry.specs.declared.turns.Turn.{Turn}
use Rattle.exit_registry.specs.declared.turns.Turn.TheVariants.{Skipped, Done, Failed, Busy}
use Rattle.phase_seq.specs.declared.finalizer.FinalFault.{FinalFault}
use Rattle.phase_seq.specs.Phases.{finalized, flags_finalized, finalized_flag, finalization_panicked}
use Rattle.lazy_cells.specs.Kinds.{is_finalized, is_within_reach}
use Rattle.lazy_cells.specs.Cells.{is_there}
use Rattle.lazy_cells.specs.Locked.{Locked, bars_write}
use Rattle.lazy_cells.specs.Sound.{IsSound}
use Rattle.lazy_cells.specs.Finalizers.{meanings_of, KeepsValue, DropsValue, HasEnded, HasFinalized, Finalizes}
use Rattle.lazy_cells.proofs.Entered.{both_cases, right_false}

-- a finalizer leaves INITIALIZED
stays_made : (p : ℕ) (fine : Bool) → has (flags_finalized p fine) initialized ≡ has p initialized
stays_made p true = ap (λ (z : ℕ). z == 1) (and_or_apart 1 p 64 refl)
stays_made p false = ap (λ (z : ℕ). z == 1) (and_or_apart 1 p 128 refl)

-- it leaves its mark
ends_marked : (p : ℕ) (fine : Bool) → has (flags_finalized p fine) finalized_flag || has (flags_finalized p fine) finalization_panicked ≡ true
ends_marked p true = rw (and_or_self 64 p) refl
ends_marked p false = rw (and_or_self 128 p) (or_true (has (flags_finalized p false) finalized_flag))
  where
    or_true : (b : Bool) → b || true ≡ true
    or_true true = refl
    or_true false = refl

abbrev seen : Bool → Bool → Bool → Bool → Meanings
seen i h f x = record { initialized = i; held = h; finalized = f; failed = x }

same_seen : (i j h k f g x y : Bool) → i ≡ j → h ≡ k → f ≡ g → x ≡ y → seen i h f x ≡ seen j k g y
same_seen i j h k f g x y ei eh ef ex = ap (λ (z : Bool). seen z h f x) ei ∙ ap (λ (z : Bool). seen j z f x) eh ∙ ap (λ (z : Bool). seen j k z x) ef ∙ ap (λ (z : Bool). seen j k g z) ex

done_seen : (p : ℕ) (h k : Bool) → h ≡ k → seen (has (flags_finalized p true) initialized) h (has (flags_finalized p true) finalized_flag) (has (flags_finalized p true) finalization_panicked) ≡ seen (has p initialized) k true (has p finalization_panicked)
done_seen p h k e = same_seen _ _ h k _ true _ _ (stays_made p true) e (rw (and_or_self 64 p) refl) (ap (λ (z : ℕ). z == 128) (and_or_apart 128 p 64 refl))

failed_seen : (p : ℕ) (h k : Bool) → h ≡ k → seen (has (flags_finalized p false) initialized) h (has (flags_finalized p false) finalized_flag) (has (flags_finalized p false) finalization_panicked) ≡ seen (has p initialized) k (has p finalized_flag) true
failed_seen p h k e = same_seen _ _ h k _ _ _ true (stays_made p false) e (ap (λ (z : ℕ). z == 64) (and_or_apart 64 p 128 refl)) (rw (and_or_self 128 p) refl)

module _ {T G P : Type 0} (gave : Option T → Result (Unit {0}) FinalFault → Option T → Type 0) (old : Locked T G P) where
  free_same : (b r : Bool) → b || r ≡ false → r ≡ b || r
  free_same false r e = refl
  free_same true r e = absurd (cc)

  ran_leaves : (turn : Turn) (new : Locked T G P) → bars_write old ≡ false → HasFinalized gave old turn new → meanings_of new ≡ left_by turn (meanings_of old)
  ran_leaves Done new free h = ap meanings_of h.left ∙ done_seen (number old.phase) _ _ (free_same old.writing _ free)
  ran_leaves Failed new free h = ap meanings_of h.left ∙ failed_seen (number old.phase) _ _ (free_same old.writing _ free)
  ran_leaves Skipped new free h = absurd h
  ran_leaves Busy new free h = absurd h

  -- the meanings after the turn
  pub leaves : (turn : Turn) (new : Locked T G P) → Finalizes gave old turn new → meanings_of new ≡ left_by turn (meanings_of old)
  leaves turn new f = both_cases (has (number old.phase) initialized) f
      (λ _ x. both_cases (bars_write old) x (λ _ y. still Busy y (λ m. refl)) (λ free h. ran_leaves turn new free h))
      (λ _ y. still Skipped y (λ m. refl))
    where
      still : (t : Turn) → (turn ≡ t) × (new ≡ old) → ((m : Meanings) → left_by t m ≡ m) → meanings_of new ≡ left_by turn (meanings_of old)
      still t y e = ap meanings_of y.1 ∙ sym (e (meanings_of old)) ∙ ap (λ (z : Turn). left_by z (meanings_of old)) (sym y.0)

  module _ (hard primed : Bool) (k : IsSound hard primed old) (due : (fine : Bool) (r : Result (Unit {0}) FinalFault) (left : Option T) → gave old.value r left → has (number old.phase) initialized ≡ true → is_there left ≡ primed || is_within_reach hard (finalized old.phase fine)) where
    ended_sound : (fine : Bool) (r : Result (Unit {0}) FinalFault) (new : Locked T G P) → has (number old.phase) initialized ≡ true → bars_write old ≡ false → HasEnded gave fine r old new → IsSound hard primed new
    ended_sound fine r new made free h = subst (IsSound hard primed) (sym h.left) (record {
      there = due fine r new.value h.gives made;
      held = held;
      fresh = fresh;
      shown = λ _. refl;
      same = λ _. refl;
    })
      where
        none : (A : Type 0) (b : Bool) → b ≡ false → b ≡ true → A
        none A true e f = absurd (cc)
        none A false e f = absurd (cc)

        held : not (old.readers == 0) ≡ true → is_there new.value ≡ true
        held e = none _ _ (right_false old.writing _ free) e

        fresh : has (flags_finalized (number old.phase) fine) initialized ≡ false → is_finalized (finalized old.phase fine) ≡ false
        fresh e = none _ _ e (stays_made (number old.phase) fine ∙ made)

    ran_sound : (turn : Turn) (new : Locked T G P) → has (number old.phase) initialized ≡ true → bars_write old ≡ false → HasFinalized gave old turn new → IsSound hard primed new
    ran_sound Done new made free h = ended_sound true (Ok tt) new made free h
    ran_sound Failed new made free h = ended_sound false (Err (record {})) new made free h
    ran_sound Skipped new made free h = absurd h
    ran_sound Busy new made free h = absurd h

    -- what is kept stays
    pub sound : (turn : Turn) (new : Locked T G P) → Finalizes gave old turn new → IsSound hard primed new
    sound turn new f = both_cases (has (number old.phase) initialized) f
        (λ made x. both_cases (bars_write old) x (λ _ y. subst (IsSound hard primed) (sym y.1) k) (λ free h. ran_sound turn new made free h))
        (λ _ y. subst (IsSound hard primed) (sym y.1) k)

and_true : (b : Bool) → b ≡ true → b && true ≡ true
and_true true e = refl
and_true false e = e

-- the value that stays is in reach
pub kept_due : {T : Type 0} (finalizes : T → Result (Unit {0}) FinalFault → Type 0) (p : Phase) (old : Option T) (fine : Bool) (r : Result (Unit {0}) FinalFault) (left : Option T) → KeepsValue finalizes old r left → has (number p) initialized ≡ true → is_there left ≡ false || is_within_reach false (finalized p fine)
kept_due finalizes p None fine r left g made = absurd g
kept_due finalizes p (Some v) fine r left g made = ap is_there g.1 ∙ sym (and_true _ (stays_made (number p) fine ∙ made))

-- nothing is in reach of a value that was dropped
pub dropped_due : {T : Type 0} (p : Phase) (old : Option T) (fine : Bool) (r : Result (Unit {0}) FinalFault) (left : Option T) → DropsValue old r left → has (number p) initialized ≡ true → is_there left ≡ false || is_within_reach true (finalized p fine)
dropped_due p old fine r left g made = ap is_there g.1 ∙ sym (out (has (flags_finalized (number p) fine) initialized) _ (ends_marked (number p) fine))
  where
    out : (b m : Bool) → m ≡ true → b && not m ≡ false
    out b m e = rw e (by b)
      where
        by : (b : Bool) → b && false ≡ false
        by true = refl
        by false = refl
