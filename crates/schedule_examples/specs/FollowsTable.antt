-- What the rules of the schedule tell of each call, turn and finalizer of a kind, beside what the tables tell.
use Rattle.std.specs.Prelude.{ℕ, ◌≡◌, Bool, true, false, if◌then◌else◌, List, [], ◌∷◌, map, flat_map}
use Rattle.std.specs.declared.option.Option.{Option}
use Rattle.std.specs.declared.option.Option.TheVariants.{None, Some}
use Rattle.phase_seq.specs.declared.tolerance.Tolerance.{Tolerance}
use Rattle.lazy_cells.specs.declared.kind.Kind.{Kind}
use Rattle.lazy_cells.specs.declared.call.Call.{Call}
use Rattle.lazy_cells.specs.declared.call.Call.TheVariants as call
use Rattle.lazy_cells.specs.Calls.{has_call}
use Rattle.schedule_rules.specs.declared.plan.CellPlan.{CellPlan}
use Rattle.schedule_rules.specs.declared.plan.Place.{Place}
use Rattle.schedule_rules.specs.declared.plan.Place.TheVariants as place
use Rattle.schedule_rules.specs.declared.line.Answer.{Answer}
use Rattle.schedule_rules.specs.declared.step.Want.{Want}
use Rattle.schedule_rules.specs.declared.step.Want.TheVariants.{Calls, Turns}
use Rattle.schedule_rules.specs.Phases.{Success, phase_reached, phase_finalized, finishes_so, value_finalized}
use Rattle.schedule_rules.specs.Calls.{lock_wanted, asks, wakes_as, is_fast}
use Rattle.schedule_rules.specs.Changes.{Content, Change, Ran, Asked, content_after}
use Rattle.schedule_rules.specs.Answers.{begins_run, answer_admitted, answer_of_made, answer_barred, way_parked}
use Rattle.schedule_examples.specs.CallTable.{Run, Told, Turning, told_by_table, turn_by_table, value_by_table, held_value, made_value, holding, barred_by}

-- the sixteen calls
abbrev pub all_calls : List Call
all_calls =
    call.Phase
    ∷ call.TryGet
    ∷ call.Get
    ∷ call.Init
    ∷ call.Read
    ∷ call.Write
    ∷ call.FastRead
    ∷ call.FastWrite
    ∷ call.TryRead
    ∷ call.TryWrite
    ∷ call.FastTryRead
    ∷ call.FastTryWrite
    ∷ call.PrimedRead
    ∷ call.PrimedWrite
    ∷ call.PrimedReadNonInitializing
    ∷ call.PrimedWriteNonInitializing
    ∷ []

-- the phases that cells meet: of a cell that is not registered, registered or refused: empty, of a failed run, declined,
-- initialized, finalized, and of a failed finalizer
abbrev pub phases_met : List ℕ
phases_met = 0 ∷ 6 ∷ 1 ∷ 9 ∷ 14 ∷ 33 ∷ 36 ∷ 38 ∷ 73 ∷ 137 ∷ []

-- a cell with and without retry, with and without leak, while the registry is open and when it is closed
pub record Setting : Type 0 where
  pub retry : Bool
  pub leak : Bool
  pub is_open : Bool

abbrev both : List Bool
both = true ∷ false ∷ []

abbrev pub settings : List Setting
settings = flat_map (λ r. flat_map (λ l. map (λ o. record { retry = r; leak = l; is_open = o }) both) both) both

abbrev plan : Kind → Setting → CellPlan
plan q s = record { kind = q; retry = s.retry; leak = s.leak; place = place.Spin; prime = 0 }

abbrev tolerance : Setting → Tolerance
tolerance s = record { retry = s.retry; leak = s.leak }

-- ---- calls

-- where it is barred: at this place, by whether it drains
abbrev barred_at : Kind → Want → Place → Bool → Answer
barred_at q w x drains = answer_barred (is_fast w) x (way_parked q w drains)

abbrev barred_answers : Kind → Want → List Answer
barred_answers q w =
    barred_at q w place.Park true
    ∷ barred_at q w place.Park false
    ∷ barred_at q w place.Spin false
    ∷ barred_at q w (place.Own 0) false
    ∷ []

module _ (q : Kind) (s : Setting) (k : Call) (p : ℕ) where
  abbrev content_with : Change → Content
  content_with ch = content_after (plan q s) ch (holding p held_value)

  abbrev run : Run
  run =
      record {
        made = answer_of_made q (Calls k) made_value (phase_reached q s.is_open p Success);
        success = content_with (Ran s.is_open (Some made_value));
        failure = content_with (Ran s.is_open None);
      }

  -- what the rules tell of the call, where the kind has it
  abbrev pub told_by_rules : Option Told
  told_by_rules =
      if has_call q k
      then Some
      (record {
        lock = lock_wanted q (tolerance s) (Calls k) p;
        waking = wakes_as q (Calls k);
        asks = asks q (tolerance s) (Calls k) p;
        admitted = answer_admitted q (tolerance s) 0 s.is_open (Calls k) (holding p held_value);
        run = if begins_run q (tolerance s) s.is_open k p then Some run else None;
        left = content_with (Asked s.is_open k);
        barred = barred_by (lock_wanted q (tolerance s) (Calls k) p) (barred_answers q (Calls k));
      })
      else None

-- what is told of each call at each phase, in each setting
abbrev pub told_of_all : (Setting → Call → ℕ → Option Told) → List (Option Told)
told_of_all f = flat_map (λ s. flat_map (λ k. map (λ p. f s k p) phases_met) all_calls) settings

-- the calls of this kind want, answer and leave what the tables say
abbrev pub CallsFollow : Kind → Type 0
CallsFollow q = told_of_all (told_by_rules q) ≡ told_of_all (λ s k p. told_by_table q (tolerance s) s.is_open k p)

-- ---- turns

-- the turn of the cell with this number
abbrev pub turn_by_rules : Kind → Setting → ℕ → ℕ → Turning
turn_by_rules q s c p =
    record {
      lock = lock_wanted q (tolerance s) Turns p;
      waking = wakes_as q Turns;
      admitted = answer_admitted q (tolerance s) c s.is_open Turns (holding p held_value);
      done = phase_finalized p true;
      failed = phase_finalized p false;
    }

-- the value after a finalizer that ends so, where it may
abbrev pub value_by_rules : Kind → Bool → Option ℕ → Option (Option ℕ)
value_by_rules q fine left = if finishes_so q fine left then Some (value_finalized q left (Some held_value)) else None

abbrev pub values_of_all : (Bool → Option ℕ → Option (Option ℕ)) → List (Option (Option ℕ))
values_of_all f = flat_map (λ fine. map (λ left. f fine left) (None ∷ Some made_value ∷ [])) both

-- what is told of a turn at each phase, in each setting
abbrev pub turns_of_all : (Setting → ℕ → Turning) → List Turning
turns_of_all f = flat_map (λ s. map (λ p. f s p) phases_met) settings

-- so do the turns of this kind, and its finalizers
pub record TurnsFollow (q : Kind) : Type 0 where
  pub turns : turns_of_all (λ s p. turn_by_rules q s 4 p) ≡ turns_of_all (λ s p. turn_by_table 4 p)
  pub values : values_of_all (value_by_rules q) ≡ values_of_all (value_by_table q)
