-- What a cell without locks holds, and what the sections given back do to it.
use Rattle.std.specs.Prelude.{ℕ, Bool, not, List, [], ◌∷◌, ◌&&◌, if◌then◌else◌}
use Rattle.std.specs.declared.option.Option.{Option}
use Rattle.std.specs.declared.option.Option.TheVariants.{None, Some}
use Rattle.phase_seq.specs.declared.tolerance.Tolerance.{Tolerance}
use Rattle.lazy_cells.specs.declared.call.Call.{Call}
use Rattle.lazy_cells.specs.declared.call.Call.TheVariants as call
use Rattle.lazy_cells.specs.declared.kind.Kind.{Kind}
use Rattle.schedule_rules.specs.declared.plan.CellPlan.{CellPlan}
use Rattle.schedule_rules.specs.declared.step.Want.TheVariants.{Calls}
use Rattle.lazy_cells.specs.Kinds.{is_primed}
use Rattle.schedule_rules.specs.Kinds.{tolerance_of}
use Rattle.schedule_rules.specs.Phases.{Success, Failure, NoRun, runs_generator, phase_reached, phase_finalized, value_finalized}
use Rattle.schedule_rules.specs.Calls.{asks}

-- a phase and a value
pub record Content : Type 0 where
  pub phase : ℕ
  pub value : Option ℕ

-- what a cell holds before its first section: a primed kind has a value from the start
abbrev pub opening_content : CellPlan → Content
opening_content x = record { phase = 0; value = if is_primed x.kind then Some x.prime else None }

-- what happens in a section. Of a run it is told whether the registry was open when it was asked
pub data Change : Type 0 where
  Ran : (is_open : Bool) (made : Option ℕ) → Change  -- its generator ended, with a value or failing
  Asked : (is_open : Bool) (k : Call) → Change  -- its call was admitted, and left nothing open
  Put : (value : ℕ) → Change  -- a value was set
  RanIfAsked : (is_open : Bool) (made : Option ℕ) → Change  -- its value is to be lent: where a run was asked, its generator ended so
  Ended : (fine : Bool) (left : Option ℕ) → Change  -- its finalizer ended, and left a value or none

-- a successful run sets the value, a failed one leaves it
abbrev pub content_of_run : Kind → Bool → Option ℕ → Content → Content
content_of_run q is_open (Some v) y = record { phase = phase_reached q is_open y.phase Success; value = Some v }
content_of_run q is_open None y = record { phase = phase_reached q is_open y.phase Failure; value = y.value }

-- a run is asked and no generator runs: its cell is not registered
abbrev pub is_declined : Kind → Tolerance → Call → Bool → ℕ → Bool
is_declined q t k is_open p = asks q t (Calls k) p && not (runs_generator q t is_open p)

-- a call that was admitted and left nothing open changes the phase where it was declined
abbrev pub content_asked : Kind → Tolerance → Bool → Call → Content → Content
content_asked q t is_open k y =
    if is_declined q t k is_open y.phase then record { phase = phase_reached q is_open y.phase NoRun; value = y.value } else y

-- a run is asked of a cell whose value is to be lent, as a call to initialize it asks
abbrev pub asks_to_lend : Kind → Tolerance → ℕ → Bool
asks_to_lend q t p = asks q t (Calls call.Init) p

-- where a run is asked, the generator ends so
abbrev pub content_to_lend : Kind → Tolerance → Bool → Option ℕ → Content → Content
content_to_lend q t is_open made y = if asks_to_lend q t y.phase then content_of_run q is_open made y else y

-- what one change makes of a content
abbrev pub content_after : CellPlan → Change → Content → Content
content_after x (Ran is_open made) y = content_of_run x.kind is_open made y
content_after x (Asked is_open k) y = content_asked x.kind (tolerance_of x) is_open k y
content_after x (Put v) y = record { phase = y.phase; value = Some v }
content_after x (RanIfAsked is_open made) y = content_to_lend x.kind (tolerance_of x) is_open made y
content_after x (Ended fine left) y = record { phase = phase_finalized y.phase fine; value = value_finalized x.kind left y.value }

-- the effect of changes, the latest of which stands first
abbrev pub effect : CellPlan → List Change → Content → Content
effect x [] y = y
effect x (ch ∷ chs) y = content_after x ch (effect x chs y)
