-- The exit: which cells are registered for it and left of its round, which party owns it, and which turns ended.
use Rattle.std.specs.Prelude.{ℕ, Bool, true, false, List, [], ◌∷◌, ◌++◌, ◌≢◌, All, length, if◌then◌else◌}
use Rattle.std.specs.declared.option.Option.{Option}
use Rattle.std.specs.declared.option.Option.TheVariants.{None, Some}
use Rattle.exit_registry.specs.declared.turns.Turn.{Turn}
use Rattle.exit_registry.specs.declared.turns.Turn.TheVariants as turn
use Rattle.exit_registry.specs.declared.turns.Turned.{Turned}
use Rattle.exit_registry.specs.Registry.{Registry, new_registry, after_register, looked, after_turn}
use Rattle.schedule_rules.specs.declared.step.Act.{Act}
use Rattle.schedule_rules.specs.declared.step.Act.TheVariants as act
use Rattle.schedule_rules.specs.declared.step.Want.TheVariants.{Calls, Turns}
use Rattle.schedule_rules.specs.declared.plan.CellPlan.{CellPlan}
use Rattle.schedule_rules.specs.Kinds.{cell_at}
use Rattle.schedule_rules.specs.Phases.{tries_registration}
use Rattle.schedule_rules.specs.Deeds.{Finishes, Deed, Opens, Ends, Skips, Takes, Looks, is_of_exit}
use Rattle.schedule_rules.specs.History.{Event, deed_of}
use Rattle.schedule_rules.specs.Sections.{Section, innermost, sections}
use Rattle.schedule_rules.specs.Replay.{phase_at}

-- ---- who owns the exit

-- the first step of the exit names the owner
abbrev pub owner_by : ℕ → Bool → Option ℕ → Option ℕ
owner_by p false o = o
owner_by p true (Some q) = Some q
owner_by p true None = Some p

-- the party that owns the exit: that of the first Exit that was not refused
abbrev pub owner : List Event → Option ℕ
owner [] = None
owner (e ∷ h) = owner_by e.step.party (is_of_exit (deed_of h e.step e.line.answer)) (owner h)

-- ---- the turns that ended

-- the act that ends a finalizer, which succeeded or failed, and left a value or none
abbrev pub finishing : Bool → Option ℕ → Act
finishing true left = act.Finished left
finishing false left = act.FinishFailed left

-- the turn of the section that ends. None does not occur: without a section an outcome is refused
abbrev pub turn_of_section : Turn → Option Section → List Turned → List Turned
turn_of_section t None ts = ts
turn_of_section t (Some s) ts = ts ++ record { cell = s.cell; turn = t } ∷ []

-- how the turn of a finalizer ended
abbrev pub turn_of : Bool → Turn
turn_of true = turn.Done
turn_of false = turn.Failed

-- the turns that ended after this deed of the party, where these sections ran
abbrev pub turns_by : ℕ → Deed → List Section → List Turned → List Turned
turns_by p (Skips c taken) ss ts = ts ++ record { cell = c; turn = turn.Skipped } ∷ []
turns_by p (Ends (Finishes fine left)) ss ts = turn_of_section (turn_of fine) (innermost p ss) ts
turns_by p _ ss ts = ts

-- the turns that ended, in order
abbrev pub ended_turns : List Event → List Turned
ended_turns [] = []
ended_turns (e ∷ h) = turns_by e.step.party (deed_of h e.step e.line.answer) (sections h) (ended_turns h)

-- no turn is Busy, which an object that is held answers: a schedule's turn waits for its cell
abbrev pub NoneBusy : List Turned → Type 0
NoneBusy ts = All (λ t. t.turn ≢ turn.Busy) ts

-- ---- registration and rounds

-- where a turn is taken, it is that of the first cell left
abbrev pub registry_taken : Bool → Registry → Registry
registry_taken true r = after_turn r
registry_taken false r = r

module _ (cells : List CellPlan) where
  -- a run of the cell at this phase registers it, where registration is tried
  abbrev pub registry_of_run : ℕ → ℕ → Registry → Registry
  registry_of_run c p r = if tries_registration (cell_at cells c).kind p then after_register c r else r

  -- the registry after this deed: a run registers its cell, a look takes the cells registered since the last one, and
  -- every other step of the exit takes the first cell left. A registration that is refused changes nothing
  abbrev pub registry_by : List Event → Deed → Registry → Registry
  registry_by h (Opens c (Calls k) taken) m = registry_of_run c (phase_at cells c h) m
  registry_by h (Opens c Turns taken) m = registry_taken taken m
  registry_by h (Skips c taken) m = registry_taken taken m
  registry_by h Takes m = after_turn m
  registry_by h (Looks closes) m = looked m
  registry_by h _ m = m

  -- the registry: the cells registered since the last look and those left of it, each in the order of their turns, which
  -- cells were ever registered, and whether it is open
  abbrev pub registry : List Event → Registry
  registry [] = new_registry (length cells)
  registry (e ∷ h) = registry_by h (deed_of h e.step e.line.answer) (registry h)
