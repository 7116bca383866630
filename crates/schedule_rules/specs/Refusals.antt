-- The reasons to refuse a step: small tables by what is known of the step, and the first reason that holds.
use Rattle.std.specs.Prelude.{ℕ, Bool, true, false, not, List, ◌==◌, ◌&&◌, ◌||◌, is_some}
use Rattle.std.specs.declared.option.Option.{Option}
use Rattle.std.specs.declared.option.Option.TheVariants.{None, Some}
use Rattle.schedule_rules.specs.declared.step.Act.{Act}
use Rattle.schedule_rules.specs.declared.step.Act.TheVariants as act
use Rattle.schedule_rules.specs.declared.line.Refusal.{Refusal}
use Rattle.schedule_rules.specs.declared.line.Refusal.TheVariants as refused
use Rattle.schedule_rules.specs.declared.step.Step.{Step}
use Rattle.schedule_rules.specs.declared.plan.CellPlan.{CellPlan}
use Rattle.lazy_cells.specs.Calls.{has_call}
use Rattle.lazy_cells.specs.Kinds.{lends_value}
use Rattle.schedule_rules.specs.Kinds.{cell_at, is_of_other}
use Rattle.schedule_rules.specs.Phases.{finishes_so}
use Rattle.schedule_rules.specs.History.{Event, is_closed}
use Rattle.schedule_rules.specs.Sections.{Section, innermost, is_turn, sections}
use Rattle.schedule_rules.specs.Guards.{Guard, guard_of, guards}
use Rattle.schedule_rules.specs.Exits.{owner}
use Rattle.schedule_rules.specs.Waits.{wait_of, waits}
use Rattle.schedule_rules.specs.Holds.{is_in_use}

-- a party that waits may only go on
abbrev pub refusal_waiting : Act → Option Refusal
refusal_waiting act.Again = None
refusal_waiting _ = Some refused.Waits

-- whether the guard that is named writes, where it is open and the party's own
abbrev pub writes_of : Option Guard → Option Bool
writes_of None = None
writes_of (Some x) = Some x.writes

-- the cell is the party's own or nobody's, and its kind has the call
abbrev pub no_call : Bool → Bool → Option Refusal
no_call true has = Some refused.NotOwner
no_call false false = Some refused.NoSuchCall
no_call false true = None

-- the cell is as a call needs it, and is not in use
abbrev pub no_lending : Option Refusal → Bool → Option Refusal
no_lending (Some r) used = Some r
no_lending None true = Some refused.InUse
no_lending None false = None

-- a guard is needed
abbrev pub no_guard : Option Bool → Option Refusal
no_guard None = Some refused.NoGuard
no_guard (Some w) = None

-- a write guard is needed
abbrev pub no_writer : Option Bool → Option Refusal
no_writer None = Some refused.NoGuard
no_writer (Some false) = Some refused.NotWriter
no_writer (Some true) = None

-- a read guard is needed
abbrev pub no_reader : Option Bool → Option Refusal
no_reader None = Some refused.NoGuard
no_reader (Some false) = None
no_reader (Some true) = Some refused.NoGuard

-- a section is needed that ends so, where it is known of it whether it does
abbrev pub no_outcome : Option Bool → Option Refusal
no_outcome None = Some refused.NoSection
no_outcome (Some false) = Some refused.NoOutcome
no_outcome (Some true) = None

-- whether the outcome of a generator ends the section
abbrev pub ends_run : Option Section → Option Bool
ends_run None = None
ends_run (Some s) = Some (not (is_turn s.want))

-- the owner is another party
abbrev pub is_other : Option ℕ → ℕ → Bool
is_other None p = false
is_other (Some q) p = not (q == p)

-- the exit is another party's or has ended, and else the party may run no section
abbrev pub no_exit : Bool → Bool → Option Refusal
no_exit true inside = Some refused.ExitBegun
no_exit false true = Some refused.Inside
no_exit false false = None

module _ (cells : List CellPlan) where
  -- whether this outcome of a finalizer ends the section
  abbrev pub ends_turn : Bool → Option ℕ → Option Section → Option Bool
  ends_turn fine left None = None
  ends_turn fine left (Some s) = Some (is_turn s.want && finishes_so (cell_at cells s.cell).kind fine left)

  -- the cell is the party's own or nobody's, its kind lends its value, and it is not in use
  abbrev pub refusal_to_lend : List Event → ℕ → ℕ → Option Refusal
  refusal_to_lend h p c =
      no_lending (no_call (is_of_other (cell_at cells c).place p) (lends_value (cell_at cells c).kind)) (is_in_use cells c h)

  -- the reason to refuse the act of a party that does not wait
  abbrev pub refusal_free : List Event → ℕ → Act → Option Refusal
  refusal_free h p (act.Call c k) = no_call (is_of_other (cell_at cells c).place p) (has_call (cell_at cells c).kind k)
  refusal_free h p act.Again = Some refused.NotWaiting
  refusal_free h p (act.Made v) = no_outcome (ends_run (innermost p (sections h)))
  refusal_free h p act.MadeFailed = no_outcome (ends_run (innermost p (sections h)))
  refusal_free h p (act.Finished left) = no_outcome (ends_turn true left (innermost p (sections h)))
  refusal_free h p (act.FinishFailed left) = no_outcome (ends_turn false left (innermost p (sections h)))
  refusal_free h p (act.Look g) = no_guard (writes_of (guard_of g p (guards h)))
  refusal_free h p (act.Set g v) = no_writer (writes_of (guard_of g p (guards h)))
  refusal_free h p (act.Release g) = no_guard (writes_of (guard_of g p (guards h)))
  refusal_free h p (act.Downgrade g) = no_writer (writes_of (guard_of g p (guards h)))
  refusal_free h p (act.Clone g) = no_reader (writes_of (guard_of g p (guards h)))
  refusal_free h p (act.GetMut c made left) = refusal_to_lend h p c
  refusal_free h p (act.TryGetMut c left) = refusal_to_lend h p c
  refusal_free h p act.Exit = no_exit (is_other (owner h) p || is_closed h) (is_some (innermost p (sections h)))

  -- the reason to refuse the act, by whether the party waits
  abbrev pub refusal_by : Bool → List Event → ℕ → Act → Option Refusal
  refusal_by true h p a = refusal_waiting a
  refusal_by false h p a = refusal_free h p a

  -- the first reason to refuse the step
  abbrev pub refusal : List Event → Step → Option Refusal
  refusal h s = refusal_by (is_some (wait_of s.party (waits cells h))) h s.party s.act
