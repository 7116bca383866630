-- What a step gives back, and whether it may give a share to parked calls.
use Rattle.std.specs.Prelude.{Bool, true, false, not, ℕ, List, ◌∷◌, ◌==◌, ◌&&◌, ◌||◌}
use Rattle.std.specs.List.{list_any}
use Rattle.std.specs.declared.option.Option.{Option}
use Rattle.std.specs.declared.option.Option.TheVariants.{None, Some}
use Rattle.phase_locker.specs.declared.ways.Given.{Given}
use Rattle.phase_locker.specs.declared.ways.Given.TheVariants as given
use Rattle.schedule_rules.specs.declared.step.Act.{Act}
use Rattle.schedule_rules.specs.declared.step.Act.TheVariants as act
use Rattle.schedule_rules.specs.declared.line.Answer.{Answer}
use Rattle.schedule_rules.specs.declared.line.Answer.TheVariants as answer
use Rattle.schedule_rules.specs.declared.step.Step.{Step}
use Rattle.schedule_rules.specs.declared.plan.CellPlan.{CellPlan}
use Rattle.schedule_rules.specs.declared.step.Want.{Want}
use Rattle.schedule_rules.specs.declared.step.Want.TheVariants.{Calls, Turns}
use Rattle.lazy_cells.specs.declared.kind.Kind.{Kind}
use Rattle.schedule_rules.specs.Kinds.{cell_at, tolerance_at, is_parking}
use Rattle.schedule_rules.specs.Forms.{form_of, is_to_read}
use Rattle.schedule_rules.specs.Calls.{lock_wanted}
use Rattle.schedule_rules.specs.History.{Event}
use Rattle.schedule_rules.specs.Replay.{phase_at}
use Rattle.schedule_rules.specs.Waits.{Attempt, attempt, Wait, wait_of, parks_to_read, parks_to_write, cell_concerned, waits, other_waits}
use Rattle.schedule_rules.specs.Holds.{has_own, is_free, is_free_with, wants_to_write}
use Rattle.schedule_rules.specs.Due.{keeps_own}

-- a guard to read that a section was downgraded to
abbrev pub turns_to_read : Act → Bool
turns_to_read (act.Made v) = true
turns_to_read (act.Downgrade g) = true
turns_to_read _ = false

-- the call answers with a guard to read
abbrev pub asks_to_read : Kind → Want → Bool
asks_to_read q (Calls k) = is_to_read (form_of q k)
asks_to_read q Turns = false

-- the calls that a gift is for are parked on the cell
abbrev pub reaches : ℕ → Given → List Wait → Bool
reaches c given.Nobody ws = true
reaches c (given.Writer q) ws = list_any (λ w. (w.party == q) && parks_to_write c w) ws
reaches c given.Readers ws = list_any (parks_to_read c) ws

-- nobody is given a share
abbrev pub is_nobody : Given → Bool
is_nobody given.Nobody = true
is_nobody _ = false

-- the parked readers are given shares
abbrev pub is_readers : Given → Bool
is_readers given.Readers = true
is_readers _ = false

module _ (cells : List CellPlan) where
  -- the attempt wants the lock to write
  abbrev pub wants_section : List Event → Attempt → Bool
  wants_section h a =
      wants_to_write (lock_wanted (cell_at cells a.cell).kind (tolerance_at cells a.cell) a.want (phase_at cells a.cell h))

  -- the attempt wants the lock to write, and nothing is left open: where it is for a guard to read, its section was
  -- downgraded, and then the read lock given back
  abbrev pub turns_back : List Event → Option Attempt → Bool
  turns_back h None = false
  turns_back h (Some a) = asks_to_read (cell_at cells a.cell).kind a.want && wants_section h a

  -- the attempt wants the lock to write, and its section is downgraded to a guard
  abbrev pub falls_back : List Event → Option Attempt → Bool
  falls_back h None = false
  falls_back h (Some a) = wants_section h a

  -- the step with this answer downgrades a section
  abbrev pub downgrades : List Event → Step → Answer → Bool
  downgrades h s answer.ReadGuard = turns_to_read s.act
  downgrades h s answer.ErrGuard = falls_back h (attempt cells h s)
  downgrades h s (answer.Access p) = turns_back h (attempt cells h s)
  downgrades h s _ = false

  -- the call that goes on has a share or a drain, and does not keep it
  abbrev pub is_taken_away : List Event → ℕ → Attempt → Bool
  is_taken_away h p a = has_own (wait_of p (waits cells h)) && not (keeps_own cells h p a)

  -- its share or drain is taken away, and no hold, share or drain of its cell is left
  abbrev pub is_freed_first : List Event → Step → Attempt → Bool
  is_freed_first h s a =
      is_parking (cell_at cells a.cell).place && (is_taken_away h s.party a && is_free_with a.cell h (other_waits cells h s))

  -- after the step with this answer no hold, share or drain of the cell is left
  abbrev pub is_freed_last : List Event → Step → Answer → ℕ → Bool
  is_freed_last h s a c = is_free cells c (record { step = s; line = record { answer = a; given = given.Nobody } } ∷ h)

  -- a gift for the share or drain that is taken away, before the rule is judged
  abbrev pub may_give_first : List Event → Step → Option Attempt → Given → Bool
  may_give_first h s None g = false
  may_give_first h s (Some a) g = is_freed_first h s a && reaches a.cell g (other_waits cells h s)

  -- a gift for what the step gave back on this cell: where no hold, share or drain is left, or to readers by a downgrade
  abbrev pub may_give_on : List Event → Step → Option ℕ → Answer → Given → Bool
  may_give_on h s None a g = false
  may_give_on h s (Some c) a g =
      is_parking (cell_at cells c).place
      && (reaches c g (other_waits cells h s) && ((is_readers g && downgrades h s a) || is_freed_last h s a c))

  -- the same, on the cell that the step concerns
  abbrev pub may_give_last : List Event → Step → Answer → Given → Bool
  may_give_last h s a given.Nobody = true
  may_give_last h s a g = may_give_on h s (cell_concerned cells h s) a g
