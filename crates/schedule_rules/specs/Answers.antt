-- The answers of calls and turns, by what they meet at the cell.
use Rattle.std.specs.Prelude.{ℕ, Bool, true, false, not, ◌&&◌, is_none, if◌then◌else◌}
use Rattle.std.specs.declared.option.Option.{Option}
use Rattle.std.specs.Option.{unwrap_or}
use Rattle.phase_bits.specs.Number.{phase_of}
use Rattle.phase_locker.specs.declared.tickets.LockNature.{LockNature}
use Rattle.phase_locker.specs.declared.tickets.LockNature.TheVariants as nature
use Rattle.phase_seq.specs.declared.tolerance.Tolerance.{Tolerance}
use Rattle.lazy_cells.specs.declared.call.Call.{Call}
use Rattle.lazy_cells.specs.declared.kind.Kind.{Kind}
use Rattle.schedule_rules.specs.declared.plan.CellPlan.{CellPlan}
use Rattle.schedule_rules.specs.declared.plan.Place.{Place}
use Rattle.schedule_rules.specs.declared.plan.Place.TheVariants as place
use Rattle.schedule_rules.specs.declared.line.Answer.{Answer}
use Rattle.schedule_rules.specs.declared.line.Answer.TheVariants as answer
use Rattle.phase_locker.specs.declared.ways.How.{How}
use Rattle.phase_locker.specs.declared.ways.How.TheVariants as how
use Rattle.schedule_rules.specs.declared.step.Want.{Want}
use Rattle.schedule_rules.specs.declared.step.Want.TheVariants.{Calls, Turns}
use Rattle.schedule_rules.specs.Kinds.{tolerance_of}
use Rattle.schedule_rules.specs.declared.form.Form.{Form}
use Rattle.schedule_rules.specs.declared.form.Form.TheVariants.{Told, Shown, Held}
use Rattle.schedule_rules.specs.Forms.{form_of}
use Rattle.schedule_rules.specs.Phases.{is_accessible, runs_generator}
use Rattle.schedule_rules.specs.Calls.{lock_wanted, asks, initializes, is_fast, wakes_as, way_of_nature}
use Rattle.schedule_rules.specs.Changes.{Content, content_asked, asks_to_lend, content_to_lend}
use Rattle.schedule_rules.specs.Holds.{Holding, is_barred, is_barred_by_readers}

-- the value. Every cell has one that answers by it, so that the 0 is never shown
abbrev pub answer_of_value : Content → Answer
answer_of_value y = answer.Value (unwrap_or y.value 0)

-- ---- by the form of the call

-- a guard
abbrev pub answer_of_guard : Bool → Answer
answer_of_guard writes = if writes then answer.WriteGuard else answer.ReadGuard

-- of what is admitted and runs nothing, where the value may be accessed
abbrev pub answer_opened : Form → Content → Answer
answer_opened (Told tests) y = answer.Phase (phase_of y.phase)
answer_opened Shown y = answer_of_value y
answer_opened (Held writes falls_back) y = answer_of_guard writes

-- the same, where it may not be accessed
abbrev pub answer_denied : Form → ℕ → Answer
answer_denied (Told tests) p = if tests then answer.Access (phase_of p) else answer.Phase (phase_of p)
answer_denied Shown p = answer.Access (phase_of p)
answer_denied (Held writes falls_back) p = if falls_back then answer.ErrGuard else answer.Access (phase_of p)

-- of what is admitted and runs nothing
abbrev pub answer_at : Form → Bool → Content → Answer
answer_at f accessible y = if accessible then answer_opened f y else answer_denied f y.phase

-- of a run that made this value, and reaches this phase
abbrev pub answer_made : Form → ℕ → ℕ → Answer
answer_made (Told tests) v p = answer.Phase (phase_of p)
answer_made Shown v p = answer.Value v
answer_made (Held writes falls_back) v p = answer_of_guard writes

-- ---- by what the cell is, and what it holds

-- the call asks for a run, and its generator runs
abbrev pub begins_run : Kind → Tolerance → Bool → Call → ℕ → Bool
begins_run q t is_open k p = asks q t (Calls k) p && runs_generator q t is_open p

-- of a call that is admitted, by whether the registry is open: it runs the generator, or it is answered by what the cell
-- holds then. That is what it held, unless a run was asked and is declined
abbrev pub call_answer_admitted : Kind → Tolerance → Bool → Call → Content → Answer
call_answer_admitted q t is_open k y =
    if begins_run q t is_open k y.phase then answer.Running
    else answer_at (form_of q k) (is_accessible q (content_asked q t is_open k y).phase) (content_asked q t is_open k y)

-- of a value that is lent, where it may be accessed: what is found
abbrev pub answer_lent : Kind → Content → Answer
answer_lent q y = answer_at Shown (is_accessible q y.phase) y

-- the same, of a cell whose generator ends so, where a run is asked
abbrev pub answer_made_to_lend : Kind → Tolerance → Bool → Option ℕ → Content → Answer
answer_made_to_lend q t is_open made y =
    if asks_to_lend q t y.phase && is_none made then answer.Failed else answer_lent q (content_to_lend q t is_open made y)

-- of the turn of the cell: it finalizes where it wants a lock, and else the cell is skipped
abbrev pub turn_answer_admitted : LockNature → ℕ → Answer
turn_answer_admitted nature.None c = answer.Skipped c
turn_answer_admitted nature.Read c = answer.Finalizing c
turn_answer_admitted nature.Write c = answer.Finalizing c

-- of an attempt that is not barred, by what the cell with this number holds and whether the registry is open
abbrev pub answer_admitted : Kind → Tolerance → ℕ → Bool → Want → Content → Answer
answer_admitted q t c is_open (Calls k) y = call_answer_admitted q t is_open k y
answer_admitted q t c is_open Turns y = turn_answer_admitted (lock_wanted q t Turns y.phase) c

-- of a run that made this value and reaches this phase, by what opened its section. A turn does not occur: a finalizer
-- makes no value
abbrev pub answer_of_made : Kind → Want → ℕ → ℕ → Answer
answer_of_made q (Calls k) v p = answer_made (form_of q k) v p
answer_of_made q Turns v p = answer.Failed

-- ---- of what is barred

-- a call that parks drains, or is woken as its nature says
abbrev pub way_parked : Kind → Want → Bool → How
way_parked q w true = how.Drain
way_parked q w false = way_of_nature (wakes_as q w)

-- a barred call waits at its place, and where it parks, this way. At a cell of its party's own it does not wait
abbrev pub answer_barred_at : Place → How → Answer
answer_barred_at place.Park way = answer.Waiting way
answer_barred_at place.Spin way = answer.Waiting how.Spin
answer_barred_at (place.Own p) way = answer.Borrowed

-- a fast call does not wait at any place
abbrev pub answer_barred : Bool → Place → How → Answer
answer_barred fast x way = if fast then answer.Missed else answer_barred_at x way

-- ---- of an attempt

-- what an attempt meets: the number of its cell, whether its own party runs the cell's generator, whether the call keeps
-- a share or a drain, what the cell holds, what stands on it against a lock, and whether the registry is open
pub record Meeting : Type 0 where
  pub cell : ℕ
  pub own_run : Bool
  pub kept : Bool
  pub content : Content
  pub holding : Holding
  pub is_open : Bool

-- it drains by choice, where readers alone bar it
abbrev pub drains_by : LockNature → Holding → Bool → Bool
drains_by n o chosen = chosen && is_barred_by_readers n o

-- the answer of an attempt. Whether it is cyclic is asked before any lock is tried
abbrev pub answer_of_attempt : CellPlan → Want → Meeting → Bool → Answer
answer_of_attempt x w m chosen =
    if initializes x.kind w && m.own_run then answer.Cyclic
    else if not m.kept && is_barred (lock_wanted x.kind (tolerance_of x) w m.content.phase) m.holding
    then answer_barred (is_fast w) x.place (way_parked x.kind w (drains_by (lock_wanted x.kind (tolerance_of x) w m.content.phase) m.holding chosen))
    else answer_admitted x.kind (tolerance_of x) m.cell m.is_open w m.content
