-- Which answers a step gets, by their causes.
use Rattle.std.specs.Prelude.{ℕ, Bool, true, false, not, List, ◌==◌, ◌&&◌, ◌||◌, length, is_none, if◌then◌else◌}
use Rattle.std.specs.declared.option.Option.{Option}
use Rattle.std.specs.declared.option.Option.TheVariants.{None, Some}
use Rattle.exit_registry.specs.Registry.{is_empty, first_of}
use Rattle.phase_bits.specs.Flags.{has, initialized}
use Rattle.phase_locker.specs.declared.tickets.LockNature.{LockNature}
use Rattle.phase_locker.specs.declared.tickets.LockNature.TheVariants as nature
use Rattle.phase_locker.specs.declared.ways.Given.{Given}
use Rattle.schedule_rules.specs.declared.plan.CellPlan.{CellPlan}
use Rattle.schedule_rules.specs.declared.step.Act.{Act}
use Rattle.schedule_rules.specs.declared.step.Act.TheVariants as act
use Rattle.schedule_rules.specs.declared.step.Step.{Step}
use Rattle.schedule_rules.specs.declared.line.Answer.{Answer}
use Rattle.schedule_rules.specs.declared.line.Answer.TheVariants as answer
use Rattle.schedule_rules.specs.declared.line.Refusal.TheVariants as refused
use Rattle.schedule_rules.specs.Kinds.{cell_at, tolerance_at, is_owned, is_of_other}
use Rattle.schedule_rules.specs.Phases.{is_accessible, runs_generator}
use Rattle.phase_seq.specs.Phases.{flags_refused}
use Rattle.lazy_cells.specs.declared.kind.Kind.{Kind}
use Rattle.lazy_cells.specs.Kinds.{lends_value}
use Rattle.schedule_rules.specs.declared.step.Want.{Want}
use Rattle.schedule_rules.specs.declared.step.Want.TheVariants.{Calls, Turns}
use Rattle.schedule_rules.specs.Forms.{form_of, denies}
use Rattle.schedule_rules.specs.Calls.{lock_wanted, asks, initializes, is_fast}
use Rattle.schedule_rules.specs.Changes.{asks_to_lend}
use Rattle.schedule_rules.specs.History.{Event, is_exit, accepts}
use Rattle.schedule_rules.specs.Sections.{is_turn, runs}
use Rattle.schedule_rules.specs.Guards.{Guard, numbered, guards}
use Rattle.schedule_rules.specs.Replay.{phase_at}
use Rattle.schedule_rules.specs.Exits.{registry}
use Rattle.schedule_rules.specs.Waits.{Attempt, attempt, Wait, wait_of, waits, waits_given, other_waits}
use Rattle.schedule_rules.specs.Holds.{holding_with, is_barred, is_in_use}
use Rattle.schedule_rules.specs.Refusals.{refusal}
use Rattle.schedule_rules.specs.Due.{keeps_own}
use Rattle.schedule_rules.specs.Legal.{Moment, First, Last}

-- ---- which answer it is

-- a call waits
abbrev pub is_waiting : Answer → Bool
is_waiting (answer.Waiting way) = true
is_waiting _ = false

-- a clone is barred, or a call on a cell of the party's own
abbrev pub is_borrowed : Answer → Bool
is_borrowed answer.Borrowed = true
is_borrowed _ = false

-- a fast call is barred
abbrev pub is_missed : Answer → Bool
is_missed answer.Missed = true
is_missed _ = false

-- a generator failed
abbrev pub is_failed : Answer → Bool
is_failed answer.Failed = true
is_failed _ = false

-- a generator begins to run
abbrev pub is_running : Answer → Bool
is_running answer.Running = true
is_running _ = false

-- the value may not be accessed
abbrev pub is_access : Answer → Bool
is_access (answer.Access p) = true
is_access _ = false

-- the step is refused, since the cell whose value it is to lend is in use
abbrev pub is_refused_in_use : Answer → Bool
is_refused_in_use (answer.Refused refused.InUse) = true
is_refused_in_use _ = false

-- the call is turned back as cyclic
abbrev pub is_cyclic : Answer → Bool
is_cyclic answer.Cyclic = true
is_cyclic _ = false

-- a finalizer of this cell begins to run
abbrev pub is_finalizing : ℕ → Answer → Bool
is_finalizing c (answer.Finalizing d) = d == c
is_finalizing c _ = false

-- the turn of this cell is skipped
abbrev pub is_skipped : ℕ → Answer → Bool
is_skipped c (answer.Skipped d) = d == c
is_skipped c _ = false

-- a look took so many cells
abbrev pub is_round : ℕ → Answer → Bool
is_round n (answer.Round m) = m == n
is_round n _ = false

-- a look found no cell
abbrev pub is_closing : Answer → Bool
is_closing answer.Closed = true
is_closing _ = false

-- the act is to lend the value of the cell
abbrev pub lends_at : ℕ → Act → Bool
lends_at c (act.GetMut d made left) = d == c
lends_at c (act.TryGetMut d left) = d == c
lends_at c _ = false

-- ---- what is attempted

-- something is attempted, and it passes this test
abbrev pub is_attempted : (Attempt → Bool) → Option Attempt → Bool
is_attempted t None = false
is_attempted t (Some a) = t a

-- a call that is told where the value may not be accessed. A turn is not
abbrev pub want_denies : Kind → Want → Bool
want_denies q (Calls k) = denies (form_of q k)
want_denies q Turns = false

module _ (cells : List CellPlan) where
  -- the calls of others that wait when the rule of the step is judged: after a gift of the first moment
  abbrev pub waits_judged : Moment → List Event → Step → Given → List Wait
  waits_judged First h s g = waits_given cells h s g (other_waits cells h s)
  waits_judged Last h s g = other_waits cells h s

  -- the act is to lend the value of a cell that asks for a run, and runs its generator
  abbrev pub runs_to_lend : List Event → Act → Bool
  runs_to_lend h (act.GetMut c made left) = asks_to_lend (cell_at cells c).kind (tolerance_at cells c) (phase_at cells c h)
  runs_to_lend h _ = false

  -- the act ends a generator by a failure
  abbrev pub is_failure : List Event → Act → Bool
  is_failure h act.MadeFailed = true
  is_failure h (act.GetMut c made left) = runs_to_lend h (act.GetMut c made left) && is_none made
  is_failure h _ = false

  -- the act is to lend the value of the cell as it is, which may not be accessed
  abbrev pub is_denied_to_lend : List Event → Act → Bool
  is_denied_to_lend h (act.GetMut c made left) =
      not (runs_to_lend h (act.GetMut c made left)) && not (is_accessible (cell_at cells c).kind (phase_at cells c h))
  is_denied_to_lend h (act.TryGetMut c left) = not (is_accessible (cell_at cells c).kind (phase_at cells c h))
  is_denied_to_lend h _ = false

  -- the cell is the party's own or nobody's, its kind lends its value, and it is in use
  abbrev pub is_used_where_lent : List Event → ℕ → ℕ → Bool
  is_used_where_lent h p c =
      not (is_of_other (cell_at cells c).place p) && (lends_value (cell_at cells c).kind && is_in_use cells c h)

  -- the act is to lend the value of such a cell
  abbrev pub lends_in_use : List Event → ℕ → Act → Bool
  lends_in_use h p (act.GetMut c made left) = is_used_where_lent h p c
  lends_in_use h p (act.TryGetMut c left) = is_used_where_lent h p c
  lends_in_use h p _ = false

  -- the party does not wait, and its act is to lend the value of such a cell
  abbrev pub is_step_in_use : List Event → Step → Bool
  is_step_in_use h s = is_none (wait_of s.party (waits cells h)) && lends_in_use h s.party s.act

  -- the step is not refused, and what it attempts passes this test
  abbrev pub is_step_of : (Attempt → Bool) → List Event → Step → Bool
  is_step_of t h s = is_none (refusal cells h s) && is_attempted t (attempt cells h s)

  module _ (h : List Event) (p : ℕ) where
    -- the phase of the cell
    abbrev pub phase_met : Attempt → ℕ
    phase_met a = phase_at cells a.cell h

    -- it asks for a run of the generator that its own party runs
    abbrev pub is_of_own_run : Attempt → Bool
    is_of_own_run a = initializes (cell_at cells a.cell).kind a.want && runs p a.cell h

    -- a run is asked
    abbrev pub asks_run : Attempt → Bool
    asks_run a = asks (cell_at cells a.cell).kind (tolerance_at cells a.cell) a.want (phase_met a)

    -- a run that is asked runs the generator
    abbrev pub generates : Attempt → Bool
    generates a = runs_generator (cell_at cells a.cell).kind (tolerance_at cells a.cell) (accepts h) (phase_met a)

    -- the lock that it wants
    abbrev pub lock_met : Attempt → LockNature
    lock_met a = lock_wanted (cell_at cells a.cell).kind (tolerance_at cells a.cell) a.want (phase_met a)

    -- the phase of the cell after a call that runs nothing: where it asks for a run, it is declined
    abbrev pub phase_left : Attempt → ℕ
    phase_left a = if asks_run a then flags_refused else phase_met a

    -- a call that is told where the value may not be accessed, and it may not
    abbrev pub is_kept_out : Attempt → Bool
    is_kept_out a =
        want_denies (cell_at cells a.cell).kind a.want && not (is_accessible (cell_at cells a.cell).kind (phase_left a))

    -- ---- where these calls of others wait
    module _ (ws : List Wait) where
      -- it is not cyclic, keeps no share and no drain, and what stands on the cell bars the lock that it wants
      abbrev pub is_barred_attempt : Attempt → Bool
      is_barred_attempt a =
          not (is_of_own_run a)
          && (not (keeps_own cells h p a) && is_barred (lock_met a) (holding_with a.cell h ws))

      -- it is neither cyclic nor barred
      abbrev pub is_admitted : Attempt → Bool
      is_admitted a = not (is_of_own_run a) && not (is_barred_attempt a)

      -- it is admitted, and asks for a run that runs the generator
      abbrev pub is_run : Attempt → Bool
      is_run a = is_admitted a && (asks_run a && generates a)

      -- it is admitted, runs nothing and is kept out
      abbrev pub is_turned_away : Attempt → Bool
      is_turned_away a = is_admitted a && (not (asks_run a && generates a) && is_kept_out a)

      -- it is barred, and waits: it is not fast, and its cell is not the party's own
      abbrev pub is_made_to_wait : Attempt → Bool
      is_made_to_wait a = is_barred_attempt a && (not (is_fast a.want) && not (is_owned (cell_at cells a.cell).place))

      -- it is barred, and fast
      abbrev pub is_made_to_miss : Attempt → Bool
      is_made_to_miss a = is_barred_attempt a && is_fast a.want

      -- it is barred, and not fast, at a cell of the party's own
      abbrev pub is_made_to_borrow : Attempt → Bool
      is_made_to_borrow a = is_barred_attempt a && (not (is_fast a.want) && is_owned (cell_at cells a.cell).place)

      -- it is admitted, and is the turn of this cell, whose value is there, or is not
      abbrev pub is_turn_where : ℕ → Bool → Attempt → Bool
      is_turn_where c ready a =
          is_admitted a && (is_turn a.want && ((a.cell == c) && (if ready then has (phase_met a) initialized else not (has (phase_met a) initialized))))

  -- ---- of a step whose line gives this at this moment

  -- its call or its turn waits
  abbrev pub is_barred_step : List Event → Step → Given → Moment → Bool
  is_barred_step h s g m = is_step_of (is_made_to_wait h s.party (waits_judged m h s g)) h s

  -- its call is fast, and barred
  abbrev pub is_missing_step : List Event → Step → Given → Moment → Bool
  is_missing_step h s g m = is_step_of (is_made_to_miss h s.party (waits_judged m h s g)) h s

  -- its call begins a run
  abbrev pub is_running_step : List Event → Step → Given → Moment → Bool
  is_running_step h s g m = is_step_of (is_run h s.party (waits_judged m h s g)) h s

  -- its call may not access the value, or it is not refused, and may not access the value that it is to lend
  abbrev pub is_access_step : List Event → Step → Given → Moment → Bool
  is_access_step h s g m =
      is_step_of (is_turned_away h s.party (waits_judged m h s g)) h s || (is_none (refusal cells h s) && is_denied_to_lend h s.act)

  -- it is the turn of this cell, whose value is there, or is not
  abbrev pub is_turn_step : ℕ → Bool → List Event → Step → Given → Moment → Bool
  is_turn_step c ready h s g m = is_step_of (is_turn_where h s.party (waits_judged m h s g) c ready) h s

  -- its call is cyclic
  abbrev pub is_cyclic_step : List Event → Step → Bool
  is_cyclic_step h s = is_step_of (is_of_own_run h s.party) h s

  -- it is an Exit that is not refused, and no cell is left of the round
  abbrev pub looks : List Event → Step → Bool
  looks h s = is_none (refusal cells h s) && (is_exit s.act && is_none (first_of (registry cells h).left))

  -- it looks, and so many cells were registered since the last look
  abbrev pub is_round_step : ℕ → List Event → Step → Bool
  is_round_step n h s = looks h s && (not (is_empty (registry cells h).pending) && (length (registry cells h).pending == n))

  -- it looks, and none was
  abbrev pub is_closing_step : List Event → Step → Bool
  is_closing_step h s = looks h s && is_empty (registry cells h).pending

  -- a read on the cell of the guard is barred, where these calls of others wait
  abbrev pub is_barred_beside : List Event → Option Guard → List Wait → Bool
  is_barred_beside h None ws = false
  is_barred_beside h (Some x) ws = is_barred nature.Read (holding_with x.cell h ws)

  -- the act is a clone, and a read beside its guard is barred
  abbrev pub is_barred_clone : List Event → Act → List Wait → Bool
  is_barred_clone h (act.Clone g) ws = is_barred_beside h (numbered g (guards h)) ws
  is_barred_clone h _ ws = false

  -- the step is not refused, and is a clone that is barred, or a call that is barred at a cell of the party's own
  abbrev pub is_borrowing_step : List Event → Step → Given → Moment → Bool
  is_borrowing_step h s g m =
      (is_none (refusal cells h s) && is_barred_clone h s.act (waits_judged m h s g))
      || is_step_of (is_made_to_borrow h s.party (waits_judged m h s g)) h s
