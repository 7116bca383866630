-- The calls that wait, how they wait, and the shares that parked calls were given.
use Rattle.std.specs.Prelude.{ℕ, Bool, true, false, not, List, [], ◌∷◌, ◌++◌, ◌==◌, ◌&&◌, map, if◌then◌else◌}
use Rattle.std.specs.List.{find, filter}
use Rattle.std.specs.declared.option.Option.{Option}
use Rattle.std.specs.declared.option.Option.TheVariants.{None, Some}
use Rattle.phase_locker.specs.declared.ways.How.{How}
use Rattle.phase_locker.specs.declared.ways.How.TheVariants as how
use Rattle.phase_locker.specs.declared.ways.Given.{Given}
use Rattle.phase_locker.specs.declared.ways.Given.TheVariants as given
use Rattle.schedule_rules.specs.declared.step.Act.{Act}
use Rattle.schedule_rules.specs.declared.step.Act.TheVariants as act
use Rattle.schedule_rules.specs.declared.line.Answer.{Answer}
use Rattle.schedule_rules.specs.declared.line.Answer.TheVariants as answer
use Rattle.schedule_rules.specs.declared.line.Line.{Line}
use Rattle.schedule_rules.specs.declared.step.Step.{Step}
use Rattle.schedule_rules.specs.declared.plan.CellPlan.{CellPlan}
use Rattle.exit_registry.specs.Registry.{first_of}
use Rattle.schedule_rules.specs.declared.step.Want.{Want}
use Rattle.schedule_rules.specs.declared.step.Want.TheVariants.{Calls, Turns}
use Rattle.schedule_rules.specs.History.{Event}
use Rattle.schedule_rules.specs.Sections.{Section, innermost, sections}
use Rattle.schedule_rules.specs.Guards.{Guard, numbered, guards}
use Rattle.schedule_rules.specs.Exits.{registry}

-- a call that waits
pub record Wait : Type 0 where
  pub party : ℕ
  pub cell : ℕ
  pub want : Want
  pub way : How
  pub woken : Bool  -- it was parked, and a share was given to it since

-- the party's call that waits
abbrev pub wait_of : ℕ → List Wait → Option Wait
wait_of p ws = find (λ w. w.party == p) ws

-- the waits of all but this party
abbrev pub without_wait : ℕ → List Wait → List Wait
without_wait p ws = filter (λ w. not (w.party == p)) ws

-- an attempt at a cell
pub record Attempt : Type 0 where
  pub cell : ℕ
  pub want : Want

-- a waiting call is attempted again
abbrev pub attempt_of_wait : Option Wait → Option Attempt
attempt_of_wait None = None
attempt_of_wait (Some w) = Some (record { cell = w.cell; want = w.want })

-- the act that attempts this at the cell
abbrev pub act_for : ℕ → Want → Act
act_for c (Calls k) = act.Call c k
act_for c Turns = act.Exit

-- the turn of a cell is attempted
abbrev pub attempt_of_turn : Option ℕ → Option Attempt
attempt_of_turn None = None
attempt_of_turn (Some c) = Some (record { cell = c; want = Turns })

-- one wait more, for what was attempted
abbrev pub with_wait : ℕ → How → Option Attempt → List Wait → List Wait
with_wait p way None ws = ws
with_wait p way (Some a) ws = record { party = p; cell = a.cell; want = a.want; way = way; woken = false } ∷ ws

-- ---- what a waiting call is, by its way and whether it was woken

-- it is parked to read
abbrev pub is_parked_reader : How → Bool → Bool
is_parked_reader how.ParkedRead woken = not woken
is_parked_reader _ woken = false

-- it is parked to write
abbrev pub is_parked_writer : How → Bool → Bool
is_parked_writer how.ParkedWrite woken = not woken
is_parked_writer _ woken = false

-- it was given a read share
abbrev pub is_read_share : How → Bool → Bool
is_read_share how.ParkedRead woken = woken
is_read_share _ woken = false

-- it was given a write share
abbrev pub is_write_share : How → Bool → Bool
is_write_share how.ParkedWrite woken = woken
is_write_share _ woken = false

-- it drains
abbrev pub is_drain : How → Bool
is_drain how.Drain = true
is_drain _ = false

-- ---- the waiting calls of a cell

-- the call is parked on the cell to read
abbrev pub parks_to_read : ℕ → Wait → Bool
parks_to_read c w = if is_parked_reader w.way w.woken then (w.cell == c) else false

-- the call is parked on the cell to write
abbrev pub parks_to_write : ℕ → Wait → Bool
parks_to_write c w = if is_parked_writer w.way w.woken then (w.cell == c) else false

-- the call has a read share of the cell
abbrev pub shares_read : ℕ → Wait → Bool
shares_read c w = if is_read_share w.way w.woken then (w.cell == c) else false

-- the call has a write share of the cell
abbrev pub shares_write : ℕ → Wait → Bool
shares_write c w = if is_write_share w.way w.woken then (w.cell == c) else false

-- the call waits at the cell
abbrev pub waits_at : ℕ → Wait → Bool
waits_at c w = w.cell == c

-- the call drains the cell
abbrev pub drains_on : ℕ → Wait → Bool
drains_on c w = if is_drain w.way then (w.cell == c) else false

-- the party, where it is parked
abbrev pub party_if : Bool → ℕ → List ℕ
party_if true p = p ∷ []
party_if false p = []

-- the parties that are parked on the cell to read, in order of parking
abbrev pub parked_readers : ℕ → List Wait → List ℕ
parked_readers c [] = []
parked_readers c (w ∷ ws) = parked_readers c ws ++ party_if (parks_to_read c w) w.party

-- the parties that are parked on the cell to write, in order of parking
abbrev pub parked_writers : ℕ → List Wait → List ℕ
parked_writers c [] = []
parked_writers c (w ∷ ws) = parked_writers c ws ++ party_if (parks_to_write c w) w.party

-- ---- what is given

-- the call is given a share
abbrev pub wait_woken : Wait → Wait
wait_woken w = record { party = w.party; cell = w.cell; want = w.want; way = w.way; woken = true }

-- a share for the writer that is named
abbrev pub wake_writer : ℕ → Wait → Wait
wake_writer q w = if (w.party == q) && is_parked_writer w.way w.woken then wait_woken w else w

-- a share for a call that is parked on the cell to read
abbrev pub wake_reader : ℕ → Wait → Wait
wake_reader c w = if parks_to_read c w then wait_woken w else w

-- shares for the calls that are parked on the cell to read
abbrev pub wake_readers : Option ℕ → List Wait → List Wait
wake_readers None ws = ws
wake_readers (Some c) ws = map (wake_reader c) ws

-- the cell of a section
abbrev pub cell_of_section : Option Section → Option ℕ
cell_of_section None = None
cell_of_section (Some s) = Some s.cell

-- the cell of a guard
abbrev pub cell_of_guard : Option Guard → Option ℕ
cell_of_guard None = None
cell_of_guard (Some x) = Some x.cell

-- the cell of an attempt
abbrev pub cell_of_attempt : Option Attempt → Option ℕ
cell_of_attempt None = None
cell_of_attempt (Some a) = Some a.cell

module _ (cells : List CellPlan) where
  -- ---- of a party's act, where these calls wait

  -- a call is attempted, or the turn of the first cell left. An Exit that looks attempts nothing
  abbrev pub attempt_with : List Wait → List Event → ℕ → Act → Option Attempt
  attempt_with ws h p (act.Call c k) = Some (record { cell = c; want = Calls k })
  attempt_with ws h p act.Again = attempt_of_wait (wait_of p ws)
  attempt_with ws h p act.Exit = attempt_of_turn (first_of (registry cells h).left)
  attempt_with ws h p _ = None

  -- the cell that is concerned. An Exit that looks concerns none
  abbrev pub cell_concerned_with : List Wait → List Event → ℕ → Act → Option ℕ
  cell_concerned_with ws h p (act.Call c k) = Some c
  cell_concerned_with ws h p act.Again = cell_of_attempt (attempt_of_wait (wait_of p ws))
  cell_concerned_with ws h p (act.Made v) = cell_of_section (innermost p (sections h))
  cell_concerned_with ws h p act.MadeFailed = cell_of_section (innermost p (sections h))
  cell_concerned_with ws h p (act.Finished left) = cell_of_section (innermost p (sections h))
  cell_concerned_with ws h p (act.FinishFailed left) = cell_of_section (innermost p (sections h))
  cell_concerned_with ws h p (act.Look g) = cell_of_guard (numbered g (guards h))
  cell_concerned_with ws h p (act.Set g v) = cell_of_guard (numbered g (guards h))
  cell_concerned_with ws h p (act.Release g) = cell_of_guard (numbered g (guards h))
  cell_concerned_with ws h p (act.Downgrade g) = cell_of_guard (numbered g (guards h))
  cell_concerned_with ws h p (act.Clone g) = cell_of_guard (numbered g (guards h))
  cell_concerned_with ws h p (act.GetMut c made left) = Some c
  cell_concerned_with ws h p (act.TryGetMut c left) = Some c
  cell_concerned_with ws h p act.Exit = first_of (registry cells h).left

  -- these waits after what a step gave, where all those calls waited
  abbrev pub waits_given_with : List Wait → List Event → Step → Given → List Wait → List Wait
  waits_given_with all h s given.Nobody ws = ws
  waits_given_with all h s (given.Writer q) ws = map (wake_writer q) ws
  waits_given_with all h s given.Readers ws = wake_readers (cell_concerned_with all h s.party s.act) ws

  -- the calls that wait after a step with this gift and answer
  abbrev pub waits_answered : List Event → Step → Given → Answer → List Wait → List Wait
  waits_answered h s g (answer.Refused r) ws = ws
  waits_answered h s g (answer.Waiting way) ws =
      with_wait s.party way (attempt_with ws h s.party s.act) (waits_given_with ws h s g (without_wait s.party ws))
  waits_answered h s g _ ws = waits_given_with ws h s g (without_wait s.party ws)

  -- the calls that wait after a step with this line
  abbrev pub waits_after : List Event → Step → Line → List Wait → List Wait
  waits_after h s l ws = waits_answered h s l.given l.answer ws

  -- the calls that wait, that which waits since the latest step first: a call that steps leaves its place
  abbrev pub waits : List Event → List Wait
  waits [] = []
  waits (e ∷ h) = waits_after h e.step e.line (waits h)

  -- what a step attempts
  abbrev pub attempt : List Event → Step → Option Attempt
  attempt h s = attempt_with (waits h) h s.party s.act

  -- the cell that a step concerns
  abbrev pub cell_concerned : List Event → Step → Option ℕ
  cell_concerned h s = cell_concerned_with (waits h) h s.party s.act

  -- these waits after what a step gave
  abbrev pub waits_given : List Event → Step → Given → List Wait → List Wait
  waits_given h s g ws = waits_given_with (waits h) h s g ws

  -- the waits of all but the step's own party
  abbrev pub other_waits : List Event → Step → List Wait
  other_waits h s = without_wait s.party (waits h)
