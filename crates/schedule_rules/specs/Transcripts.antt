-- Whole schedules and whole transcripts, as lists.
use Rattle.std.specs.Prelude.{ℕ, Bool, true, List, [], ◌∷◌, ◌≡◌, ◌<◌, ◌^◌, All, IsTrue, length, nat_lt, slice_get}
use Rattle.std.specs.declared.option.Option.TheVariants.{Some}
use Rattle.phase_bits.specs.Number.{phase_of}
use Rattle.schedule_rules.specs.declared.step.Act.{Act}
use Rattle.schedule_rules.specs.declared.step.Act.TheVariants as act
use Rattle.schedule_rules.specs.declared.step.Step.{Step}
use Rattle.schedule_rules.specs.declared.line.Line.{Line}
use Rattle.schedule_rules.specs.declared.plan.CellPlan.{CellPlan}
use Rattle.schedule_rules.specs.declared.plan.Plan.{Plan}
use Rattle.schedule_rules.specs.declared.transcript.Final.{Final}
use Rattle.exit_registry.specs.declared.turns.Turned.{Turned}
use Rattle.schedule_rules.specs.declared.transcript.Transcript.{Transcript}
use Rattle.schedule_rules.specs.Kinds.{is_placed}
use Rattle.schedule_rules.specs.History.{Event}
use Rattle.schedule_rules.specs.Replay.{replay, phase_at}
use Rattle.schedule_rules.specs.Exits.{ended_turns}
use Rattle.schedule_rules.specs.Legal.{IsLegal}

-- a schedule: how many parties there are, the cells, and the steps
pub record Schedule : Type 0 where
  pub parties : ℕ
  pub cells : List CellPlan
  pub steps : List Step

-- the schedule of a plan and steps
abbrev pub schedule_of : Plan → List Step → Schedule
schedule_of plan steps = record { parties = plan.parties; cells = plan.cells.items; steps = steps }

-- what a transcript tells: the line of each step, what each cell is left with, and the turns of the exit that ended
pub record Account : Type 0 where
  pub lines : List Line
  pub finals : List Final
  pub exits : List Turned

-- what the transcript tells
abbrev pub account_of : Transcript → Account
account_of t = record { lines = t.lines.items; finals = t.finals.items; exits = t.exits.items }

-- the cell that an act names is one of so many
abbrev pub names_known_cell : ℕ → Act → Bool
names_known_cell cells (act.Call c k) = nat_lt c cells
names_known_cell cells act.Again = true
names_known_cell cells (act.Made v) = true
names_known_cell cells act.MadeFailed = true
names_known_cell cells (act.Look g) = true
names_known_cell cells (act.Set g v) = true
names_known_cell cells (act.Release g) = true
names_known_cell cells (act.Downgrade g) = true
names_known_cell cells (act.Clone g) = true
names_known_cell cells (act.Finished left) = true
names_known_cell cells (act.FinishFailed left) = true
names_known_cell cells (act.GetMut c made left) = nat_lt c cells
names_known_cell cells (act.TryGetMut c left) = nat_lt c cells
names_known_cell cells act.Exit = true

-- the party and the cell that a step names are among so many
pub record NamesKnown (parties cells : ℕ) (s : Step) : Type 0 where
  pub party : s.party < parties
  pub cell : IsTrue (names_known_cell cells s.act)

-- a schedule has fewer parties than this
abbrev pub most_parties : ℕ
most_parties = 2 ^ 20

-- a schedule that can be run
pub record IsValid (x : Schedule) : Type 0 where
  pub parties : x.parties < most_parties
  pub known : All (NamesKnown x.parties (length x.cells)) x.steps
  pub placed : All (λ c. IsTrue (is_placed x.parties c.kind c.place)) x.cells
  pub cells_count : length x.cells < 2 ^ 32
  pub steps_count : length x.steps < 2 ^ 32

-- the history after these steps with these lines
abbrev pub told : List Event → List Step → List Line → List Event
told h (s ∷ ss) (l ∷ ls) = told (record { step = s; line = l } ∷ h) ss ls
told h [] ls = h
told h (s ∷ ss) [] = h

-- what a cell is left with
abbrev pub final_of : List CellPlan → ℕ → List Event → Final
final_of cells c h = record { phase = phase_of (phase_at cells c h); value = (replay cells c h).value }

-- the finals are those of the cells, in their order
pub record AreFinals (finals : List Final) (cells : List CellPlan) (h : List Event) : Type 0 where
  pub count : length finals ≡ length cells
  pub each : (c : ℕ) → c < length cells → slice_get finals c ≡ Some (final_of cells c h)

-- there is one line for each step, the history that they tell is legal, the finals are the replay at its end, and the
-- exits are the turns that ended in it
pub record IsLegalTranscript (x : Schedule) (t : Account) : Type 0 where
  pub lines : length t.lines ≡ length x.steps
  pub legal : IsLegal x.cells (told [] x.steps t.lines)
  pub finals : AreFinals t.finals x.cells (told [] x.steps t.lines)
  pub exits : t.exits ≡ ended_turns (told [] x.steps t.lines)
