-- What a run has made of the steps so far.
use Rattle.std.specs.Prelude.{ℕ, true, false, List, [], ◌∷◌, ◌≡◌, ◌≤◌, ◌<◌, ◌^◌, length, vec_capacity}
use Rattle.phase_bits.specs.declared.holders.Holders.{Holders}
use Rattle.phase_locker.specs.declared.ways.LockerKind.{LockerKind}
use Rattle.schedule_rules.specs.declared.plan.CellPlan.{CellPlan}
use Rattle.schedule_rules.specs.declared.plan.Plan.{Plan}
use Rattle.schedule_rules.specs.declared.step.Step.{Step}
use Rattle.schedule_rules.specs.declared.line.Line.{Line}
use Rattle.lazy_cells.specs.Kinds.{is_finalizable}
use Rattle.schedule_rules.specs.Kinds.{cell_at, is_owned}
use Rattle.schedule_rules.specs.Exits.{ended_turns}
use Rattle.schedule_rules.specs.History.{Event}
use Rattle.schedule_rules.specs.Transcripts.{AreFinals, NamesKnown}
pub use Rattle.phase_moves.specs.Fresh.{TakesPlaces}
use Rattle.phase_acts.specs.Steps.{Follows}
use Rattle.phase_schedule.specs.Known.{AreKnown}
use Rattle.phase_schedule.specs.declared.ending.Ending.{Ending}
use Rattle.phase_schedule.specs.declared.progress.Progress.{Progress}

-- what a run is of: so many parties, these cells, and room for so many steps
pub record Frame : Type 0 where
  pub parties : ℕ
  pub cells : List CellPlan
  pub count : ℕ

-- that of a plan
abbrev pub frame_of_plan : Plan → ℕ → Frame
frame_of_plan plan count = record { parties = plan.parties; cells = plan.cells.items; count = count }

-- what cells are left with and the turns of the exit that ended, after this history
pub record Ends (cells : List CellPlan) (h : List Event) (e : Ending) : Type 0 where
  pub finals : AreFinals e.finals.items cells h
  pub exits : e.exits.items ≡ ended_turns h
  pub known : AreKnown e.finals.items

-- no cell that is finalized belongs to a party
abbrev pub AreShared : List CellPlan → Type 0
AreShared cells = (c : ℕ) → is_finalizable (cell_at cells c).kind ≡ true → is_owned (cell_at cells c).place ≡ false

module _ {L : Type 0} (held : L → Holders) (place : L → LockerKind) where
  -- the run has made this history, and has all its memory
  pub record HasMade (f : Frame) (h : List Event) (p : Progress L) : Type 0 where
    pub follows : Follows held place f.cells h p.machine.rows
    pub parties : length p.machine.rows.parties.items ≡ f.parties
    pub few : length f.cells < 2 ^ 32
    pub room : vec_capacity p.machine.rows.guards ≡ f.count
    pub finals : p.finals.items ≡ []
    pub final_room : length f.cells ≤ vec_capacity p.finals

  -- the step can be made next
  pub record CanStep (f : Frame) (h : List Event) (p : Progress L) (s : Step) : Type 0 where
    pub made : HasMade f h p
    pub known : NamesKnown f.parties (length f.cells) s
    pub room : length h < f.count

  -- it can be made after some history
  pub record MayStep (p : Progress L) (s : Step) : Type 0 where
    pub frame : Frame
    pub h : List Event
    pub can : CanStep frame h p s

  -- whatever history was made, the longer one is made by now
  abbrev pub Steps : Progress L → Step → Line → Progress L → Type 0
  Steps old s line new = (f : Frame) (h : List Event) → CanStep f h old s → HasMade f (record { step = s; line = line } ∷ h) new

  -- some history was made
  pub record MayEnd (p : Progress L) : Type 0 where
    pub frame : Frame
    pub h : List Event
    pub made : HasMade frame h p

  -- whatever history was made, this is its end
  abbrev pub EndsSo : Progress L → Ending → Type 0
  EndsSo p e = (f : Frame) (h : List Event) → HasMade f h p → Ends f.cells h e
