-- When rows follow a legal history, and what one step more does.
use Rattle.std.specs.Prelude.{ℕ, List, true, false, ◌∷◌, ◌≡◌, ◌≤◌, ◌<◌, length, vec_capacity}
use Rattle.std.specs.declared.option.Option.{Option}
use Rattle.std.specs.declared.option.Option.TheVariants.{None, Some}
use Rattle.phase_bits.specs.declared.holders.Holders.{Holders}
use Rattle.phase_locker.specs.declared.ways.Given.{Given}
use Rattle.phase_locker.specs.declared.ways.Given.TheVariants as given
use Rattle.phase_locker.specs.declared.ways.LockerKind.{LockerKind}
use Rattle.phase_bits.specs.declared.phase.Phase.{Phase}
use Rattle.schedule_rules.specs.declared.form.Form.{Form}
use Rattle.schedule_rules.specs.declared.form.Form.TheVariants.{Told, Shown, Held}
use Rattle.schedule_rules.specs.declared.line.Answer.{Answer}
use Rattle.schedule_rules.specs.declared.line.Answer.TheVariants as answer
use Rattle.schedule_rules.specs.declared.line.Line.{Line}
use Rattle.schedule_rules.specs.declared.line.Refusal.{Refusal}
use Rattle.schedule_rules.specs.declared.plan.CellPlan.{CellPlan}
use Rattle.schedule_rules.specs.declared.step.Act.{Act}
use Rattle.schedule_rules.specs.declared.step.Act.TheVariants as act
use Rattle.schedule_rules.specs.declared.step.Step.{Step}
use Rattle.lazy_cells.specs.Kinds.{is_finalizable}
use Rattle.schedule_rules.specs.Kinds.{is_owned}
use Rattle.schedule_rules.specs.History.{Event}
use Rattle.schedule_rules.specs.Kinds.{cell_at}
use Rattle.schedule_rules.specs.Legal.{IsLegal}
use Rattle.schedule_rules.specs.Refusals.{refusal}
use Rattle.schedule_rules.specs.Transcripts.{NamesKnown}
use Rattle.schedule_rules.specs.Waits.{waits, wait_of}
use Rattle.phase_moves.specs.declared.rows.Rows.{Rows}
use Rattle.phase_moves.specs.Histories.{standing}
use Rattle.phase_moves.specs.Moves.{KeptWith, Rests}

-- the step of a party that acts so
abbrev pub step_of : ℕ → Act → Step
step_of p a = record { party = p; act = a }

-- the outcome of a generator, which made this value or failed
abbrev pub outcome : Option ℕ → Act
outcome None = act.MadeFailed
outcome (Some v) = act.Made v

-- the answer of a call whose run made this value and reached this phase, and which keeps no lock. That it keeps a guard does
-- not occur
abbrev pub answer_back : Form → ℕ → Phase → Answer
answer_back (Told tests) v q = answer.Phase q
answer_back Shown v q = answer.Value v
answer_back (Held writes falls_back) v q = answer.Phase q

-- what a step gave at its two moments, at one of which it gave nothing
abbrev pub given_first : Given → Given → Given
given_first given.Nobody last = last
given_first g last = g

module _ {L : Type 0} (held : L → Holders) (place : L → LockerKind) where
  -- the rows follow a legal history of these cells: they stand for what stands open after it, each step has its row of
  -- guards, each cell of the plan its row, and there is room for the turn of each cell. No cell that is finalized belongs to
  -- a party
  pub record Follows (cells : List CellPlan) (h : List Event) (v : Rows L) : Type 0 where
    pub rests : Rests held place (standing cells h) v
    pub legal : IsLegal cells h
    pub steps : length v.guards.items ≡ length h
    pub planned : length v.cells.items ≡ length cells
    pub turns : length cells ≤ vec_capacity v.exit.turns
    pub placed : (c : ℕ) → is_finalizable (cell_at cells c).kind ≡ true → is_owned (cell_at cells c).place ≡ false

  -- the step may come next: it names a known party and a known cell, and there is room for its row of guards
  pub record IsNext (cells : List CellPlan) (h : List Event) (v : Rows L) (s : Step) : Type 0 where
    pub follows : Follows cells h v
    pub known : NamesKnown (length v.parties.items) (length v.cells.items) s
    pub room : length v.guards.items < vec_capacity v.guards

  -- the rows follow the history that is longer by the step and its line
  pub record HasStepped (cells : List CellPlan) (h : List Event) (old : Rows L) (s : Step) (l : Line) (new : Rows L) : Type 0 where
    pub follows : Follows cells (record { step = s; line = l } ∷ h) new
    pub kept : KeptWith 1 old new

  -- ---- any step

  -- it may come next after some history that the rows follow
  pub record MayStep (v : Rows L) (s : Step) : Type 0 where
    pub cells : List CellPlan
    pub h : List Event
    pub next : IsNext cells h v s

  -- whatever history the rows followed, they follow it with the step and this line
  abbrev pub Steps : Rows L → Step → Line → Rows L → Type 0
  Steps old s l new = (cells : List CellPlan) (h : List Event) → IsNext cells h old s → HasStepped cells h old s l new

  -- so it is with each step that is to be refused for this reason
  abbrev pub Refuses : Rows L → Refusal → Line → Rows L → Type 0
  Refuses old r l new = (cells : List CellPlan) (h : List Event) (s : Step) → IsNext cells h old s → refusal cells h s ≡ Some r → HasStepped cells h old s l new

  -- ---- the step of a party that does not wait

  pub record IsAwake (cells : List CellPlan) (h : List Event) (v : Rows L) (p : ℕ) (a : Act) : Type 0 where
    pub next : IsNext cells h v (step_of p a)
    pub awake : wait_of p (waits cells h) ≡ None

  pub record MayAct (v : Rows L) (p : ℕ) (a : Act) : Type 0 where
    pub cells : List CellPlan
    pub h : List Event
    pub is : IsAwake cells h v p a

  abbrev pub Acts : Rows L → ℕ → Act → Line → Rows L → Type 0
  Acts old p a l new = (cells : List CellPlan) (h : List Event) → IsAwake cells h old p a → HasStepped cells h old (step_of p a) l new
