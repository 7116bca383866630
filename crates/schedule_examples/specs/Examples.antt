-- Which lines the rules allow for a schedule, one after another, what the cells are left with, and which turns of the exit
-- end.
use Rattle.std.specs.Prelude.{ℕ, Bool, true, false, ◌+◌, ◌≡◌, ◌==◌, ◌&&◌, ◌||◌, List, [], ◌∷◌, ◌++◌, map, nat_le}
use Rattle.std.specs.List.{AllByRecursion}
use Rattle.phase_bits.specs.Records.{most_readers}
use Rattle.schedule_rules.specs.declared.plan.CellPlan.{CellPlan}
use Rattle.schedule_rules.specs.declared.step.Step.{Step}
use Rattle.schedule_rules.specs.declared.line.Line.{Line}
use Rattle.schedule_rules.specs.declared.transcript.Final.{Final}
use Rattle.exit_registry.specs.declared.turns.Turned.{Turned}
use Rattle.schedule_rules.specs.History.{Event}
use Rattle.schedule_rules.specs.Sections.{sections}
use Rattle.schedule_rules.specs.Guards.{guards}
use Rattle.schedule_rules.specs.Exits.{ended_turns}
use Rattle.schedule_rules.specs.Waits.{waits}
use Rattle.schedule_rules.specs.Holds.{readers, writers, drains}
use Rattle.schedule_rules.specs.Refusals.{refusal}
use Rattle.schedule_rules.specs.Legal.{Moment, First, Last, answer_of, due_at, may_give, IsLegalLine}
use Rattle.schedule_rules.specs.Transcripts.{told, final_of, IsLegalTranscript}

-- a step and the line that it is answered by: when it gives what it gives, and whether a call that readers alone bar
-- drains
pub record Row : Type 0 where
  pub step : Step
  pub line : Line
  pub moment : Moment
  pub chosen : Bool

-- a row whose call parks where it is barred, and which gives when the step has given back what it holds
abbrev pub row : Step → Line → Row
row s l = record { step = s; line = l; moment = Last; chosen = false }

-- a row whose call drains where readers alone bar it
abbrev pub draining : Step → Line → Row
draining s l = record { step = s; line = l; moment = Last; chosen = true }

-- a row that gives as the share or the drain of its call is taken away
abbrev pub early : Row → Row
early r = record { step = r.step; line = r.line; moment = First; chosen = r.chosen }

-- the steps of the rows
abbrev pub steps_of : List Row → List Step
steps_of rows = map (λ r. r.step) rows

-- the lines of the rows
abbrev pub lines_of : List Row → List Line
lines_of rows = map (λ r. r.line) rows

-- the history of the rows
abbrev pub history_of : List Row → List Event
history_of rows = told [] (steps_of rows) (lines_of rows)

module _ (cells : List CellPlan) where
  -- the line that is due for the step of the row at this history, where it gives what the row gives
  abbrev pub due_line : List Event → Row → Line
  due_line h r =
      record { answer = answer_of (refusal cells h r.step) (due_at cells r.moment h r.step r.line.given r.chosen); given = r.line.given }

  -- the lines that are due one after another, each at the steps and the lines before it
  abbrev pub due_lines_from : List Event → List Row → List Line
  due_lines_from h [] = []
  due_lines_from h (r ∷ rs) = due_line h r ∷ due_lines_from (record { step = r.step; line = r.line } ∷ h) rs

  -- each row may give what it gives
  abbrev pub gifts_from : List Event → List Row → Bool
  gifts_from h [] = true
  gifts_from h (r ∷ rs) = may_give cells (refusal cells h r.step) r.moment h r.step r.line && gifts_from (record { step = r.step; line = r.line } ∷ h) rs

  -- beside a write hold or share of the cell nothing else holds it, and its readers are within the limit
  abbrev pub excludes : List Event → ℕ → Bool
  excludes h c =
      nat_le (writers cells c h) 1
      && (((writers cells c h == 0) || ((readers cells c h == 0) && (drains cells c h == 0))) && nat_le (readers cells c h) most_readers)

  -- the cells of what is open and of the calls that wait
  abbrev pub cells_named : List Event → List ℕ
  cells_named h = map (λ x. x.cell) (guards h) ++ (map (λ s. s.cell) (sections h) ++ map (λ w. w.cell) (waits cells h))

  -- the holds of each of these cells exclude each other
  abbrev pub all_exclude : List Event → List ℕ → Bool
  all_exclude h [] = true
  all_exclude h (c ∷ cs) = excludes h c && all_exclude h cs

  -- the holds of each cell exclude each other: of a cell that is not named here there are none
  abbrev pub each_excludes : List Event → Bool
  each_excludes h = all_exclude h (cells_named h)

  -- from this moment on, the holds of each cell exclude each other
  abbrev pub holds_from : List Event → List Row → Bool
  holds_from h [] = each_excludes h
  holds_from h (r ∷ rs) = each_excludes h && holds_from (record { step = r.step; line = r.line } ∷ h) rs

  -- what the cells are left with, from this number on
  abbrev pub finals_from : ℕ → List CellPlan → List Event → List Final
  finals_from c [] h = []
  finals_from c (x ∷ xs) h = final_of cells c h ∷ finals_from (c + 1) xs h

-- what the cells are left with after these rows
abbrev pub finals_of : List CellPlan → List Row → List Final
finals_of cells rows = finals_from cells 0 cells (history_of rows)

-- on these cells the steps of the rows may be answered by the lines of the rows, the cells are left with this, and these
-- turns of the exit ended
pub record GoesWith (cells : List CellPlan) (rows : List Row) (left : List Final) (turns : List Turned) : Type 0 where
  pub lines : due_lines_from cells [] rows ≡ lines_of rows
  pub gifts : gifts_from cells [] rows ≡ true
  pub holds : holds_from cells [] rows ≡ true
  pub finals : finals_of cells rows ≡ left
  pub exits : ended_turns (history_of rows) ≡ turns

-- the same, where no turn ended
abbrev pub Goes : List CellPlan → List Row → List Final → Type 0
Goes cells rows left = GoesWith cells rows left []

-- after these rows this row may go, and for its step no choice makes one of these other lines legal
pub record GoesOnlySo (cells : List CellPlan) (rows : List Row) (right : Row) (wrong : List Line) : Type 0 where
  pub lines : due_lines_from cells [] (rows ++ right ∷ []) ≡ lines_of (rows ++ right ∷ [])
  pub gifts : gifts_from cells [] (rows ++ right ∷ []) ≡ true
  pub holds : holds_from cells [] (rows ++ right ∷ []) ≡ true
  pub others : AllByRecursion (λ l. IsLegalLine cells (history_of rows) right.step l → ⊥) wrong

-- these rows may go so and leave this, and then these turns ended. No transcript that tells of other turns, as these, is legal
pub record EndsOnlySo (cells : List CellPlan) (rows : List Row) (left : List Final) (turns : List Turned) (wrong : List (List Turned)) : Type 0 where
  pub goes : GoesWith cells rows left turns
  pub others : (parties : ℕ)
      → AllByRecursion
      (λ ts. IsLegalTranscript (record { parties = parties; cells = cells; steps = steps_of rows }) (record { lines = lines_of rows; finals = left; exits = ts }) → ⊥)
      wrong
