-- Which histories are legal.
use Rattle.std.specs.Prelude.{ℕ, Bool, List, [], ◌∷◌, ◌≡◌, ◌≤◌, ◌<◌, IsTrue}
use Rattle.std.specs.declared.option.Option.{Option}
use Rattle.std.specs.declared.option.Option.TheVariants.{None, Some}
use Rattle.phase_bits.specs.Records.{most_readers}
use Rattle.phase_locker.specs.declared.ways.Given.{Given}
use Rattle.schedule_rules.specs.declared.line.Answer.{Answer}
use Rattle.schedule_rules.specs.declared.line.Answer.TheVariants as answer
use Rattle.schedule_rules.specs.declared.line.Refusal.{Refusal}
use Rattle.schedule_rules.specs.declared.line.Line.{Line}
use Rattle.schedule_rules.specs.declared.step.Step.{Step}
use Rattle.schedule_rules.specs.declared.plan.CellPlan.{CellPlan}
use Rattle.schedule_rules.specs.History.{Event}
use Rattle.schedule_rules.specs.Waits.{attempt, waits_given, other_waits}
use Rattle.schedule_rules.specs.Holds.{readers, writers, drains}
use Rattle.schedule_rules.specs.Refusals.{refusal}
use Rattle.schedule_rules.specs.Due.{due_answer}
use Rattle.schedule_rules.specs.Gifts.{is_nobody, may_give_first, may_give_last}

-- when a step gives: as its own share or drain is taken away, or when it has given back what it holds
pub data Moment : Type 0 where
  First : Moment
  Last : Moment

-- a step with a reason to refuse is refused
abbrev pub answer_of : Option Refusal → Answer → Answer
answer_of (Some r) a = answer.Refused r
answer_of None a = a

module _ (cells : List CellPlan) where
  -- the answer that is due with a gift at this moment, where the step drains by choice
  abbrev pub due_at : Moment → List Event → Step → Given → Bool → Answer
  due_at First h s g chosen = due_answer cells h s (waits_given cells h s g (other_waits cells h s)) chosen
  due_at Last h s g chosen = due_answer cells h s (other_waits cells h s) chosen

  -- the gift is allowed at this moment
  abbrev pub may_give_at : Moment → List Event → Step → Line → Bool
  may_give_at First h s l = may_give_first cells h s (attempt cells h s) l.given
  may_give_at Last h s l = may_give_last cells h s l.answer l.given

  -- a refused step gives nothing
  abbrev pub may_give : Option Refusal → Moment → List Event → Step → Line → Bool
  may_give (Some r) m h s l = is_nobody l.given
  may_give None m h s l = may_give_at m h s l

  -- the line is refused for the first reason, or else its answer is due and its gift allowed at one of the two
  -- moments. A call that readers alone bar may drain or park
  pub record IsLegalLine (h : List Event) (s : Step) (l : Line) : Type 0 where
    pub moment : Moment
    pub chosen : Bool
    pub answered : l.answer ≡ answer_of (refusal cells h s) (due_at moment h s l.given chosen)
    pub gave : IsTrue (may_give (refusal cells h s) moment h s l)

  -- beside a write hold or share of a cell nothing else holds it, and its readers are within the limit
  pub record IsExclusive (h : List Event) (c : ℕ) : Type 0 where
    pub one_writer : writers cells c h ≤ 1
    pub no_reader : 0 < writers cells c h → readers cells c h ≡ 0
    pub no_drain : 0 < writers cells c h → drains cells c h ≡ 0
    pub limit : readers cells c h ≤ most_readers

  -- each line is legal at the steps before it, and at each moment the holds of every cell exclude each other
  abbrev pub IsLegal : List Event → Type 0
  IsLegal [] = Unit {0}
  IsLegal (e ∷ h) = IsLegalLine h e.step e.line × ((c : ℕ) → IsExclusive (e ∷ h) c) × IsLegal h
