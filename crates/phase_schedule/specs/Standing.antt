-- What a contract sees of an engine.
use Rattle.std.specs.Prelude.{ℕ, List, []}
use Rattle.schedule_rules.specs.declared.plan.CellPlan.{CellPlan}
use Rattle.schedule_rules.specs.declared.step.Step.{Step}
use Rattle.schedule_rules.specs.declared.line.Line.{Line}
use Rattle.schedule_rules.specs.History.{Event}
use Rattle.schedule_rules.specs.Transcripts.{told}

-- how many parties it has, its cells, how many steps it has room for, and the steps so far with their lines
pub record Standing : Type 0 where
  pub parties : ℕ
  pub cells : List CellPlan
  pub count : ℕ
  pub steps : List Step
  pub lines : List Line

-- the history that it has made
abbrev pub history : Standing → List Event
history e = told [] e.steps e.lines
