-- The steps of rows, beside their values.
use Rattle.std.specs.Prelude.{ℕ, List, [], ◌∷◌, ◌+◌, ◌≡◌, drop}
use Rattle.std.specs.declared.option.Option.{Option}
use Rattle.std.specs.declared.option.Option.TheVariants.{None, Some}
use Rattle.schedule_rules.specs.declared.step.Step.{Step}
use Rattle.step_list.specs.declared.row.StepRow.{StepRow}
use Rattle.step_list.specs.Rows.{step_of, values_of}

-- the steps of these rows: each takes its values off the front
abbrev pub steps_of : List StepRow → List ℕ → List Step
steps_of [] values = []
steps_of (row ∷ rows) values = step_of row values ∷ steps_of rows (drop (values_of row.code) values)

-- how many values they have
abbrev pub count_values : List StepRow → ℕ
count_values [] = 0
count_values (row ∷ rows) = values_of row.code + count_values rows

-- the first of the old steps is this, and the others are new; or there was none
abbrev pub TakesFirst : List Step → Option Step → List Step → Type 0
TakesFirst old (Some s) new = old ≡ s ∷ new
TakesFirst old None new = (old ≡ []) × (new ≡ [])
