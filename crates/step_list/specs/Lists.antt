-- What a list of steps keeps.
use Rattle.std.specs.Prelude.{List, ◌+◌, ◌≤◌, ◌≡◌, drop, length}
use Rattle.schedule_rules.specs.declared.step.Step.{Step}
use Rattle.step_list.specs.declared.list.StepList.TheInside.{Inside}
use Rattle.step_list.specs.Steps.{count_values, steps_of}

-- the steps that were not taken
abbrev pub steps_in : Inside → List Step
steps_in list = steps_of (drop list.row list.rows.items) (drop list.value list.values.items)

-- there are as many values that were not taken as these have
pub record IsKept (list : Inside) : Type 0 where
  pub row : list.row ≤ length list.rows.items
  pub value : list.value + count_values (drop list.row list.rows.items) ≡ length list.values.items
