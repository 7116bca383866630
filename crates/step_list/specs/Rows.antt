-- A step as a row beside its values, and back.
use Rattle.std.specs.Prelude.{ℕ, Bool, true, false, List, [], ◌∷◌, ◌+◌, drop, slice_index}
use Rattle.std.specs.declared.option.Option.{Option}
use Rattle.std.specs.declared.option.Option.TheVariants.{None, Some}
use Rattle.schedule_rules.specs.declared.step.Act.{Act}
use Rattle.schedule_rules.specs.declared.step.Act.TheVariants as act
use Rattle.schedule_rules.specs.declared.step.Step.{Step}
use Rattle.step_list.specs.declared.row.Code.{Code}
use Rattle.step_list.specs.declared.row.Code.TheVariants as code
use Rattle.step_list.specs.declared.row.StepRow.{StepRow}

-- ---- what is kept of a step

-- a value that a step may have, as what a finalizer left, is there
abbrev pub is_there : Option ℕ → Bool
is_there None = false
is_there (Some v) = true

-- what is kept of an act beside its values: the cell or the guard that it names, or else 0, and what it does
abbrev pub target_of : Act → ℕ
target_of (act.Call c k) = c
target_of act.Again = 0
target_of (act.Made v) = 0
target_of act.MadeFailed = 0
target_of (act.Finished left) = 0
target_of (act.FinishFailed left) = 0
target_of (act.Look g) = g
target_of (act.Set g v) = g
target_of (act.Release g) = g
target_of (act.Downgrade g) = g
target_of (act.Clone g) = g
target_of (act.GetMut c made left) = c
target_of (act.TryGetMut c left) = c
target_of act.Exit = 0

abbrev pub code_of : Act → Code
code_of (act.Call c k) = code.Call k
code_of act.Again = code.Again
code_of (act.Made v) = code.Made
code_of act.MadeFailed = code.MadeFailed
code_of (act.Finished left) = code.Finished (is_there left)
code_of (act.FinishFailed left) = code.FinishFailed (is_there left)
code_of (act.Look g) = code.Look
code_of (act.Set g v) = code.Set
code_of (act.Release g) = code.Release
code_of (act.Downgrade g) = code.Downgrade
code_of (act.Clone g) = code.Clone
code_of (act.GetMut c made left) = code.GetMut (is_there made)
code_of (act.TryGetMut c left) = code.TryGetMut
code_of act.Exit = code.Exit

-- the row of a step
abbrev pub row_of : Step → StepRow
row_of s = record { party = s.party; target = target_of s.act; code = code_of s.act }

-- this value, where it is there
abbrev pub values_if : Option ℕ → List ℕ
values_if None = []
values_if (Some v) = v ∷ []

-- the values of an act, in their order. What is left where a value is lent stands before what was made, which may be missing
abbrev pub values_in : Act → List ℕ
values_in (act.Call c k) = []
values_in act.Again = []
values_in (act.Made v) = v ∷ []
values_in act.MadeFailed = []
values_in (act.Finished left) = values_if left
values_in (act.FinishFailed left) = values_if left
values_in (act.Look g) = []
values_in (act.Set g v) = v ∷ []
values_in (act.Release g) = []
values_in (act.Downgrade g) = []
values_in (act.Clone g) = []
values_in (act.GetMut c made left) = left ∷ values_if made
values_in (act.TryGetMut c left) = left ∷ []
values_in act.Exit = []

-- ---- the step of a row, whose values are the first of these

-- how many values that are, where one may be there
abbrev pub count_if : Bool → ℕ
count_if true = 1
count_if false = 0

-- how many values a step has that does this
abbrev pub values_of : Code → ℕ
values_of (code.Call k) = 0
values_of code.Again = 0
values_of code.Made = 1
values_of code.MadeFailed = 0
values_of (code.Finished leaves) = count_if leaves
values_of (code.FinishFailed leaves) = count_if leaves
values_of code.Look = 0
values_of code.Set = 1
values_of code.Release = 0
values_of code.Downgrade = 0
values_of code.Clone = 0
values_of (code.GetMut makes) = count_if makes + 1
values_of code.TryGetMut = 1
values_of code.Exit = 0

-- the first value, where one is there
abbrev pub value_if : Bool → List ℕ → Option ℕ
value_if true values = Some (slice_index values 0)
value_if false values = None

-- the act that is kept so
abbrev pub act_of : Code → ℕ → List ℕ → Act
act_of (code.Call k) target values = act.Call target k
act_of code.Again target values = act.Again
act_of code.Made target values = act.Made (slice_index values 0)
act_of code.MadeFailed target values = act.MadeFailed
act_of (code.Finished leaves) target values = act.Finished (value_if leaves values)
act_of (code.FinishFailed leaves) target values = act.FinishFailed (value_if leaves values)
act_of code.Look target values = act.Look target
act_of code.Set target values = act.Set target (slice_index values 0)
act_of code.Release target values = act.Release target
act_of code.Downgrade target values = act.Downgrade target
act_of code.Clone target values = act.Clone target
act_of (code.GetMut makes) target values = act.GetMut target (value_if makes (drop 1 values)) (slice_index values 0)
act_of code.TryGetMut target values = act.TryGetMut target (slice_index values 0)
act_of code.Exit target values = act.Exit

-- the step
abbrev pub step_of : StepRow → List ℕ → Step
step_of row values = record { party = row.party; act = act_of row.code row.target values }
