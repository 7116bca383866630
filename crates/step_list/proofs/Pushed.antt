-- A row that is added with its values adds its step.
use Rattle.std.proofs.Common.{suc, ◌≡◌, ℕ, ◌+◌, ◌≤◌, List, [], ◌∷◌, ◌++◌, length, drop, refl, ◌∙◌, ap, arith, true, false, None, Some, length-append, length-drop}
use Rattle.std.specs.Prelude.{Bool, slice_index}
use Rattle.std.proofs.lemmas.List.{drop-append-le}
use Rattle.schedule_rules.specs.declared.step.Act.{Act}
use Rattle.schedule_rules.specs.declared.step.Act.TheVariants as act
use Rattle.schedule_rules.specs.declared.step.Step.{Step}
use Rattle.step_list.specs.declared.row.Code.{Code}
use Rattle.step_list.specs.declared.row.Code.TheVariants as code
use Rattle.step_list.specs.declared.row.StepRow.{StepRow}
use Rattle.step_list.specs.Rows.{act_of, code_of, count_if, value_if, row_of, step_of, target_of, values_in, values_of}
use Rattle.step_list.specs.Steps.{count_values, steps_of}

-- ---- one step

-- a step is read back from its row and its values
act_back : (a : Act) → act_of (code_of a) (target_of a) (values_in a) ≡ a
act_back (act.Call c k) = refl
act_back act.Again = refl
act_back (act.Made v) = refl
act_back act.MadeFailed = refl
act_back (act.Finished None) = refl
act_back (act.Finished (Some v)) = refl
act_back (act.FinishFailed None) = refl
act_back (act.FinishFailed (Some v)) = refl
act_back (act.Look g) = refl
act_back (act.Set g v) = refl
act_back (act.Release g) = refl
act_back (act.Downgrade g) = refl
act_back (act.Clone g) = refl
act_back (act.GetMut c None left) = refl
act_back (act.GetMut c (Some v) left) = refl
act_back (act.TryGetMut c left) = refl
act_back act.Exit = refl

step_back : (s : Step) → step_of (row_of s) (values_in s.act) ≡ s
step_back s = ap (λ (a : Act). let t : Step = record { party = s.party; act = a } in t) (act_back s.act)

-- it has as many values as its row says
pub counted : (a : Act) → values_of (code_of a) ≡ length (values_in a)
counted (act.Call c k) = refl
counted act.Again = refl
counted (act.Made v) = refl
counted act.MadeFailed = refl
counted (act.Finished None) = refl
counted (act.Finished (Some v)) = refl
counted (act.FinishFailed None) = refl
counted (act.FinishFailed (Some v)) = refl
counted (act.Look g) = refl
counted (act.Set g v) = refl
counted (act.Release g) = refl
counted (act.Downgrade g) = refl
counted (act.Clone g) = refl
counted (act.GetMut c None left) = refl
counted (act.GetMut c (Some v) left) = refl
counted (act.TryGetMut c left) = refl
counted act.Exit = refl

-- values behind its own do not matter
first_stays : (values more : List ℕ) → 1 ≤ length values → slice_index (values ++ more) 0 ≡ slice_index values 0
first_stays [] more h = absurd (omega arith)
first_stays (v ∷ values) more h = refl

value_if_stays : (leaves : Bool) (values more : List ℕ) → count_if leaves ≤ length values → value_if leaves (values ++ more) ≡ value_if leaves values
value_if_stays true values more h = ap (λ v. Some v) (first_stays values more h)
value_if_stays false values more h = refl

-- of what is lent: what is left there, and what was made, which may be missing
lent_stays : (makes : Bool) (target : ℕ) (values more : List ℕ) → count_if makes + 1 ≤ length values → act_of (code.GetMut makes) target (values ++ more) ≡ act_of (code.GetMut makes) target values
lent_stays makes target [] more h = absurd (omega arith)
lent_stays makes target (left ∷ values) more h = ap (λ made. act.GetMut target made left) (value_if_stays makes values more (omega arith))

act_stays : (c : Code) (target : ℕ) (values more : List ℕ) → values_of c ≤ length values → act_of c target (values ++ more) ≡ act_of c target values
act_stays (code.Call k) target values more h = refl
act_stays code.Again target values more h = refl
act_stays code.Made target values more h = ap (λ v. act.Made v) (first_stays values more h)
act_stays code.MadeFailed target values more h = refl
act_stays (code.Finished leaves) target values more h = ap (λ left. act.Finished left) (value_if_stays leaves values more h)
act_stays (code.FinishFailed leaves) target values more h = ap (λ left. act.FinishFailed left) (value_if_stays leaves values more h)
act_stays code.Look target values more h = refl
act_stays code.Set target values more h = ap (λ v. act.Set target v) (first_stays values more h)
act_stays code.Release target values more h = refl
act_stays code.Downgrade target values more h = refl
act_stays code.Clone target values more h = refl
act_stays (code.GetMut makes) target values more h = lent_stays makes target values more h
act_stays code.TryGetMut target values more h = ap (λ v. act.TryGetMut target v) (first_stays values more h)
act_stays code.Exit target values more h = refl

step_stays : (row : StepRow) (values more : List ℕ) → values_of row.code ≤ length values → step_of row (values ++ more) ≡ step_of row values
step_stays row values more h = ap (λ (a : Act). let t : Step = record { party = row.party; act = a } in t) (act_stays row.code row.target values more h)

-- ---- many

-- a step for each row
pub length_steps : (rows : List StepRow) (values : List ℕ) → length (steps_of rows values) ≡ length rows
length_steps [] values = refl
length_steps (row ∷ rows) values = ap suc (length_steps rows (drop (values_of row.code) values))

count_pushed : (rows : List StepRow) (row : StepRow) → count_values (rows ++ row ∷ []) ≡ count_values rows + values_of row.code
count_pushed [] row = omega arith
count_pushed (r ∷ rows) row = let more = count_pushed rows row in omega (arith, more)

no_values : (values : List ℕ) → 0 ≡ length values → values ≡ []
no_values [] h = refl
no_values (v ∷ values) h = absurd (omega arith)

row_pushed : (rows : List StepRow) (row : StepRow) (values more : List ℕ) → count_values rows ≡ length values → steps_of (rows ++ row ∷ []) (values ++ more) ≡ steps_of rows values ++ step_of row more ∷ []
row_pushed [] row values more h = ap (λ vs. step_of row (vs ++ more) ∷ []) (no_values values h)
row_pushed (r ∷ rows) row values more h =
    let enough : values_of r.code ≤ length values = omega arith in
    let others : count_values rows ≡ length (drop (values_of r.code) values) = omega (arith, length-drop (values_of r.code) values) in
    rw (step_stays r values more enough, drop-append-le (values_of r.code) values more enough)
    (ap (λ ss. step_of r values ∷ ss) (row_pushed rows row (drop (values_of r.code) values) more others))

-- ---- the fields of a list: rows of which some were taken, and values of which some were

module _ (row value : ℕ) (rows new_rows : List StepRow) (values new_values : List ℕ) (s : Step) (taken : row ≤ length rows) (kept : value + count_values (drop row rows) ≡ length values) (with_row : new_rows ≡ rows ++ row_of s ∷ []) (with_values : new_values ≡ values ++ values_in s.act) where
  pub steps_pushed : steps_of (drop row new_rows) (drop value new_values) ≡ steps_of (drop row rows) (drop value values) ++ s ∷ []
  steps_pushed =
      let enough : value ≤ length values = omega arith in
      let left : count_values (drop row rows) ≡ length (drop value values) = omega (arith, length-drop value values) in
      rw (with_row, with_values, drop-append-le row rows (row_of s ∷ []) taken, drop-append-le value values (values_in s.act) enough)
      (row_pushed (drop row rows) (row_of s) (drop value values) (values_in s.act) left
      ∙ ap (λ t. steps_of (drop row rows) (drop value values) ++ t ∷ []) (step_back s))

  pub rows_pushed : row ≤ length new_rows
  rows_pushed = rw with_row (omega (arith, length-append rows (row_of s ∷ [])))

  pub values_pushed : value + count_values (drop row new_rows) ≡ length new_values
  values_pushed =
      rw (with_row, with_values, drop-append-le row rows (row_of s ∷ []) taken)
      (omega (arith, count_pushed (drop row rows) (row_of s), counted s.act, length-append values (values_in s.act)))
