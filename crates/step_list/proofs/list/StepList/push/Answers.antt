use Rattle.std.proofs.Common.{◌≡◌, ◌++◌, ◌∷◌, []}
use Rattle.std.proofs.lemmas.Result.{IfOk-at_ok}
use Rattle.step_list.specs.declared.row.StepRow.{StepRow}
use Rattle.step_list.specs.Rows.{row_of, values_in}
use Rattle.step_list.proofs.Pushed.{rows_pushed, steps_pushed, values_pushed}
use Rattle.step_list.proofs.list.StepList.push.Goals as goal

pub invariant_of-self-2 : goal.invariant_of-self-2
invariant_of-self-2 c =
    let i = c.self.inside in
    let rows : c.push_reserved.new.self.items ≡ i.rows.items ++ row_of c.args.step ∷ [] = cc (c.push_reserved.ensures.items, IfOk-at_ok (λ (row : StepRow). row ≡ row_of c.args.step) c.in_ok-row.was c.new.ensures.row, c.reserve.ensures.items) in
    let values : c.new.new.values.items ≡ i.values.items ++ values_in c.args.step.act = IfOk-at_ok (λ _. c.new.new.values.items ≡ i.values.items ++ values_in c.args.step.act) c.in_ok-row.was c.new.ensures.pushed in
    record {
      row = rows_pushed i.row i.value i.rows.items _ i.values.items _ c.args.step c.self.invariant.row c.self.invariant.value rows values;
      value = values_pushed i.row i.value i.rows.items _ i.values.items _ c.args.step c.self.invariant.row c.self.invariant.value rows values;
    }

pub returns-clause-pushed : goal.returns-clause-pushed
returns-clause-pushed c =
    let i = c.self.inside in
    let rows : c.push_reserved.new.self.items ≡ i.rows.items ++ row_of c.args.step ∷ [] = cc (c.push_reserved.ensures.items, IfOk-at_ok (λ (row : StepRow). row ≡ row_of c.args.step) c.in_ok-row.was c.new.ensures.row, c.reserve.ensures.items) in
    let values : c.new.new.values.items ≡ i.values.items ++ values_in c.args.step.act = IfOk-at_ok (λ _. c.new.new.values.items ≡ i.values.items ++ values_in c.args.step.act) c.in_ok-row.was c.new.ensures.pushed in
    rw (← c.self.view_is) (steps_pushed i.row i.value i.rows.items _ i.values.items _ c.args.step c.self.invariant.row c.self.invariant.value rows values)
