use Rattle.std.proofs.Common.{arith, drop, length-drop}
use Rattle.step_list.proofs.Pushed.{length_steps}
use Rattle.step_list.proofs.list.StepList.len.Goals as goal

pub returns : goal.returns
returns c =
    let i = c.self.inside in
    rw (← c.self.view_is) (omega (arith, length_steps (drop i.row i.rows.items) (drop i.value i.values.items), length-drop i.row i.rows.items, c.len.ensures, i.rows.ok.0))
