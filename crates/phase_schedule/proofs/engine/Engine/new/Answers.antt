use Rattle.phase_schedule.proofs.Words.{[], ◌∙◌, frame_of_plan, sym}
use Rattle.phase_schedule.proofs.Made.{same_room, stands_new}
use Rattle.phase_schedule.proofs.Rows.{plans_are}
use Rattle.phase_schedule.proofs.Valid.{shared}
use Rattle.phase_schedule.proofs.engine.Engine.new.Goals as goal

pub invariant_of-result : goal.invariant_of-result
invariant_of-result g c = stands_new {f = frame_of_plan c.args.plan.now c.args.count} (record { progress = c.in_ok-progress.progress; steps = c.in_ok-steps.steps; lines = c.in_ok-lines.lines }) c.in_ok-progress.ensures c.in_ok-steps.ensures.items c.in_ok-lines.ensures.items (same_room _ _ c.in_ok-steps.ensures.exact) (same_room _ _ c.in_ok-lines.ensures.exact)

pub returns-clause-cells : goal.returns-clause-cells
returns-clause-cells g c = plans_are g.L.PhaseLocker.held g.L.PhaseLocker.place c.args.plan.now.cells.items [] c.in_ok-progress.progress.machine.rows c.in_ok-progress.ensures.follows

pub new-requires-clause-shared : goal.new-requires-clause-shared
new-requires-clause-shared g c = shared c.args.plan.now.parties c.args.plan.now.cells.items (sym c.plan_cause.ensures ∙ c.in_default.is)
