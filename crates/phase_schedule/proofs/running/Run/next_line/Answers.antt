use Rattle.phase_schedule.proofs.Words.{[], frame_of, refl, Run, Some, told}
use Rattle.phase_schedule.proofs.Runs.{can_go_on, goes_on, is_done, still_run}
use Rattle.phase_schedule.proofs.running.Run.next_line.Goals as goal

pub returns-in_err-step-clause-goes : goal.returns-in_err-step-clause-goes
returns-in_err-step-clause-goes c =
    let old = c.args.self.now in
    λ x lines made. rw c.from_residual.ensures (is_done x lines old made c.in_err-step.ensures.0 (record { progress = old.progress; steps = c.pop_front.new.self }) c.in_err-step.ensures.1 refl)

pub step-requires : goal.step-requires
step-requires c =
    let r = c.requires in
    record { frame = frame_of r.schedule; h = told [] r.schedule.steps r.lines; can = can_go_on r.schedule r.lines c.args.self.now r.made c.in_ok-step.step c.pop_front.new.self c.in_ok-step.ensures }

pub returns-clause-goes : goal.returns-clause-goes
returns-clause-goes c = λ x lines made. goes_on x lines c.args.self.now made c.in_ok-step.step c.pop_front.new.self c.in_ok-step.ensures (record { progress = c.step.new.self; steps = c.pop_front.new.self }) c.step.result refl c.step.ensures

pub returns-clause-is : goal.returns-clause-is
returns-clause-is c =
    let new : Run = record { progress = c.step.new.self; steps = c.pop_front.new.self } in
    still_run c.args.self.now new (Some c.step.result) c.requires (λ x lines made. goes_on x lines c.args.self.now made c.in_ok-step.step c.pop_front.new.self c.in_ok-step.ensures new c.step.result refl c.step.ensures)
