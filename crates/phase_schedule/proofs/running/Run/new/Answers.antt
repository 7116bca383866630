use Rattle.phase_schedule.proofs.Words.{[], ◌∙◌, ◌≡◌, cause_of, frame_of_plan, held_by, None, place_by, refl, schedule_of, subst, sym}
use Rattle.phase_schedule.specs.Progress as progress
use Rattle.phase_schedule.proofs.Runs.{has_none}
use Rattle.phase_schedule.proofs.Valid.{no_error, shared_cells, valid}
use Rattle.phase_schedule.proofs.running.Run.new.Goals as goal

pub returns-in-Some-clause-complete : goal.returns-in-Some-clause-complete
returns-in-Some-clause-complete c = λ v. absurd (no_error (schedule_of c.args.plan.now c.args.steps) c.in-Some.error c.in-Some.ensures v)

pub new-requires-clause-shared : goal.new-requires-clause-shared
new-requires-clause-shared c = shared_cells (schedule_of c.args.plan.now c.args.steps) (sym c.cause_of_list.ensures ∙ c.in_default.is)

pub returns-clause-made : goal.returns-clause-made
returns-clause-made c =
    let x = schedule_of c.args.plan.now c.args.steps in
    let none : cause_of x ≡ None = sym c.cause_of_list.ensures ∙ c.in_default.is in
    has_none x (record { progress = c.in_ok-progress.progress; steps = c.args.steps }) (valid x c.requires.cells c.requires.steps none) refl
    (subst (λ n. progress.HasMade held_by place_by (frame_of_plan c.args.plan.now n) [] c.in_ok-progress.progress) c.len.ensures c.in_ok-progress.ensures)
