use Rattle.phase_schedule.proofs.Words.{[], ◌+◌, ◌∙◌, ◌≤◌, ap, arith, frame_of, HasMade, length, length_push, schedule_of, subst, sym, told}
use Rattle.phase_schedule.proofs.Runs.{can_step, made_none, step_at, steps_on, whole}
use Rattle.phase_schedule.proofs.Made.{same_room}
use Rattle.phase_schedule.proofs.Valid.{shared_cells, valid}
use Rattle.phase_schedule.proofs.run.run_on.Goals as goal

pub loop-step-init : goal.loop-step-init
loop-step-init g c =
    let x = schedule_of c.args.plan.now c.args.steps.now in
    record { made = made_none x c.in_ok-lines.lines.items c.in_ok-progress.progress c.in_ok-lines.ensures.items c.in_ok-progress.ensures; count = ap length c.in_ok-lines.ensures.items; room = same_room _ _ c.in_ok-lines.ensures.exact }

pub step-requires : goal.step-requires
step-requires g c =
    let x = schedule_of c.args.plan.now c.args.steps.now in
    let i = c.loop-step.invariant in
    let ls = c.loop-step.lines.items in
    record { frame = frame_of x; h = told [] c.args.steps.now ls; can = can_step x ls i.made (valid x c.requires.cells c.requires.steps c.requires.runs) _ (step_at x ls c.loop-step.step-index _ i.count c.loop-step-test.true) }

pub loop-step-preserved : goal.loop-step-preserved
loop-step-preserved g c =
    let x = schedule_of c.args.plan.now c.args.steps.now in
    let i = c.loop-step.invariant in
    let ls = c.loop-step.lines.items in
    record {
      made = subst (λ (xs : _). HasMade g.L.PhaseLocker.held g.L.PhaseLocker.place (frame_of x) (told [] c.args.steps.now xs) c.step.new.self) (sym c.push_reserved.ensures.items)
          (steps_on x ls i.made (valid x c.requires.cells c.requires.steps c.requires.runs) _ (step_at x ls c.loop-step.step-index _ i.count c.loop-step-test.true) c.step.result c.step.new.self c.step.ensures);
      count = ap length c.push_reserved.ensures.items ∙ length_push ls c.step.result ∙ ap (λ n. n + 1) i.count;
      room = subst (λ n. length c.args.steps.now ≤ n) (sym c.push_reserved.ensures.capacity) i.room;
    }

pub finish-finals-requires : goal.finish-finals-requires
finish-finals-requires g c = record { frame = frame_of (schedule_of c.args.plan.now c.args.steps.now); h = told [] c.args.steps.now c.loop-step.lines.items; made = c.loop-step.invariant.made }

pub returns-clause-legal : goal.returns-clause-legal
returns-clause-legal g c =
    let i = c.loop-step.invariant in
    let count = i.count in
    let past = c.loop-step-test.false in
    let within = c.loop-step.auto.step-index-end in
    whole (schedule_of c.args.plan.now c.args.steps.now) c.loop-step.lines.items c.loop-step.progress c.finish-finals.result i.made (c.finish-finals.ensures _ _ i.made) (omega (arith, count, past, within))

pub returns-clause-known : goal.returns-clause-known
returns-clause-known g c = (c.finish-finals.ensures _ _ c.loop-step.invariant.made).known

pub new-requires-clause-shared : goal.new-requires-clause-shared
new-requires-clause-shared g c = shared_cells (schedule_of c.args.plan.now c.args.steps.now) c.requires.runs
