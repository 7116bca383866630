use Rattle.schedule_text.specs.ScheduleText.{StepFits}
use Rattle.schedule_text.specs.ReadSteps.{step_text}
use Rattle.schedule_text.proofs.ReadLines.{step_takes, step_shortens, one_more, all_push}
use Rattle.schedule_text.proofs.read.line.steps.Goals as goal

pub loop-next-smaller : goal.loop-next-smaller
loop-next-smaller c = step_shortens c.loop-next.rest.now c.in-Some.next c.in-Some.after.now (step_takes c.loop-next.rest.now c.in-Some.next c.in-Some.after.now c.in-Some.ensures).spelling

pub loop-next-preserved : goal.loop-next-preserved
loop-next-preserved c =
    let t = step_takes c.loop-next.rest.now c.in-Some.next c.in-Some.after.now c.in-Some.ensures in
    rw c.in_ok-push.ensures.pushed
    (record {
      taken = one_more step_text c.args.text.now c.loop-next.steps c.in-Some.next c.loop-next.rest.now c.in-Some.after.now c.loop-next.invariant.taken t.spelling;
      fit = all_push StepFits c.loop-next.steps c.in-Some.next c.loop-next.invariant.fit t.fits;
    })
