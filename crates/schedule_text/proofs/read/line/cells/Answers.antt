use Rattle.schedule_text.specs.ScheduleText.{CellFits}
use Rattle.schedule_text.specs.ReadSteps.{cell_text}
use Rattle.schedule_text.proofs.ReadLines.{cell_takes, cell_shortens, one_more, all_push}
use Rattle.schedule_text.proofs.read.line.cells.Goals as goal

pub loop-next-smaller : goal.loop-next-smaller
loop-next-smaller c = cell_shortens c.loop-next.rest.now c.in-Some.next c.in-Some.after.now (cell_takes c.loop-next.rest.now c.in-Some.next c.in-Some.after.now c.in-Some.ensures).spelling

pub loop-next-preserved : goal.loop-next-preserved
loop-next-preserved c =
    let t = cell_takes c.loop-next.rest.now c.in-Some.next c.in-Some.after.now c.in-Some.ensures in
    rw c.in_ok-push.ensures.items
    (record {
      taken = one_more cell_text c.args.text.now c.loop-next.cells.items c.in-Some.next c.loop-next.rest.now c.in-Some.after.now c.loop-next.invariant.taken t.spelling;
      fit = all_push CellFits c.loop-next.cells.items c.in-Some.next c.loop-next.invariant.fit t.fits;
    })
