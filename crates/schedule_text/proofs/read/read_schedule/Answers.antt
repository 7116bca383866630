use Rattle.std.proofs.Common.{refl}
use Rattle.schedule_text.proofs.ReadSchedule.{HasSteps, no_parties, no_steps, no_end, is_only, is_found}
use Rattle.schedule_text.proofs.read.read_schedule.Goals as goal

pub returns-in_default-clause-only : goal.returns-in_default-clause-only
returns-in_default-clause-only c = no_parties c.args.text.now c.in_default.ensures

pub returns-in_default-after_word-clause-only : goal.returns-in_default-after_word-clause-only
returns-in_default-after_word-clause-only c =
    no_steps c.args.text.now c.in-Some.parties c.in_ok-cells.cells.items c.in_ok-cells.rest.now
    (record { start = c.in-Some.rest.now; parties = c.in-Some.ensures; taken = c.in_ok-cells.ensures.taken; fit = c.in_ok-cells.ensures.fit; ended = c.in_ok-cells.ensures.ended })
    c.in_default-after_word.ensures

pub returns-then-not-is_end-clause-only : goal.returns-then-not-is_end-clause-only
returns-then-not-is_end-clause-only c =
    no_end c.args.text.now c.in-Some.parties c.in_ok-cells.cells.items c.in_ok-steps.steps c.in_ok-steps.rest.now
    (record {
      middle = c.in_ok-cells.rest.now;
      start = c.in-Some-after_word.rest.now;
      before = record { start = c.in-Some.rest.now; parties = c.in-Some.ensures; taken = c.in_ok-cells.ensures.taken; fit = c.in_ok-cells.ensures.fit; ended = c.in_ok-cells.ensures.ended };
      word = c.in-Some-after_word.ensures;
      taken = c.in_ok-steps.ensures.taken;
      fit = c.in_ok-steps.ensures.fit;
      ended = c.in_ok-steps.ensures.ended;
    })
    (λ e. let h = c.if-not-is_end.ensures.1 e in cc)

pub returns : goal.returns
returns c =
    let h : HasSteps c.args.text.now c.in-Some.parties c.in_ok-cells.cells.items c.in_ok-steps.steps c.in_ok-steps.rest.now = record {
      middle = c.in_ok-cells.rest.now;
      start = c.in-Some-after_word.rest.now;
      before = record { start = c.in-Some.rest.now; parties = c.in-Some.ensures; taken = c.in_ok-cells.ensures.taken; fit = c.in_ok-cells.ensures.fit; ended = c.in_ok-cells.ensures.ended };
      word = c.in-Some-after_word.ensures;
      taken = c.in_ok-steps.ensures.taken;
      fit = c.in_ok-steps.ensures.fit;
      ended = c.in_ok-steps.ensures.ended;
    } in
    record {
      found = is_found c.args.text.now c.in-Some.parties c.in_ok-cells.cells.items c.in_ok-steps.steps c.in_ok-steps.rest.now h (c.if-not-is_end.ensures.0 refl);
      only = is_only c.args.text.now c.in-Some.parties c.in_ok-cells.cells.items c.in_ok-steps.steps c.in_ok-steps.rest.now h;
      bad = tt;
    }
