use Rattle.std.proofs.Common.{◌≡◌, length, take}
use Rattle.schedule_tests.proofs.ways.seen_after.Given as goal

abbrev pub invariant-loop-s : goal.invariant-loop-s
invariant-loop-s l =
    record {
      steps : l.engine.steps ≡ take l.s-index l.steps;
      parties : l.engine.parties ≡ l.plan.parties;
      cells : l.engine.cells ≡ l.plan.cells.items;
      count : l.engine.count ≡ length l.steps;
    }
