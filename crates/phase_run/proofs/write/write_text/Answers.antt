use Rattle.std.proofs.Common.{arith, length-drop}
use Rattle.std.proofs.lemmas.List.{take_rest}
use Rattle.phase_run.proofs.KnownBytes.{Appends-more}
use Rattle.phase_run.proofs.write.write_text.Goals as goal

pub loop-at-preserved : goal.loop-at-preserved
loop-at-preserved g c = record {
  within = omega (arith, simp take_rest at c.in_ok-at.ensures.bound, length-drop c.loop-at.at c.args.text.now);
  given = Appends-more _ (g.K.Sink.given c.loop-at.out) _ c.args.text.now c.loop-at.at c.in_ok-at.field-0 c.loop-at.invariant.given
      (simp take_rest at c.in_ok-at.ensures.bytes);
  steady = omega arith;
}
