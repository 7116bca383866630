use Rattle.std.proofs.Common.{◌≡◌}
use Rattle.phase_locker.specs.Fits.{KeepsFit}
use Rattle.phase_locker.proofs.holder.tests.clone_all.Given as goal

abbrev pub invariant-loop-n : goal.invariant-loop-n
invariant-loop-n g l = record {
  fits : KeepsFit l.fn.locker.kind l.fn.locker.holders l.locker.holders;
  kind : l.locker.kind ≡ l.fn.locker.kind;
}
