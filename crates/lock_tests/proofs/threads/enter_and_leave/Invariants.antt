use Rattle.std.proofs.Common.{◌≡◌}
use Rattle.lazy_threads.specs.Seats.{IsSeatOf, view_of}
use Rattle.lazy_threads.specs.declared.view.Hold.TheVariants as hold
use Rattle.lock_tests.proofs.threads.enter_and_leave.Given as goal

abbrev pub invariant-loop-turn : goal.invariant-loop-turn
invariant-loop-turn g l = record {
  table : IsSeatOf l.table l.seat;
  hold : (view_of l.seat).hold ≡ hold.Free;
}
