use Rattle.lazy_threads.specs.Seats.{view_of, IsSameSeat, SameCounts}
use Rattle.lazy_threads.specs.Calls.{Waits}
use Rattle.lazy_threads.proofs.table.SyncTable.enter_later.Given as goal

abbrev pub invariant-loop : goal.invariant-loop
invariant-loop g l =
    (goal.iterator-loop g).can_next l.iterator' × (goal.iterator-loop g).is_finite l.iterator' × IsSameSeat l.fn.seat l.seat × SameCounts l.fn.seat l.seat × Waits (view_of l.fn.seat) (view_of l.seat)
