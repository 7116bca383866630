use Rattle.std.proofs.Common.{◌≡◌, ℕ, ◌-◌, ◌<◌, length}
use Rattle.phase_locker.specs.Rows.{shared, occurs}
use Rattle.phase_locker.specs.Links.{walk, listed}
use Rattle.phase_locker.proofs.links.share.Given as goal

abbrev pub invariant-loop : goal.invariant-loop
invariant-loop l = record {
  shares : shared l.cell (walk (l.end - l.counter) l.links l.party) l.rows ≡ shared l.cell (listed l.links l.fn.queue) l.fn.rows;
  below : (p : ℕ) → 0 < occurs p (walk (l.end - l.counter) l.links l.party) → p < length l.fn.rows;
}
