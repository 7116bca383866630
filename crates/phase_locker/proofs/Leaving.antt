-- A hold that is given back, or made a read hold, leaves what fits of record and rows.
use Rattle.std.proofs.Common.{inl, inr, ◌≡◌, ◌==◌, ℕ, ◌<◌, ◌≤◌, zero-le, Bool, arith, ◌&&◌}
use Rattle.std.proofs.lemmas.List.Sums.{sum_by-le-sum_by}
use Rattle.std.proofs.lemmas.Bool.{cases_lt}
use Rattle.phase_locker.specs.declared.ways.Waiting.{Waiting}
use Rattle.phase_locker.specs.declared.ways.Waiting.TheVariants as way
use Rattle.phase_locker.specs.Rows.{Rows, drains_at, claims_at, drains, claims, is_drain, is_claim}
use Rattle.phase_bits.specs.declared.phase.Phase.{Phase}
use Rattle.phase_bits.specs.declared.holders.Holders.{Holders}
use Rattle.phase_bits.specs.Records.{leave_read, leave_write, downgrade}
use Rattle.phase_locker.specs.declared.ways.LockerKind.{LockerKind}
use Rattle.phase_locker.specs.Fits.{Fits, open_reads, IsWriteOpen, flagged}
use Rattle.phase_locker.proofs.Counts.{one_if}
use Rattle.phase_locker.proofs.Holding.{Fits-flagged, Holds}

-- ---- holds given back

pub drain_claims : (w : Waiting) (b : Bool) → one_if (is_drain w && b) ≤ one_if (is_claim w && b)
drain_claims way.Free b = zero-le
drain_claims way.Spin b = zero-le
drain_claims way.ParkedRead b = zero-le
drain_claims way.ParkedWrite b = zero-le
drain_claims way.Drain b = omega arith
drain_claims way.ShareRead b = zero-le
drain_claims way.ShareWrite b = zero-le

pub drains-le-claims : (s : Rows) (c : ℕ) → drains s c ≤ claims s c
drains-le-claims s c = sum_by-le-sum_by (λ r. one_if (drains_at c r)) (λ r. one_if (claims_at c r)) s.rows (λ r. drain_claims r.waiting (r.cell == c))

-- beside an open write hold there is no reader
pub write_has_no_reader : (k : LockerKind) (h : Holders) (s : Rows) (c : ℕ) → Fits k h s c → IsWriteOpen h s c → h.readers ≡ 0
write_has_no_reader k h s c fits w =
    elim (cases_lt 0 h.readers) [ inl m ↦ absurd (omega (arith, fits.drained w.locked m, drains-le-claims s c, w.unclaimed)) | inr n ↦ omega (arith, n) ]

pub holds-leave_read : (k : LockerKind) (h : Holders) (s : Rows) (c : ℕ) → Fits k h s c → 0 < open_reads h s c → Holds k (leave_read h) s c
holds-leave_read k h s c fits held = record {
  shared = omega (arith, fits.shared, held);
  one = fits.one;
  locked = fits.locked;
  drained = λ i j. fits.drained i (omega (arith, j));
  still = fits.still;
}

pub holds-leave_write : (k : LockerKind) (q : Phase) (h : Holders) (s : Rows) (c : ℕ) → Fits k h s c → IsWriteOpen h s c → Holds k (leave_write q h) s c
holds-leave_write k q h s c fits held = record {
  shared = fits.shared;
  one = fits.one;
  locked = λ i. held.unclaimed;
  drained = λ i j. absurd (cc);
  still = fits.still;
}

pub downgraded_fits : (k : LockerKind) (q : Phase) (h : Holders) (s : Rows) (c : ℕ) → Fits k h s c → IsWriteOpen h s c → Fits k (flagged c s (downgrade q h)) s c
downgraded_fits k q h s c fits held = Fits-flagged k (downgrade q h) s c
    (record {
      shared = omega (arith, fits.shared);
      one = fits.one;
      locked = λ i. held.unclaimed;
      drained = λ i j. absurd (cc);
      still = fits.still;
    })
    (λ e f. absurd (omega (arith, f)))
