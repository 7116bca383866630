-- A judged call keeps what fits of record and rows.
use Rattle.std.proofs.Common.{inl, inr, ◌≡◌, ◌==◌, ◌⊎◌, ℕ, ◌+◌, ◌<◌, Bool, true, false, List, [], length, refl, arith, ◌∙◌, not, ◌||◌, ◌&&◌}
use Rattle.std.proofs.Math.ListN.{get_or, set}
use Rattle.std.specs.Prelude.{slice_index_or, count_by, MatchBool}
use Rattle.phase_locker.specs.declared.ways.Row.{Row}
use Rattle.phase_locker.specs.declared.ways.Waiting.TheVariants as way
use Rattle.phase_locker.specs.Rows.{Rows, is_empty, free_row, row_of, shares_at, drains_at, claims_at, put}
use Rattle.phase_bits.specs.Records.{most_readers}
use Rattle.phase_bits.specs.declared.holders.Holders.{Holders}
use Rattle.phase_locker.specs.declared.tickets.LockNature.{LockNature}
use Rattle.phase_locker.specs.declared.tickets.LockNature.TheVariants as nature
use Rattle.phase_locker.specs.declared.tickets.Attempt.{Attempt}
use Rattle.phase_locker.specs.declared.ways.LockerKind.{LockerKind}
use Rattle.phase_locker.specs.declared.ways.How.{How}
use Rattle.phase_locker.specs.declared.ways.How.TheVariants.{Spin, ParkedRead, ParkedWrite, Drain}
use Rattle.phase_locker.specs.declared.ways.Who.{Who}
use Rattle.phase_locker.specs.Natures.{bars, admitted}
use Rattle.phase_locker.specs.Fits.{Fits, KeepsFit, NobodyParked, ParkedOnPark, is_park, flagged}
use Rattle.phase_locker.specs.Attempts.{ParksBy, Judged, MayWait, rows_waiting, held_waiting}
use Rattle.phase_locker.proofs.Counts.{count-set, drain_is, free_is}
use Rattle.phase_locker.proofs.Holding.{Fits-flagged, holds_of, Holds}

pub by_bool : (b : Bool) {P Q : Type 0} → MatchBool b P Q → ((b ≡ true) × P) ⊎ ((b ≡ false) × Q)
by_bool true m = inl (refl, m)
by_bool false m = inr (refl, m)

pub same_row : (f : Row → Bool) (rows : List Row) (p : ℕ) (r : Row) → p < length rows → f (get_or rows p free_row) ≡ false → f r ≡ false → count_by f (set rows p r) ≡ count_by f rows
same_row f rows p r h e g = let c = rw (e, g) at (count-set f rows p r h) in omega (arith, c)

-- ---- a judged call

pub bar_tests : (l : Bool) (r : ℕ) → ((l && (r == 0)) || (r == most_readers)) ≡ true → l ≡ false → r ≡ 0 → ⊥
bar_tests l r e f g = grind (arith, rw (f, g) at e)

pub no_bar : (h : Holders) → bars h nature.Read ≡ true → h.locked ≡ false → h.readers ≡ 0 → ⊥
no_bar h e f g = bar_tests h.locked h.readers e f g

pub no_write_bar : (h : Holders) → bars h nature.Write ≡ true → h.locked ≡ false → h.readers ≡ 0 → ⊥
no_write_bar h e f g = let x = rw (f, g) at e in cc

pub read_tests : (l : Bool) (r : ℕ) → ((l && (r == 0)) || (r == most_readers)) ≡ false → l ≡ true → 0 < r
read_tests l r e f = grind (arith, rw f at e)

pub beside : (h : Holders) → bars h nature.Read ≡ false → h.locked ≡ true → 0 < h.readers
beside h e f = read_tests h.locked h.readers e f

pub write_tests : (l : Bool) (r : ℕ) → (l || not (r == 0)) ≡ false → (l ≡ false) × (r ≡ 0)
write_tests true r e = absurd (cc)
write_tests false r e = (refl, grind arith)

pub unheld : (h : Holders) → bars h nature.Write ≡ false → (h.locked ≡ false) × (h.readers ≡ 0)
unheld h e = write_tests h.locked h.readers e

-- what bars is held
pub barred : (h : Holders) (n : LockNature) → bars h n ≡ true → h.locked ≡ false → h.readers ≡ 0 → ⊥
barred h nature.Read e f g = no_bar h e f g
barred h nature.Write e f g = no_write_bar h e f g
barred h nature.None e f g = cc

-- a party that is free waits at the cell, in a way that is no share, drain or write share
pub Holds-row : (k : LockerKind) (h : Holders) (s : Rows) (c p : ℕ) (r : Row) (rs ws : List (List ℕ)) → p < length s.rows → (row_of s p).waiting ≡ way.Free → Holds k h s c → shares_at c r ≡ false → claims_at c r ≡ false → drains_at c r ≡ false →
    (is_park k ≡ false → (is_empty (slice_index_or rs c []) ≡ true) × (is_empty (slice_index_or ws c []) ≡ true)) →
    Holds k h (record { rows = set s.rows p r; readers = rs; writers = ws }) c
Holds-row k h s c p r rs ws inside free a e f g still =
    let is = free_is c (row_of s p) free in
    let x = same_row (shares_at c) s.rows p r inside is.0 e in
    let y = same_row (claims_at c) s.rows p r inside is.1 f in
    let z = same_row (drains_at c) s.rows p r inside is.2 g in
    record {
      shared = omega (arith, x, a.shared);
      one = omega (arith, y, a.one);
      locked = λ i. y ∙ a.locked i;
      drained = λ i j. rw z (a.drained i j);
      still = λ i. (still i, x ∙ (a.still i).1, y ∙ (a.still i).2);
    }

-- it drains
pub Holds-drain : (k : LockerKind) (h : Holders) (s : Rows) (c p : ℕ) → p < length s.rows → (row_of s p).waiting ≡ way.Free → Holds k h s c → h.locked ≡ false → is_park k ≡ true → Holds k (record h { locked = true }) (put way.Drain c p s) c
Holds-drain k h s c p inside free a unlocked parks =
    let is = free_is c (row_of s p) free in
    let r : Row = record { waiting = way.Drain; cell = c } in
    let x = same_row (shares_at c) s.rows p r inside is.0 refl in
    let y = rw (is.1, (drain_is c).1) at (count-set (claims_at c) s.rows p r inside) in
    let z = rw (is.2, (drain_is c).0) at (count-set (drains_at c) s.rows p r inside) in
    let none = a.locked unlocked in
    record {
      shared = omega (arith, x, a.shared);
      one = omega (arith, y, none);
      locked = λ i. absurd (cc);
      drained = λ i j. omega (arith, z);
      still = λ i. absurd (cc);
    }

pub waits_fit : (how : How) (k : LockerKind) (fresh : Bool) (w : Who) (wake n : LockNature) (h : Holders) (s : Rows) → w.party < length s.rows → (row_of s w.party).waiting ≡ way.Free → Holds k h s w.cell → bars h n ≡ true → MayWait k fresh wake n h how → Fits k (flagged w.cell (rows_waiting how w s) (held_waiting how h)) (rows_waiting how w s) w.cell
waits_fit Spin k fresh w wake n h s inside free a bar may =
    Fits-flagged k h _ w.cell (Holds-row k h s w.cell w.party _ s.readers s.writers inside free a refl refl refl (λ i. (a.still i).0)) (λ e f. absurd (barred h n bar e f))
waits_fit ParkedRead k fresh w wake n h s inside free a bar may =
    Fits-flagged k h _ w.cell (Holds-row k h s w.cell w.party _ _ s.writers inside free a refl refl refl (λ i. let park = may.0 in absurd (cc))) (λ e f. absurd (barred h n bar e f))
waits_fit ParkedWrite k fresh w wake n h s inside free a bar may =
    Fits-flagged k h _ w.cell (Holds-row k h s w.cell w.party _ s.readers _ inside free a refl refl refl (λ i. let park = may.0 in absurd (cc))) (λ e f. absurd (barred h n bar e f))
waits_fit Drain k fresh w wake n h s inside free a bar may =
    Fits-flagged k (record h { locked = true }) _ w.cell (Holds-drain k h s w.cell w.party inside free a may.3 may.0) (λ e f. absurd (cc))

-- an admitted call
pub gets_fit : (n : LockNature) (k : LockerKind) (c : ℕ) (h : Holders) (s : Rows) → Holds k h s c → (h.locked ≡ false → h.readers ≡ 0 → NobodyParked s c) → bars h n ≡ false → Fits k (flagged c s (admitted h n)) s c
gets_fit nature.None k c h s a idle free = Fits-flagged k h s c a idle
gets_fit nature.Read k c h s a idle free =
    Fits-flagged k (record h { readers = h.readers + 1 }) s c
    (record {
      shared = omega (arith, a.shared);
      one = a.one;
      locked = a.locked;
      drained = λ i j. a.drained i (beside h free i);
      still = a.still;
    })
    (λ e f. absurd (omega (arith, f)))
gets_fit nature.Write k c h s a idle free =
    let is = unheld h free in
    Fits-flagged k (record h { locked = true }) s c
    (record {
      shared = a.shared;
      one = a.one;
      locked = λ i. absurd (cc);
      drained = λ i j. absurd (omega (arith, j, is.1));
      still = a.still;
    })
    (λ e f. absurd (cc))

-- a judged call keeps what fits
pub judged_fits : (k : LockerKind) (fresh : Bool) (w : Who) (wake n : LockNature) (h : Holders) (s : Rows) (a : Attempt) (h' : Holders) (s' : Rows) → w.party < length s.rows → (row_of s w.party).waiting ≡ way.Free → Fits k h s w.cell → Judged k fresh w wake n h s a h' s' → Fits k h' s' w.cell
judged_fits k fresh w wake n h s a h' s' inside free fits judged =
    elim (by_bool (bars h n) judged) as (λ x. Fits k h' s' w.cell) [
      | inl m ↦ rw (m.1.held, m.1.rows) (waits_fit m.1.how k fresh w wake n h s inside free (holds_of k h s w.cell fits) m.0 m.1.may)
      | inr m ↦ rw (m.1.held, m.1.rows) (gets_fit n k w.cell h s (holds_of k h s w.cell fits) fits.idle m.0)
    ]

-- the waiter flags stay where a call is admitted
admitted_flags : (n : LockNature) (k : LockerKind) (h : Holders) (s : Rows) (c : ℕ) → Fits k h s c → Fits k (flagged c s (admitted h n)) s c → Fits k (admitted h n) s c
admitted_flags nature.Read k h s c f g = record { read_flag = f.read_flag; write_flag = f.write_flag; shared = g.shared; one = g.one; locked = g.locked; drained = g.drained; idle = g.idle; still = g.still }
admitted_flags nature.Write k h s c f g = record { read_flag = f.read_flag; write_flag = f.write_flag; shared = g.shared; one = g.one; locked = g.locked; drained = g.drained; idle = g.idle; still = g.still }
admitted_flags nature.None k h s c f g = f

-- a call that is admitted without a look at the rows keeps what fits
pub admitted_fits : (n : LockNature) (k : LockerKind) (h : Holders) → bars h n ≡ false → KeepsFit k h (admitted h n)
admitted_fits n k h free s c fits = admitted_flags n k h s c fits (gets_fit n k c h s (holds_of k h s c fits) fits.idle free)

-- a call that waits without draining may wait so, and the record stays
pub parked_way : (k : LockerKind) (wake : LockNature) (how : How) (fresh : Bool) (n : LockNature) (h : Holders) → ParksBy k wake how → MayWait k fresh wake n h how × (held_waiting how h ≡ h)
parked_way k wake Spin fresh n h may = (may, refl)
parked_way k wake ParkedRead fresh n h may = (may, refl)
parked_way k wake ParkedWrite fresh n h may = (may, refl)
parked_way k wake Drain fresh n h may = absurd may

-- ---- where calls do not park

-- the waiter flags of a cell at which nobody is parked
pub unparked_flags : (c : ℕ) (s : Rows) (h : Holders) → NobodyParked s c → record h { read_waiters = false; write_waiters = false } ≡ flagged c s h
unparked_flags c s h none = rw (none.0, none.1) refl

-- a call that waits where calls do not park is not parked
pub waits_unparked : (how : How) (k : LockerKind) (wake : LockNature) (w : Who) (s : Rows) → ParksBy k wake how → ParkedOnPark k s w.cell → ParkedOnPark k (rows_waiting how w s) w.cell
waits_unparked Spin k wake w s may parked = parked
waits_unparked ParkedRead k wake w s may parked = λ e. let park = may.0 in absurd (cc)
waits_unparked ParkedWrite k wake w s may parked = λ e. let park = may.0 in absurd (cc)
waits_unparked Drain k wake w s may parked = absurd may
