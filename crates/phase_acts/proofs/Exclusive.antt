-- The holds of a cell exclude each other, where rows stand for what stands open.
use Rattle.phase_acts.proofs.Words.{[], ◌+◌, ◌<◌, ◌==◌, ◌∙◌, ◌∷◌, ◌≡◌, ◌≤◌, AreInside, arith, Bool, CellPlan, CellRow, claims, claims_shown, count, count_rows, drains, drains_at}
use Rattle.phase_acts.proofs.Words.{drains_on, Event, false, found_passes, Guard, Holders, How, if◌then◌else◌, inl, inr, is_drain, is_read_share, is_write_share, IsExclusive}
use Rattle.phase_acts.proofs.Words.{IsLocked, length, List, LockerKind, most_readers, None, Option, reads_cell, reads_in, refl, Rows, runs_in, Section, shares_read, shares_shown}
use Rattle.phase_acts.proofs.Words.{shares_write, slice_get, Some, Standing, standing, Stands, true, Wait, Want, writes_cell, writes_in, ℕ}
use Rattle.std.proofs.lemmas.Bool.{true_from_ne_false}
use Rattle.schedule_rules.proofs.Found.{none_counted, only_one}
use Rattle.std.proofs.lemmas.Option.{slice_get_cases}
use Rattle.std.specs.List.{find}
use Rattle.phase_locker.specs.declared.ways.How.TheVariants as how
use Rattle.phase_locker.specs.Rows.{Rows as Parking}
use Rattle.phase_locker.proofs.Leaving.{write_has_no_reader}
use Rattle.waiting_rows.specs.Shown.{Shows, IsSingle, wait_row}
use Rattle.waiting_rows.proofs.Passing.{count_test}

-- what stands on a cell excludes each other
pub record Excludes (m : Standing) (c : ℕ) : Type 0 where
  pub one_writer : writes_in c m + count (shares_write c) m.waits ≤ 1
  pub no_reader : 0 < writes_in c m + count (shares_write c) m.waits → reads_in c m + count (shares_read c) m.waits ≡ 0
  pub no_drain : 0 < writes_in c m + count (shares_write c) m.waits → count (drains_on c) m.waits ≡ 0
  pub limit : reads_in c m + count (shares_read c) m.waits ≤ most_readers

-- what can be found by its number is on a known cell: nothing passes a test of a cell beyond
none_beyond : {X : Type 0} (number cell : X → ℕ) (n c : ℕ) (f : X → Bool) (xs : List X) → ((x : X) → f x ≡ true → cell x ≡ c) → n ≤ c → ((g : ℕ) → count (λ x. number x == g) xs ≤ 1) → ((g : ℕ) (x : X) → find (λ x. number x == g) xs ≡ Some x → cell x < n) → count f xs ≡ 0
none_beyond {X = X} number cell n c f xs at beyond once inside = none_counted f xs (by (find f xs) refl)
  where
    by : (o : Option X) → find f xs ≡ o → find f xs ≡ None
    by None e = e
    by (Some x) e =
        let same : (number x == number x) ≡ true = grind arith in
        let q = at x (found_passes f xs x e) in
        let lt = inside (number x) x (only_one f (λ y. number y == number x) xs x e same (once (number x))) in
        absurd (omega (arith, q, beyond, lt))

-- what passes a test of a cell is there
if_at : (b : Bool) (d c : ℕ) → (if b then (d == c) else false) ≡ true → d ≡ c
if_at true d c e = grind (arith, e)
if_at false d c e = absurd (cc)

reader_at : (c : ℕ) (x : Guard) → reads_cell c x ≡ true → x.cell ≡ c
reader_at c x e = by x.writes e
  where
    by : (b : Bool) → (if b then false else (x.cell == c)) ≡ true → x.cell ≡ c
    by true e = absurd (cc)
    by false e = grind (arith, e)

-- sections are in known cells
no_run_beyond : (n c : ℕ) (ss : List Section) → n ≤ c → AreInside n ss → count (runs_in c) ss ≡ 0
no_run_beyond n c [] beyond inside = refl
no_run_beyond n c (s ∷ ss) beyond inside =
    let lt = inside.0 in
    let e : (s.cell == c) ≡ false = grind (arith, lt, beyond) in
    rw e (no_run_beyond n c ss beyond inside.1)

-- ---- a cell of the plan

-- what the row of a call says of a drain
row_drains : (c : ℕ) (w : Wait) → drains_at c (wait_row (Some w)) ≡ drains_on c w
row_drains c w = by w.party w.cell w.want w.way w.woken
  where
    by : (p x : ℕ) (want : Want) (way : How) (woken : Bool) → drains_at c (wait_row (Some (record { party = p; cell = x; want = want; way = way; woken = woken }))) ≡ drains_on c (record { party = p; cell = x; want = want; way = way; woken = woken })
    by p x want how.ParkedRead true = refl
    by p x want how.ParkedWrite true = refl
    by p x want way woken = refl

module _ (c : ℕ) (ws : List Wait) (s : Parking) (single : IsSingle ws) (shows : Shows ws s) where
  pub drains_shown : drains s c ≡ count (drains_on c) ws
  drains_shown = count_rows (drains_at c) ws s.rows refl single shows.row ∙ count_test (λ (w : Wait). drains_at c (wait_row (Some w))) (drains_on c) ws (row_drains c)

  -- a claim locks the record, and a write hold has no claim beside it; where either stands, readers drain
  pub stand_apart : (k : LockerKind) (h : Holders) (r w p : ℕ) → IsLocked k h s c r w p → (w + count (shares_write c) ws ≤ 1) × (0 < w + count (shares_write c) ws → r + count (shares_read c) ws ≡ 0) × (0 < w + count (shares_write c) ws → count (drains_on c) ws ≡ 0) × (r + count (shares_read c) ws ≤ most_readers)
  stand_apart k h r w p l =
      let claimed = claims_shown c ws s single shows in
      let drained = drains_shown in
      let shared = shares_shown c ws s single shows in
      let one = l.fits.one in
      let writes = l.one in
      let most = l.limit in
      let few = l.fits.shared in
      let reads = l.reads_are in
      let unclaimed : 0 < w → claims s c ≡ 0 = λ lt. (l.write_is lt).unclaimed in
      let unread : 0 < w → h.readers ≡ 0 = λ lt. write_has_no_reader k h s c l.fits (l.write_is lt) in
      let locks : 0 < claims s c → h.locked ≡ true = λ lt. true_from_ne_false h.locked (λ e. (let none = l.fits.locked e in absurd (omega (arith, none, lt)))) in
      let drain : 0 < claims s c → 0 < h.readers → 0 < drains s c = λ lt some. (let d = l.fits.drained (locks lt) some in omega (arith, d)) in
      (grind arith, λ lt. grind arith, λ lt. grind arith, grind arith)

module _ {L : Type 0} (held : L → Holders) (place : L → LockerKind) (hand : ℕ) (m : Standing) (v : Rows L) (t : Stands held place hand m v) (c : ℕ) where
  known : (row : CellRow L) → slice_get v.cells.items c ≡ Some row → Excludes m c
  known row row_is =
      let all = stand_apart c m.waits v.parks t.waits.single t.waits.shows _ _ _ _ _ (t.cell c row row_is).locked in
      record { one_writer = all.0; no_reader = all.1; no_drain = all.2; limit = all.3 }

  no_guard : (f : Guard → Bool) → ((x : Guard) → f x ≡ true → x.cell ≡ c) → length v.cells.items ≤ c → count f m.guards ≡ 0
  no_guard f at le = none_beyond (λ (x : Guard). x.number) (λ x. x.cell) (length v.cells.items) c f m.guards at le t.guards.once t.guards.in_cells

  no_wait : (f : Wait → Bool) → ((x : Wait) → f x ≡ true → x.cell ≡ c) → length v.cells.items ≤ c → count f m.waits ≡ 0
  no_wait f at le = none_beyond (λ (x : Wait). x.party) (λ x. x.cell) (length v.cells.items) c f m.waits at le t.waits.single t.waits.within

  beyond : length v.cells.items ≤ c → Excludes m c
  beyond le =
      let reads = no_guard (reads_cell c) (λ x. reader_at c x) le in
      let writes = no_guard (writes_cell c) (λ x. if_at x.writes x.cell c) le in
      let runs = no_run_beyond (length v.cells.items) c m.sections le t.sections in
      let shared = no_wait (shares_read c) (λ x. if_at (is_read_share x.way x.woken) x.cell c) le in
      let claimed = no_wait (shares_write c) (λ x. if_at (is_write_share x.way x.woken) x.cell c) le in
      let drained = no_wait (drains_on c) (λ x. if_at (is_drain x.way) x.cell c) le in
      record {
        one_writer = omega (arith, writes, runs, claimed);
        no_reader = λ some. omega (arith, reads, shared);
        no_drain = λ some. drained;
        limit = omega (arith, reads, shared);
      }

  -- so it is with every cell
  pub excludes : Excludes m c
  excludes =
      elim ((slice_get_cases v.cells.items c).1) [
        | inl k ↦ known k.0 k.2
        | inr k ↦ beyond k.0
      ]

-- in the words of histories
pub exclusive : {L : Type 0} (held : L → Holders) (place : L → LockerKind) (hand : ℕ) (cells : List CellPlan) (h : List Event) (v : Rows L) → Stands held place hand (standing cells h) v → (c : ℕ) → IsExclusive cells h c
exclusive held place hand cells h v t c =
    let k = excludes held place hand (standing cells h) v t c in
    record { one_writer = k.one_writer; no_reader = k.no_reader; no_drain = k.no_drain; limit = k.limit }
