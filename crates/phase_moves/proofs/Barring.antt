-- A locker bars as the rules do, keeps what they keep, and a barred call waits in a way that is due.
use Rattle.phase_moves.proofs.Words.{◌≡◌, ◌==◌, ◌<◌, ◌≤◌, ◌+◌, ◌∙◌, ℕ, List, [], ◌∷◌, refl, arith, Bool, true, false, Some, not, ◌||◌, ◌&&◌, inl, inr, cases_lt, nat_lt}
use Rattle.phase_moves.proofs.Words.{Option, Holders, LockNature, How, LockerKind, bars, Parking, drains, drains_at, row_of, Fits, IsWriteOpen, open_reads, MayWait}
use Rattle.phase_moves.proofs.Words.{keeps as row_keeps, write_has_no_reader, Want, CellPlan, answer_barred, drains_by, way_parked, is_fast, wakes_as, count, Holding}
use Rattle.phase_moves.proofs.Words.{is_barred, keeps_of_holds as keeps, Wait, drains_on, is_drain, shares_read, shares_write, wait_of, IsSingle, Shows, wait_row}
use Rattle.phase_moves.proofs.Words.{claims_shown, count_rows, shares_shown, answer_missed, kind_at, is_quick, Answer}

-- ---- tests of numbers

less : (n : ℕ) → 0 < n → nat_lt 0 n ≡ true
less n lt = grind (arith, lt)

not_less : (n : ℕ) → n ≡ 0 → nat_lt 0 n ≡ false
not_less n e = grind (arith, e)

positive : (n : ℕ) → nat_lt 0 n ≡ true → 0 < n
positive n e = grind (arith, e)

is_zero : (n : ℕ) → n ≡ 0 → (n == 0) ≡ true
is_zero n e = grind (arith, e)

some_not : (n : ℕ) → nat_lt 0 n ≡ not (n == 0)
some_not n = grind arith

read_same : (w d e m : Bool) → (w ≡ true → e ≡ true) → (((w || d) && e) || m) ≡ (w || ((d && e) || m))
read_same w d e m f = grind arith

write_same : (w d z l : Bool) → l ≡ not z → ((w || d) || not z) ≡ (w || (d || l))
write_same w d z l e = grind arith

-- ---- drains

counted : (t u : Wait → Bool) (ws : List Wait) → ((w : Wait) → t w ≡ u w) → count t ws ≡ count u ws
counted t u [] same = refl
counted t u (w ∷ ws) same = let e = same w in let f = counted t u ws same in grind (arith, e, f)

row_drains : (c : ℕ) (w : Wait) → drains_at c (wait_row (Some w)) ≡ drains_on c w
row_drains c w = grind arith

-- the rows of who is parked tell the drains
pub drains_shown : (c : ℕ) (ws : List Wait) (s : Parking) → IsSingle ws → Shows ws s → drains s c ≡ count (drains_on c) ws
drains_shown c ws s single shows = count_rows (drains_at c) ws s.rows refl single shows.row ∙ counted (λ (w : Wait). drains_at c (wait_row (Some w))) (drains_on c) ws (row_drains c)

-- ---- what stands on the cell, by its record and these waits

module _ (k : LockerKind) (h : Holders) (s : Parking) (c reads writes : ℕ) (ws : List Wait) (fits : Fits k h s c) (reads_are : open_reads h s c ≡ reads) (write_is : 0 < writes → IsWriteOpen h s c) (write_was : IsWriteOpen h s c → 0 < writes) (single : IsSingle ws) (shows : Shows ws s) where
  abbrev readers : ℕ
  readers = reads + count (shares_read c) ws

  abbrev writers : ℕ
  writers = writes + count (shares_write c) ws

  abbrev drainers : ℕ
  drainers = count (drains_on c) ws

  -- so many read
  pub readers_same : h.readers ≡ readers
  readers_same = let most = fits.shared in let shown = shares_shown c ws s single shows in omega (arith, reads_are, most, shown)

  -- it is locked for a write or a drain
  pub locked_same : h.locked ≡ (nat_lt 0 writers || nat_lt 0 drainers)
  locked_same = by h.locked refl where
    by : (b : Bool) → h.locked ≡ b → b ≡ (nat_lt 0 writers || nat_lt 0 drainers)
    by false e =
        let none = fits.locked e in let shown = claims_shown c ws s single shows in
        let closed : writes ≡ 0 = elim (cases_lt 0 writes) [ inl lt ↦ (let o = (write_is lt).locked in absurd (cc)) | inr le ↦ omega (arith, le) ] in
        let w = not_less writers (omega (arith, none, shown, closed)) in let d = not_less drainers (omega (arith, none, shown)) in rw (w, d) refl
    by true e = elim (cases_lt 0 writers) [
      | inl lt ↦ (let w = less writers lt in rw w refl)
      | inr le ↦ (let lt : 0 < drainers = drains_then le in let d = less drainers lt in let w = not_less writers (omega (arith, le)) in rw (w, d) refl)
    ] where
      drains_then : writers ≤ 0 → 0 < drainers
      drains_then le = grind (arith, cases_lt, claims_shown)

  -- beside a write nobody reads
  pub unread_written : 0 < writers → readers ≡ 0
  unread_written lt = grind (arith, readers_same, cases_lt, write_has_no_reader, claims_shown, drains_shown)

  -- it bars as the rules do
  pub barred_same : (n : LockNature) → bars h n ≡ is_barred n (record { readers = readers; written = nat_lt 0 writers; drained = nat_lt 0 drainers })
  barred_same n = grind (arith, locked_same, readers_same, read_same, is_zero, unread_written, positive, write_same, some_not) steps 400000

-- ---- what is kept

call_kept : (o : Option Wait) (n : LockNature) (h : Holders) → row_keeps (wait_row o).waiting n h ≡ keeps o n h.readers
call_kept o n h = grind arith

-- what the row of a party says is kept where the rules keep it
pub row_kept : (p : ℕ) (n : LockNature) (ws : List Wait) (s : Parking) (h : Holders) → Shows ws s → row_keeps (row_of s p).waiting n h ≡ keeps (wait_of p ws) n h.readers
row_kept p n ws s h shows = rw (shows.row p) (call_kept (wait_of p ws) n h)

-- ---- ways

-- so is the answer of what waits
pub waits_due : (x : CellPlan) (w : Want) (n : LockNature) (o : Holding) (fresh : Bool) (h : Holders) → is_quick x w ≡ false → h.locked ≡ (o.written || o.drained) → is_barred n o ≡ true → (way : How) → MayWait (kind_at x.place) fresh (wakes_as x.kind w) n h way
    → Answer.Waiting way ≡ answer_barred (is_fast w) x.place (way_parked x.kind w (drains_by n o (is_drain way)))
waits_due x w n o fresh h slow locks is way may = grind arith

-- and of what does not wait
pub misses_due : (x : CellPlan) (w : Want) (way : How) → is_quick x w ≡ true → answer_missed w ≡ answer_barred (is_fast w) x.place way
misses_due x w way quick = grind arith
