-- How many calls and turns wait at a cell.
use Rattle.phase_moves.proofs.Words.{◌∷◌, ◌≡◌, ◌≢◌, ◌==◌, ◌<◌, ◌≤◌, ◌+◌, ◌∙◌, ℕ, List, length, refl, arith, Bool, true, false, None, Some, count_by-le-length, MatchBool}
use Rattle.phase_moves.proofs.Words.{if◌then◌else◌, is_some, Option, Given, Row, Waiting, Parking, Parking as Rows, row_of, free_row, readers_of, occurs, shared, reads_at}
use Rattle.phase_moves.proofs.Words.{shares_at, IsSound, HasFree, count, Wait, wait_of, waits_at, without_wait, given_on, IsSingle, Shows, wait_row, count_map, count_without}
use Rattle.phase_moves.proofs.Words.{one_of, count_test, count_rows, target_of, WaitsAt, waiting_with, get_or, set, length-set, count-set, shares-shared, share_is, free_is}
use Rattle.phase_moves.proofs.Words.{all_read, length-shared, row-shared_other, most_readers}

-- ---- a gift leaves it

pub count_given : (d c : ℕ) (g : Given) (ws : List Wait) → count (waits_at d) (given_on c g ws) ≡ count (waits_at d) ws
count_given d c g ws = grind (arith, count_map)

-- ---- there are not more than parties

abbrev waits_so : Waiting → Bool
waits_so Waiting.Free = false
waits_so _ = true

abbrev stands_at : ℕ → Row → Bool
stands_at c r = if waits_so r.waiting then r.cell == c else false

row_waits : (c : ℕ) (w : Wait) → stands_at c (wait_row (Some w)) ≡ waits_at c w
row_waits c w = grind arith

pub few_wait : (c : ℕ) (ws : List Wait) (s : Parking) → IsSingle ws → Shows ws s → count (waits_at c) ws ≤ length s.rows
few_wait c ws s single shows =
    let all = count_rows (stands_at c) ws s.rows refl single shows.row ∙ count_test (λ (w : Wait). stands_at c (wait_row (Some w))) (waits_at c) ws (row_waits c) in
    let most = count_by-le-length (stands_at c) s.rows in omega (arith, all, most)

-- ---- one more waits, at its cell and at no other

pub count_one_more : (w : Wait) (ws : List Wait) → count (waits_at w.cell) (w ∷ ws) ≡ count (waits_at w.cell) ws + 1
count_one_more w ws = let q : (w.cell == w.cell) ≡ true = grind arith in rw q refl

pub count_elsewhere : (d : ℕ) (w : Wait) (ws : List Wait) → d ≢ w.cell → count (waits_at d) (w ∷ ws) ≡ count (waits_at d) ws
count_elsewhere d w ws ne = let q : (w.cell == d) ≡ false = grind (arith, ne) in rw q refl

-- ---- an attempt at a cell, of a party that waits there or nowhere

pub waited_here : (waits : Bool) (c : ℕ) (o : Option Wait) → MatchBool waits (WaitsAt c o) (o ≡ None) → (w : Wait) → o ≡ Some w → w.cell ≡ c
waited_here waits c o k w e = grind arith

module _ (p c : ℕ) (ws : List Wait) (single : IsSingle ws) (g : Given) (at : (w : Wait) → wait_of p ws ≡ Some w → w.cell ≡ c) where
  -- at another cell as many wait
  pub count_beside : (d : ℕ) → d ≢ c → count (waits_at d) (given_on c g (without_wait p ws)) ≡ count (waits_at d) ws
  count_beside d ne = grind (arith, count_given, count_without, one_of)

  -- and here one less, where the party waited
  pub count_here : count (waits_at c) ws ≡ count (waits_at c) (given_on c g (without_wait p ws)) + (if is_some (target_of (wait_of p ws)) then 1 else 0)
  count_here =
      let less = count_without (waits_at c) p ws single in let same = count_given c c g (without_wait p ws) in let one = by (wait_of p ws) refl in
      omega (arith, less, same, one) where
        by : (o : Option Wait) → wait_of p ws ≡ o → one_of (waits_at c) o ≡ (if is_some (target_of o) then 1 else 0)
        by o e = grind arith

-- so it is counted
counted_with : (was is : Bool) (n k : ℕ) → n ≡ k + (if was then 1 else 0) → waiting_with was is n ≡ k + (if is then 1 else 0)
counted_with was is n k e = grind arith

pub counted_less : (was : Bool) (n k : ℕ) → n ≡ k + (if was then 1 else 0) → waiting_with was false n ≡ k
counted_less was n k e = let all = counted_with was false n k e in omega (arith, all)

pub counted_more : (was : Bool) (n k : ℕ) → n ≡ k + (if was then 1 else 0) → waiting_with was true n ≡ k + 1
counted_more was n k e = let all = counted_with was true n k e in omega (arith, all)

-- one that waited is counted
pub some_counted : (was : Bool) (n k : ℕ) → n ≡ k + (if was then 1 else 0) → was ≡ true → 0 < n
some_counted was n k e f = grind arith

-- ---- the parked readers of a cell are not too many, and leave room for one more where a party does not wait

module _ (c : ℕ) (s : Rows) (inside : c < length s.readers) (sound : IsSound s) where
  -- the parked readers of a cell are parties
  few_parked : length (readers_of s c) ≤ length s.rows
  few_parked =
      let all = shares-shared c (readers_of s c) s.rows (all_read c s inside sound) in let size = length-shared c (readers_of s c) s.rows in
      let most = count_by-le-length (shares_at c) (shared c (readers_of s c) s.rows) in omega (arith, all, size, most)

  reads_no : (r : Row) → r.waiting ≡ Waiting.Free → reads_at c r ≡ false
  reads_no r e = rw e refl

  -- and one more party does not wait
  fewer_parked : HasFree s → length (readers_of s c) < length s.rows
  fewer_parked f =
      let all = shares-shared c (readers_of s c) s.rows (all_read c s inside sound) in let size = length-shared c (readers_of s c) s.rows in
      let none : occurs f.party (readers_of s c) ≡ 0 = rw (reads_no (row_of s f.party) f.free) at (sound.readers c f.party inside) in
      let there : get_or (shared c (readers_of s c) s.rows) f.party free_row ≡ row_of s f.party = row-shared_other c (readers_of s c) s.rows f.party none in
      let free = (free_is c (row_of s f.party) f.free).0 in
      let set_one = rw (there, free, share_is c) at (count-set (shares_at c) (shared c (readers_of s c) s.rows) f.party (record { waiting = Waiting.ShareRead; cell = c }) (omega (arith, size, f.inside))) in
      let most = count_by-le-length (shares_at c) (set (shared c (readers_of s c) s.rows) f.party (record { waiting = Waiting.ShareRead; cell = c })) in
      let same = length-set (shared c (readers_of s c) s.rows) f.party (record { waiting = Waiting.ShareRead; cell = c }) in omega (arith, all, size, most, set_one, same)

  -- so they are within the limit
  pub few_readers : length (readers_of s c) ≤ most_readers
  few_readers = let few : _ = few_parked in let most : _ = sound.few in omega (arith, few, most)

  -- and leave room for one reader more
  pub fewer_readers : HasFree s → 1 + length (readers_of s c) ≤ most_readers
  fewer_readers f = let few : _ = fewer_parked f in let most : _ = sound.few in omega (arith, few, most)
