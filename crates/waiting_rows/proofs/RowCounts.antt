-- How many rows have a share or a claim of a cell is how many waiting calls have it; and which holds are open then.
use Rattle.waiting_rows.proofs.Words.{◌≡◌, ◌≢◌, ◌==◌, ℕ, ◌+◌, ◌<◌, ◌≤◌, List, [], ◌∷◌, length, refl, arith, Bool, false, cond, None, Some, ◌∙◌, ap, sym, inl, inr, get_or, set}
use Rattle.waiting_rows.proofs.Words.{get_or_past, cases_lt, count_by, How, Row, Rows, row_of, free_row, shares_at, claims_at, shares, claims, HasFree, count, Wait, wait_of}
use Rattle.waiting_rows.proofs.Words.{shares_read, shares_write, drains_on, none_found, Shows, IsSingle, waiting_of, wait_row, Waiting}
use Rattle.waiting_rows.proofs.{Slots.set_shows, Passing.count_set, Passing.count_before, Passing.count_free, Passing.count_test}

-- ---- a party that does not wait has a free row, and no other

-- a waiting call has no free row
pub never_free : (way : How) (woken : Bool) → waiting_of way woken ≡ Waiting.Free → ⊥
never_free way woken e = grind arith

-- a party that does not wait
pub row_free : (p : ℕ) (ws : List Wait) (s : Rows) → Shows ws s → wait_of p ws ≡ None → row_of s p ≡ free_row
row_free p ws s shows none = shows.row p ∙ ap wait_row none

-- it has a free row
pub free_party : (p : ℕ) (ws : List Wait) (s : Rows) → Shows ws s → wait_of p ws ≡ None → p < length s.rows → HasFree s
free_party p ws s shows none lt = record { party = p; inside = lt; free = ap (λ (r : Row). r.waiting) (row_free p ws s shows none) }

-- a party whose call waits has a row
pub waits_inside : (p : ℕ) (rows : List Row) (w : Wait) → get_or rows p free_row ≡ wait_row (Some w) → p < length rows
waits_inside p rows w e = grind (arith, cases_lt, never_free, get_or_past)

-- ---- counts

-- as many rows pass as waiting calls
pub count_rows : (f : Row → Bool) (ws : List Wait) (rows : List Row) → f free_row ≡ false → IsSingle ws → ((p : ℕ) → get_or rows p free_row ≡ wait_row (wait_of p ws)) → count_by f rows ≡ count (λ (w : Wait). f (wait_row (Some w))) ws
count_rows f [] rows fails single all = count_free free_row f rows fails all
count_rows f (w ∷ ws) rows fails single all =
    let here : get_or rows w.party free_row ≡ wait_row (Some w) = all w.party ∙ ap wait_row (found w ws) in
    let inside : w.party < length rows = waits_inside w.party rows w here in
    let rest = count_rows f ws (set rows w.party free_row) fails (λ r. tail r (single r)) (set_shows rows w.party free_row free_row (λ p. wait_row (wait_of p (w ∷ ws))) (λ p. wait_row (wait_of p ws)) all (λ p ne. ap wait_row (beside w ws p ne)) inside (sym (ap wait_row (none_found (λ (v : Wait). v.party == w.party) ws (alone w ws (single w.party)))))) in
    let one = rw (here, fails) at (count_set f rows w.party free_row free_row inside) in
    count_before (f (wait_row (Some w))) _ _ _ rest one where
      found : (w : Wait) (ws : List Wait) → wait_of w.party (w ∷ ws) ≡ Some w
      found w ws = grind arith

      tail : (r : ℕ) → count (λ (v : Wait). v.party == r) (w ∷ ws) ≤ 1 → count (λ (v : Wait). v.party == r) ws ≤ 1
      tail r k = grind arith

      alone : (w : Wait) (ws : List Wait) → count (λ (v : Wait). v.party == w.party) (w ∷ ws) ≤ 1 → count (λ (v : Wait). v.party == w.party) ws ≡ 0
      alone w ws k = grind (arith, k)

      beside : (w : Wait) (ws : List Wait) (p : ℕ) → p ≢ w.party → wait_of p ws ≡ wait_of p (w ∷ ws)
      beside w ws p ne = grind (arith, ne)

-- what the row of a call says
pub row_shares : (c : ℕ) (w : Wait) → shares_at c (wait_row (Some w)) ≡ shares_read c w
row_shares c w = grind arith

pub row_claims : (c : ℕ) (w : Wait) → cond {A = ℕ} (claims_at c (wait_row (Some w))) 1 0 ≡ cond {A = ℕ} (shares_write c w) 1 0 + cond {A = ℕ} (drains_on c w) 1 0
row_claims c w = grind arith

module _ (c : ℕ) (ws : List Wait) (s : Rows) (single : IsSingle ws) (shows : Shows ws s) where
  -- read shares
  pub shares_shown : shares s c ≡ count (shares_read c) ws
  shares_shown = count_rows (shares_at c) ws s.rows refl single shows.row ∙ count_test (λ (w : Wait). shares_at c (wait_row (Some w))) (shares_read c) ws (row_shares c)

  -- claims: write shares and drains
  pub claims_shown : claims s c ≡ count (shares_write c) ws + count (drains_on c) ws
  claims_shown = count_rows (claims_at c) ws s.rows refl single shows.row ∙ both ws where
    add : (a b d : Bool) (n m k : ℕ) → cond {A = ℕ} a 1 0 ≡ cond {A = ℕ} b 1 0 + cond {A = ℕ} d 1 0 → n ≡ m + k → cond a (n + 1) n ≡ cond b (m + 1) m + cond d (k + 1) k
    add a b d n m k e f = grind arith

    both : (vs : List Wait) → count (λ (w : Wait). claims_at c (wait_row (Some w))) vs ≡ count (shares_write c) vs + count (drains_on c) vs
    both [] = refl
    both (w ∷ vs) = add (claims_at c (wait_row (Some w))) (shares_write c w) (drains_on c w) _ _ _ (row_claims c w) (both vs)
