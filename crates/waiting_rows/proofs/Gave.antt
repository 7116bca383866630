-- What a gift leaves on its cell: a share, and the drains that were there.
use Rattle.waiting_rows.proofs.Words.{◌≡◌, ◌≢◌, ◌<◌, ◌+◌, ℕ, List, [], ◌∷◌, refl, arith, Bool, true, ◌&&◌, ◌||◌, cond, ◌==◌, map, list_any, Given, count, Wait, wake_writer}
use Rattle.waiting_rows.proofs.Words.{wake_reader, parks_to_read, parks_to_write, shares_read, shares_write, reaches, given_on}

module _ (c : ℕ) where
  -- a call that is parked to write and is given its share, has it
  wakes_writer : (q : ℕ) (w : Wait) → ((w.party == q) && parks_to_write c w) ≡ true → shares_write c (wake_writer q w) ≡ true
  wakes_writer q w e = grind arith

  -- so has one that is parked to read
  wakes_reader : (w : Wait) → parks_to_read c w ≡ true → shares_read c (wake_reader c w) ≡ true
  wakes_reader w e = grind arith

  -- where one passes a test, and so has a share afterwards, a share is counted
  one_shares : (t u : Wait → Bool) (f : Wait → Wait) → ((w : Wait) → t w ≡ true → u (f w) ≡ true) → (ws : List Wait) → list_any t ws ≡ true → 0 < count u (map f ws)
  one_shares t u f has [] e = absurd (cc)
  one_shares t u f has (w ∷ ws) e = by (t w) (u (f w)) (has w) refl e (one_shares t u f has ws) where
    by : (b d : Bool) → (t w ≡ true → d ≡ true) → t w ≡ b → (b || list_any t ws) ≡ true → (list_any t ws ≡ true → 0 < count u (map f ws)) → 0 < cond d (count u (map f ws) + 1) (count u (map f ws))
    by b d k is e rest = grind arith

  -- a gift that reaches those that it is for leaves a share on the cell
  pub gave_share : (g : Given) (ws : List Wait) → reaches c g ws ≡ true → g ≢ Given.Nobody → 0 < count (shares_read c) (given_on c g ws) + count (shares_write c) (given_on c g ws)
  gave_share g ws e some = grind (arith, one_shares, wakes_writer, wakes_reader)
