-- How many waiting calls pass a test, after a wait is taken off or given a share.
use Rattle.waiting_rows.proofs.Words.{◌≡◌, ◌==◌, ℕ, ◌+◌, ◌≤◌, List, [], ◌∷◌, refl, arith, Bool, cond, None, Some, not, map, Option, count, Wait, wait_of, without_wait}
use Rattle.waiting_rows.proofs.Words.{IsSingle}

-- one, where there is such a call
abbrev pub one_of : (Wait → Bool) → Option Wait → ℕ
one_of t None = 0
one_of t (Some w) = cond (t w) 1 0

-- the parties of no wait
pub absent_without : (p : ℕ) (ws : List Wait) → count (λ (w : Wait). w.party == p) ws ≡ 0 → without_wait p ws ≡ ws
absent_without p [] e = refl
absent_without p (w ∷ ws) e = grind (arith, absent_without p ws)

-- a party without a wait: nothing is taken off
pub none_without : (p : ℕ) (ws : List Wait) → wait_of p ws ≡ None → without_wait p ws ≡ ws
none_without p [] e = refl
none_without p (w ∷ ws) e = grind (arith, none_without p ws)

-- one wait less is counted
pub count_once : (t : Wait → Bool) (p : ℕ) (ws : List Wait) → count (λ (w : Wait). w.party == p) ws ≤ 1 → count t ws ≡ count t (without_wait p ws) + one_of t (wait_of p ws)
count_once t p [] one = refl
count_once t p (w ∷ ws) one = by (w.party == p) one (count_once t p ws) (absent_without p ws) where
  by : (b : Bool) → cond b (count (λ (w : Wait). w.party == p) ws + 1) (count (λ (w : Wait). w.party == p) ws) ≤ 1
      → (count (λ (w : Wait). w.party == p) ws ≤ 1 → count t ws ≡ count t (without_wait p ws) + one_of t (wait_of p ws))
      → (count (λ (w : Wait). w.party == p) ws ≡ 0 → without_wait p ws ≡ ws)
      → count t (w ∷ ws) ≡ count t (cond (not b) (w ∷ without_wait p ws) (without_wait p ws)) + one_of t (cond b (Some w) (wait_of p ws))
  by b one rest gone = grind arith

-- the same, where each party waits once at most
pub count_without : (t : Wait → Bool) (p : ℕ) (ws : List Wait) → IsSingle ws → count t ws ≡ count t (without_wait p ws) + one_of t (wait_of p ws)
count_without t p ws single = count_once t p ws (single p)

-- ---- a map

-- what keeps a test keeps its count
pub count_map : (t u : Wait → Bool) (f : Wait → Wait) (ws : List Wait) → ((w : Wait) → t (f w) ≡ u w) → count t (map f ws) ≡ count u ws
count_map t u f [] same = refl
count_map t u f (w ∷ ws) same = λ i. cond (same w i) (count_map t u f ws same i + 1) (count_map t u f ws same i)

-- ---- the share of a writer
