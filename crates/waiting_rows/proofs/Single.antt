-- Each party waits at most once.
use Rattle.waiting_rows.proofs.Words.{◌≡◌, ℕ, ◌+◌, ◌≤◌, List, [], ◌∷◌, refl, arith, cond, None, Some, map, ◌==◌, Option, How, count, Wait, Attempt, wait_of, without_wait}
use Rattle.waiting_rows.proofs.Words.{with_wait, wake_reader, wake_writer, IsSingle}
use Rattle.waiting_rows.proofs.Each.{reader_party, writer_party}

-- a party without a call that waits is in no wait
pub none_counted : (p : ℕ) (ws : List Wait) → wait_of p ws ≡ None → count (λ (w : Wait). w.party == p) ws ≡ 0
none_counted p [] e = refl
none_counted p (w ∷ ws) e = grind (arith, none_counted p ws)

-- a wait less
pub counted_without : (p r : ℕ) (ws : List Wait) → count (λ (w : Wait). w.party == r) (without_wait p ws) ≤ count (λ (w : Wait). w.party == r) ws
counted_without p r [] = omega arith
counted_without p r (w ∷ ws) = grind (arith, counted_without p r ws)

-- a map that keeps the parties
pub counted_map : (f : Wait → Wait) (r : ℕ) (ws : List Wait) → ((w : Wait) → (f w).party ≡ w.party) → count (λ (w : Wait). w.party == r) (map f ws) ≡ count (λ (w : Wait). w.party == r) ws
counted_map f r [] same = refl
counted_map f r (w ∷ ws) same = let e = same w in grind (arith, counted_map f r ws same, e)

-- without a party's wait
pub single_without : (p : ℕ) (ws : List Wait) → IsSingle ws → IsSingle (without_wait p ws)
single_without p ws single = λ r. omega (arith, counted_without p r ws, single r)

-- with the shares of readers
pub single_readers : (c : ℕ) (ws : List Wait) → IsSingle ws → IsSingle (map (wake_reader c) ws)
single_readers c ws single = λ r. omega (arith, counted_map (wake_reader c) r ws (reader_party c), single r)

-- with the share of a writer
pub single_writer : (q : ℕ) (ws : List Wait) → IsSingle ws → IsSingle (map (wake_writer q) ws)
single_writer q ws single = λ r. omega (arith, counted_map (wake_writer q) r ws (writer_party q), single r)

-- with one wait more of a party that has none
pub single_with : (p : ℕ) (way : How) (o : Option Attempt) (ws : List Wait) → wait_of p ws ≡ None → IsSingle ws → IsSingle (with_wait p way o ws)
single_with p way None ws none single = single
single_with p way (Some a) ws none single = λ r. at r (none_counted p ws none) (single r) where
  at : (r : ℕ) → count (λ (w : Wait). w.party == p) ws ≡ 0 → count (λ (w : Wait). w.party == r) ws ≤ 1 → cond (p == r) (count (λ (w : Wait). w.party == r) ws + 1) (count (λ (w : Wait). w.party == r) ws) ≤ 1
  at r zero one = grind arith
