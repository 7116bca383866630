-- What the wait of a party becomes, where the waits change one by one or one more begins.
use Rattle.waiting_rows.proofs.Words.{◌≡◌, ◌≢◌, ℕ, List, [], ◌∷◌, refl, arith, Bool, false, cond, None, Some, ap, map, ◌==◌, Option, How, Wait, Attempt, wait_of, with_wait}
use Rattle.waiting_rows.proofs.Words.{wake_reader, wake_writer}
use Rattle.waiting_rows.proofs.Each.{reader_party, writer_party}

-- a call that waits, changed
abbrev pub changed : (Wait → Wait) → Option Wait → Option Wait
changed f None = None
changed f (Some w) = Some (f w)

-- after a map that keeps the parties
pub wait_map : (f : Wait → Wait) (p : ℕ) (ws : List Wait) → ((w : Wait) → (f w).party ≡ w.party) → wait_of p (map f ws) ≡ changed f (wait_of p ws)
wait_map f p [] same = refl
wait_map f p (w ∷ ws) same = by ((f w).party == p) (w.party == p) (ap (λ q. q == p) (same w)) (wait_map f p ws same) where
  by : (b d : Bool) → b ≡ d → wait_of p (map f ws) ≡ changed f (wait_of p ws) → cond b (Some (f w)) (wait_of p (map f ws)) ≡ changed f (cond d (Some w) (wait_of p ws))
  by b d s e = grind arith

-- after the shares of readers
pub wait_readers : (c p : ℕ) (ws : List Wait) → wait_of p (map (wake_reader c) ws) ≡ changed (wake_reader c) (wait_of p ws)
wait_readers c p ws = wait_map (wake_reader c) p ws (reader_party c)

-- after the share of a writer
pub wait_writer : (q p : ℕ) (ws : List Wait) → wait_of p (map (wake_writer q) ws) ≡ changed (wake_writer q) (wait_of p ws)
wait_writer q p ws = wait_map (wake_writer q) p ws (writer_party q)

-- the new wait of a party
pub wait_added : (p : ℕ) (way : How) (a : Attempt) (ws : List Wait) → wait_of p (with_wait p way (Some a) ws) ≡ Some (record { party = p; cell = a.cell; want = a.want; way = way; woken = false })
wait_added p way a ws = grind arith

-- the waits of others
pub wait_beside : (p r : ℕ) (way : How) (o : Option Attempt) (ws : List Wait) → r ≢ p → wait_of r (with_wait p way o ws) ≡ wait_of r ws
wait_beside p r way o ws ne = grind arith

-- a call that waits is its party's
pub wait_party : (p : ℕ) (ws : List Wait) (w : Wait) → wait_of p ws ≡ Some w → w.party ≡ p
wait_party p [] w e = cc
wait_party p (v ∷ ws) w e = grind (arith, wait_party p ws w)
