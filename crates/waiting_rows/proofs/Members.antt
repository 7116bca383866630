-- Who is in the lists of parked calls, where each party waits at most once.
use Rattle.waiting_rows.proofs.Words.{◌≡◌, ◌==◌, ℕ, ◌+◌, ◌≤◌, List, [], ◌∷◌, refl, arith, Bool, cond, None, Some, ◌∙◌, occurs, occurs-append, count, Wait, party_if}
use Rattle.waiting_rows.proofs.Words.{parks_to_read, parks_to_write, parked_readers, parked_writers, wait_of, none_found, IsSingle}
use Rattle.waiting_rows.proofs.{Lists.listed, Lists.listed_readers, Lists.listed_writers, Counted.one_of}

-- a party is in a list as often as it has a call that passes
pub occurs_listed : (t : Wait → Bool) (q : ℕ) (ws : List Wait) → count (λ (w : Wait). w.party == q) ws ≤ 1 → occurs q (listed t ws) ≡ one_of t (wait_of q ws)
occurs_listed t q [] one = refl
occurs_listed t q (w ∷ ws) one = occurs-append q (listed t ws) (party_if (t w) w.party) ∙ by (w.party == q) (t w) refl refl one (occurs_listed t q ws) (none_found (λ (w : Wait). w.party == q) ws) where
  by : (e b : Bool) → (w.party == q) ≡ e → t w ≡ b → cond e (count (λ (w : Wait). w.party == q) ws + 1) (count (λ (w : Wait). w.party == q) ws) ≤ 1
      → (count (λ (w : Wait). w.party == q) ws ≤ 1 → occurs q (listed t ws) ≡ one_of t (wait_of q ws))
      → (count (λ (w : Wait). w.party == q) ws ≡ 0 → wait_of q ws ≡ None)
      → occurs q (listed t ws) + occurs q (party_if b w.party) ≡ one_of t (cond e (Some w) (wait_of q ws))
  by e b s k one rest none = grind arith

-- the parked readers
pub occurs_readers : (c q : ℕ) (ws : List Wait) → IsSingle ws → occurs q (parked_readers c ws) ≡ one_of (parks_to_read c) (wait_of q ws)
occurs_readers c q ws single = rw (listed_readers c ws) (occurs_listed (parks_to_read c) q ws (single q))

-- the parked writers
pub occurs_writers : (c q : ℕ) (ws : List Wait) → IsSingle ws → occurs q (parked_writers c ws) ≡ one_of (parks_to_write c) (wait_of q ws)
occurs_writers c q ws single = rw (listed_writers c ws) (occurs_listed (parks_to_write c) q ws (single q))
