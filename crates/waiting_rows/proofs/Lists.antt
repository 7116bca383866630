-- The lists of the parked calls, and how they change.
use Rattle.waiting_rows.proofs.Words.{◌≡◌, ◌≢◌, ◌==◌, ℕ, ◌+◌, ◌<◌, List, [], ◌∷◌, ◌++◌, refl, arith, Bool, true, false, cond, ◌∙◌, ap, sym, not, map, ◌||◌, ◌&&◌, append-nil}
use Rattle.waiting_rows.proofs.Words.{filter-append, list_any, is_empty, occurs, without, occurs-append, Wait, party_if, parks_to_read, parks_to_write, parked_readers}
use Rattle.waiting_rows.proofs.Words.{parked_writers, without_wait, wake_reader, wake_writer}
use Rattle.waiting_rows.proofs.Each.{woken_to_read, reader_party, writer_party, writer_reads}

-- ---- the parties of the calls that pass a test, in order of parking

-- the list that a test gives
abbrev pub listed : (Wait → Bool) → List Wait → List ℕ
listed t [] = []
listed t (w ∷ ws) = listed t ws ++ party_if (t w) w.party

-- the parked readers are such a list
pub listed_readers : (c : ℕ) (ws : List Wait) → parked_readers c ws ≡ listed (parks_to_read c) ws
listed_readers c [] = refl
listed_readers c (w ∷ ws) = ap (λ ps. ps ++ party_if (parks_to_read c w) w.party) (listed_readers c ws)

-- and the parked writers
pub listed_writers : (c : ℕ) (ws : List Wait) → parked_writers c ws ≡ listed (parks_to_write c) ws
listed_writers c [] = refl
listed_writers c (w ∷ ws) = ap (λ ps. ps ++ party_if (parks_to_write c w) w.party) (listed_writers c ws)

-- one party more
pub empty-append : (ps : List ℕ) (b : Bool) (p : ℕ) → (b || not (is_empty ps)) ≡ not (is_empty (ps ++ party_if b p))
empty-append ps b p = grind arith

-- some call passes where the list is not empty
pub any_listed : (t : Wait → Bool) (ws : List Wait) → list_any t ws ≡ not (is_empty (listed t ws))
any_listed t [] = refl
any_listed t (w ∷ ws) = ap (λ b. t w || b) (any_listed t ws) ∙ empty-append (listed t ws) (t w) w.party

-- the flag of readers
pub any_readers : (c : ℕ) (ws : List Wait) → list_any (parks_to_read c) ws ≡ not (is_empty (parked_readers c ws))
any_readers c ws = any_listed (parks_to_read c) ws ∙ ap (λ ps. not (is_empty ps)) (sym (listed_readers c ws))

-- ---- lengths and members

-- a member is the party of a call that passes
pub any_member : (t : Wait → Bool) (q : ℕ) (ws : List Wait) → 0 < occurs q (listed t ws) → list_any (λ w. (w.party == q) && t w) ws ≡ true
any_member t q [] k = absurd (omega (arith, k))
any_member t q (w ∷ ws) k = by (t w) (w.party == q) refl (rw (occurs-append q (listed t ws) (party_if (t w) w.party)) at k) (any_member t q ws) where
  by : (b e : Bool) → (w.party == q) ≡ e → 0 < occurs q (listed t ws) + occurs q (party_if b w.party) → (0 < occurs q (listed t ws) → list_any (λ w. (w.party == q) && t w) ws ≡ true) → ((e && b) || list_any (λ w. (w.party == q) && t w) ws) ≡ true
  by b e s k f = grind arith

-- ---- without the wait of a party

-- the list is that without the party
pub listed_without : (t : Wait → Bool) (p : ℕ) (ws : List Wait) → listed t (without_wait p ws) ≡ without p (listed t ws)
listed_without t p [] = refl
listed_without t p (w ∷ ws) = by (w.party == p) refl (listed_without t p ws) ∙ sym (filter-append (λ q. not (q == p)) (listed t ws) (party_if (t w) w.party)) where
  one : (b e : Bool) → (w.party == p) ≡ e → without p (party_if b w.party) ≡ cond e [] (party_if b w.party)
  one b e s = grind arith

  by : (e : Bool) → (w.party == p) ≡ e → listed t (without_wait p ws) ≡ without p (listed t ws) → listed t (cond (not e) (w ∷ without_wait p ws) (without_wait p ws)) ≡ without p (listed t ws) ++ without p (party_if (t w) w.party)
  by e s ih = grind (arith, one, append-nil)

-- the parked readers
pub readers_without : (c p : ℕ) (ws : List Wait) → parked_readers c (without_wait p ws) ≡ without p (parked_readers c ws)
readers_without c p ws = listed_readers c (without_wait p ws) ∙ listed_without (parks_to_read c) p ws ∙ ap (λ ps. without p ps) (sym (listed_readers c ws))

-- the parked writers
pub writers_without : (c p : ℕ) (ws : List Wait) → parked_writers c (without_wait p ws) ≡ without p (parked_writers c ws)
writers_without c p ws = listed_writers c (without_wait p ws) ∙ listed_without (parks_to_write c) p ws ∙ ap (λ ps. without p ps) (sym (listed_writers c ws))

-- ---- a map that keeps the parties

-- what keeps a test keeps its list
pub listed_map : (t u : Wait → Bool) (f : Wait → Wait) (ws : List Wait) → ((w : Wait) → (f w).party ≡ w.party) → ((w : Wait) → t (f w) ≡ u w) → listed t (map f ws) ≡ listed u ws
listed_map t u f [] party same = refl
listed_map t u f (w ∷ ws) party same = λ i. listed_map t u f ws party same i ++ party_if (same w i) (party w i)

-- a test that none passes gives no list
pub listed_none : (ws : List Wait) → listed (λ w. false) ws ≡ []
listed_none [] = refl
listed_none (w ∷ ws) = ap (λ ps. ps ++ []) (listed_none ws)

-- the readers that are given shares are parked no longer
pub readers_woken : (c : ℕ) (ws : List Wait) → parked_readers c (map (wake_reader c) ws) ≡ []
readers_woken c ws = listed_readers c (map (wake_reader c) ws) ∙ listed_map (parks_to_read c) (λ w. false) (wake_reader c) ws (reader_party c) (λ w. (woken_to_read c w).parked) ∙ listed_none ws

-- those of other cells stay
pub readers_woken_other : (c d : ℕ) (ws : List Wait) → d ≢ c → parked_readers d (map (wake_reader c) ws) ≡ parked_readers d ws
readers_woken_other c d ws ne = listed_readers d (map (wake_reader c) ws) ∙ listed_map (parks_to_read d) (parks_to_read d) (wake_reader c) ws (reader_party c) (λ w. (woken_to_read c w).other_parked d ne) ∙ sym (listed_readers d ws)

-- and the writers
pub writers_beside_readers : (c d : ℕ) (ws : List Wait) → parked_writers d (map (wake_reader c) ws) ≡ parked_writers d ws
writers_beside_readers c d ws = listed_writers d (map (wake_reader c) ws) ∙ listed_map (parks_to_write d) (parks_to_write d) (wake_reader c) ws (reader_party c) (λ w. (woken_to_read c w).write_parked d) ∙ sym (listed_writers d ws)

-- a writer's share leaves the parked readers
pub readers_beside_writer : (q d : ℕ) (ws : List Wait) → parked_readers d (map (wake_writer q) ws) ≡ parked_readers d ws
readers_beside_writer q d ws = listed_readers d (map (wake_writer q) ws) ∙ listed_map (parks_to_read d) (parks_to_read d) (wake_writer q) ws (writer_party q) (λ w. writer_reads d q w) ∙ sym (listed_readers d ws)

-- and takes the writer from its list
pub writer_woken : (q c : ℕ) (ws : List Wait) → parked_writers c (map (wake_writer q) ws) ≡ without q (parked_writers c ws)
writer_woken q c [] = refl
writer_woken q c (w ∷ ws) = (λ i. writer_woken q c ws i ++ one i) ∙ sym (filter-append (λ p. not (p == q)) (parked_writers c ws) (party_if (parks_to_write c w) w.party)) where
  by : (e b : Bool) → (w.party == q) ≡ e → parks_to_write c w ≡ b → party_if (parks_to_write c (wake_writer q w)) (wake_writer q w).party ≡ without q (party_if b w.party)
  by e b s k = grind arith

  one : party_if (parks_to_write c (wake_writer q w)) (wake_writer q w).party ≡ without q (party_if (parks_to_write c w) w.party)
  one = by (w.party == q) (parks_to_write c w) refl refl
