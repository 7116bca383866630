-- The calls wait at known cells, whatever happens to them; and where nobody waits, new rows show it.
use Rattle.waiting_rows.proofs.Words.{suc, ◌≡◌, ◌≢◌, ℕ, ◌<◌, List, [], refl, None, Some, ◌∙◌, sym, subst, map, inl, inr, false, ◌⊎◌, replicate, slice_index_or, cases_eq}
use Rattle.waiting_rows.proofs.Words.{Option, How, no_rows, at_free, Wait, Attempt, wait_of, without_wait, with_wait, wake_reader, wake_writer, wait_removed, wait_kept, Shows}
use Rattle.waiting_rows.proofs.Words.{AreWithin}
use Rattle.waiting_rows.proofs.{Each.reader_party, Each.reader_cell, Each.writer_party, Each.writer_cell, Finding.changed, Finding.wait_map, Finding.wait_added}
use Rattle.waiting_rows.proofs.Finding.{wait_beside}

-- without a party's wait
pub within_without : (n p : ℕ) (ws : List Wait) → AreWithin n ws → AreWithin n (without_wait p ws)
within_without n p ws all = λ r w e. by r w (cases_eq r p) e where
  none : (w : Wait) (r : ℕ) → r ≡ p → wait_of r (without_wait p ws) ≡ Some w → ⊥
  none w r q e = let gone : wait_of p (without_wait p ws) ≡ None = wait_removed p ws in let there : wait_of p (without_wait p ws) ≡ Some w = subst (λ (j : ℕ). wait_of j (without_wait p ws) ≡ Some w) q e in cc

  by : (r : ℕ) (w : Wait) → (r ≡ p) ⊎ (r ≢ p) → wait_of r (without_wait p ws) ≡ Some w → w.cell < n
  by r w (inl q) e = absurd (none w r q e)
  by r w (inr ne) e = all r w (sym (wait_kept p r ws ne) ∙ e)

-- with what keeps parties and cells
pub within_map : (n : ℕ) (f : Wait → Wait) (ws : List Wait) → ((w : Wait) → (f w).party ≡ w.party) → ((w : Wait) → (f w).cell ≡ w.cell) → AreWithin n ws → AreWithin n (map f ws)
within_map n f ws party cell all = λ r w e. by r w (wait_of r ws) refl (sym (wait_map f r ws party) ∙ e) where
  same : (v w : Wait) → Some (f v) ≡ Some w → v.cell < n → w.cell < n
  same v w e k = let s : f v ≡ w = cc in subst (λ (u : Wait). u.cell < n) s (rw (cell v) k)

  by : (r : ℕ) (w : Wait) (o : Option Wait) → wait_of r ws ≡ o → changed f o ≡ Some w → w.cell < n
  by r w None q e = absurd (cc)
  by r w (Some v) q e = same v w e (all r v q)

-- with the shares of readers
pub within_readers : (n c : ℕ) (ws : List Wait) → AreWithin n ws → AreWithin n (map (wake_reader c) ws)
within_readers n c ws all = within_map n (wake_reader c) ws (reader_party c) (reader_cell c) all

-- with the share of a writer
pub within_writer : (n q : ℕ) (ws : List Wait) → AreWithin n ws → AreWithin n (map (wake_writer q) ws)
within_writer n q ws all = within_map n (wake_writer q) ws (writer_party q) (writer_cell q) all

-- with a wait more, at a known cell
pub within_with : (n p : ℕ) (way : How) (a : Attempt) (ws : List Wait) → a.cell < n → AreWithin n ws → AreWithin n (with_wait p way (Some a) ws)
within_with n p way a ws known all = λ r w e. by r w (cases_eq r p) e where
  new : (w : Wait) → wait_of p (with_wait p way (Some a) ws) ≡ Some w → w.cell < n
  new w e = let there = wait_added p way a ws in let s : w ≡ record { party = p; cell = a.cell; want = a.want; way = way; woken = false } = cc in rw s known

  by : (r : ℕ) (w : Wait) → (r ≡ p) ⊎ (r ≢ p) → wait_of r (with_wait p way (Some a) ws) ≡ Some w → w.cell < n
  by r w (inl q) e = new w (subst (λ (j : ℕ). wait_of j (with_wait p way (Some a) ws) ≡ Some w) q e)
  by r w (inr ne) e = all r w (sym (wait_beside p r way (Some a) ws ne) ∙ e)

-- a list of no party
abbrev no_parties : List ℕ
no_parties = []

-- a new list is empty
no_list : (n c : ℕ) → slice_index_or (replicate n no_parties) c no_parties ≡ no_parties
no_list (suc n) (suc c) = no_list n c
no_list _ _ = refl

-- the rows of which nobody waits show that nobody waits
pub shows_fresh : (cells parties : ℕ) → Shows [] (no_rows cells parties)
shows_fresh cells parties = record { row = λ p. at_free parties p; readers = λ c. no_list cells c; writers = λ c. no_list cells c }
