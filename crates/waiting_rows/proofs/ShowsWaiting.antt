-- The rows show who waits after a call began to wait.
use Rattle.waiting_rows.proofs.Words.{◌≡◌, ℕ, ◌<◌, List, [], ◌∷◌, ◌++◌, length, refl, true, false, Some, ◌∙◌, ap, sym, subst, slice_set, How, Who, Rows, row_of, free_row}
use Rattle.waiting_rows.proofs.Words.{readers_of, writers_of, rows_waiting, Wait, Attempt, wait_of, with_wait, parked_readers, parked_writers, Shows, wait_row, waiting_of}
use Rattle.waiting_rows.proofs.Added.{reader_parked, writer_parked, readers_added_none, writers_added_none, not_there}
use Rattle.waiting_rows.proofs.{Finding.wait_added, Finding.wait_beside, Slots.set_shows}

-- the row of the call that began to wait, and those of others
pub row_added : (p : ℕ) (way : How) (a : Attempt) (ws : List Wait) (s : Rows) → Shows ws s → p < length s.rows → (q : ℕ) → row_of (record s { rows = slice_set s.rows p (record { waiting = waiting_of way false; cell = a.cell }) }) q ≡ wait_row (wait_of q (with_wait p way (Some a) ws))
row_added p way a ws s shows inside q =
    set_shows s.rows p (record { waiting = waiting_of way false; cell = a.cell }) free_row (λ q. wait_row (wait_of q ws)) (λ q. wait_row (wait_of q (with_wait p way (Some a) ws))) shows.row (λ q ne. ap wait_row (wait_beside p q way (Some a) ws ne)) inside (sym (ap wait_row (wait_added p way a ws))) q

-- a call began to wait
pub shows_waiting : (p : ℕ) (way : How) (a : Attempt) (ws : List Wait) (s : Rows) → Shows ws s → p < length s.rows → a.cell < length s.readers → a.cell < length s.writers → Shows (with_wait p way (Some a) ws) (rows_waiting way (record { cell = a.cell; party = p }) s)
shows_waiting p How.Spin a ws s shows inside in_readers in_writers = record {
  row = row_added p How.Spin a ws s shows inside;
  readers = λ d. shows.readers d ∙ sym (readers_added_none d p How.Spin a ws refl);
  writers = λ d. shows.writers d ∙ sym (writers_added_none d p How.Spin a ws refl);
}
shows_waiting p How.Drain a ws s shows inside in_readers in_writers = record {
  row = row_added p How.Drain a ws s shows inside;
  readers = λ d. shows.readers d ∙ sym (readers_added_none d p How.Drain a ws refl);
  writers = λ d. shows.writers d ∙ sym (writers_added_none d p How.Drain a ws refl);
}
shows_waiting p How.ParkedRead a ws s shows inside in_readers in_writers = record {
  row = row_added p How.ParkedRead a ws s shows inside;
  readers = λ d. set_shows s.readers a.cell (readers_of s a.cell ++ p ∷ []) [] (λ d. parked_readers d ws) (λ d. parked_readers d (with_wait p How.ParkedRead (Some a) ws)) shows.readers
      (λ d ne. readers_added_none d p How.ParkedRead a ws (not_there true a.cell d (λ e. ne (sym e)))) in_readers
      (ap (λ ps. ps ++ p ∷ []) (shows.readers a.cell) ∙ sym (reader_parked p a ws)) d;
  writers = λ d. shows.writers d ∙ sym (writers_added_none d p How.ParkedRead a ws refl);
}
shows_waiting p How.ParkedWrite a ws s shows inside in_readers in_writers = record {
  row = row_added p How.ParkedWrite a ws s shows inside;
  readers = λ d. shows.readers d ∙ sym (readers_added_none d p How.ParkedWrite a ws refl);
  writers = λ d. set_shows s.writers a.cell (writers_of s a.cell ++ p ∷ []) [] (λ d. parked_writers d ws) (λ d. parked_writers d (with_wait p How.ParkedWrite (Some a) ws)) shows.writers
      (λ d ne. writers_added_none d p How.ParkedWrite a ws (not_there true a.cell d (λ e. ne (sym e)))) in_writers
      (ap (λ ps. ps ++ p ∷ []) (shows.writers a.cell) ∙ sym (writer_parked p a ws)) d;
}

-- the same for who calls
pub shows_waiting_at : (w : Who) (way : How) (a : Attempt) (ws : List Wait) (s : Rows) → a.cell ≡ w.cell → Shows ws s → w.party < length s.rows → w.cell < length s.readers → w.cell < length s.writers → Shows (with_wait w.party way (Some a) ws) (rows_waiting way w s)
shows_waiting_at w way a ws s e shows inside in_readers in_writers =
    subst (λ (c : ℕ). Shows (with_wait w.party way (Some a) ws) (rows_waiting way (record { cell = c; party = w.party }) s)) e
    (shows_waiting w.party way a ws s shows inside (rw e in_readers) (rw e in_writers))
