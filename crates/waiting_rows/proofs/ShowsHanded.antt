-- The rows show who waits after parked calls are given shares.
use Rattle.waiting_rows.proofs.Words.{◌≡◌, ◌≢◌, ℕ, ◌<◌, List, [], length, refl, arith, Bool, true, false, None, Some, ◌∙◌, ap, sym, map, Option, Waiting, Rows, row_of}
use Rattle.waiting_rows.proofs.Words.{free_row, readers_of, writers_of, reads_at, writes_at, occurs, without, rows_to_readers, IsSound, rows_handed, is_one-if, write_inside}
use Rattle.waiting_rows.proofs.Words.{row-shared_other, row-shared_same, all_read, Wait, wait_of, parks_to_read, parks_to_write, parked_readers, parked_writers, wake_reader}
use Rattle.waiting_rows.proofs.Words.{wake_writer, Shows, wait_row, Given}
use Rattle.waiting_rows.proofs.Lists.{readers_woken, readers_woken_other, writers_beside_readers, readers_beside_writer, writer_woken}
use Rattle.waiting_rows.proofs.{Each.writer_other, Finding.changed, Finding.wait_readers, Finding.wait_writer, Finding.wait_party, Reaching.parked_writer, Reaching.row_reads}
use Rattle.waiting_rows.proofs.{ShowsFreed.unlisted_writer, Slots.set_shows}

-- the row of a reader with its share
pub row_woken : (c : ℕ) (w : Wait) → parks_to_read c w ≡ true → wait_row (Some (wake_reader c w)) ≡ record { waiting = Waiting.ShareRead; cell = c }
row_woken c w e = grind arith

-- the row of a call that is not parked to read stays
pub row_asleep : (c : ℕ) (w : Wait) → parks_to_read c w ≡ false → wake_reader c w ≡ w
row_asleep c w e = grind (arith, e)

-- the row of a party after the shares of readers
pub row_readers : (c p : ℕ) (ws : List Wait) (s : Rows) → c < length s.readers → IsSound s → Shows ws s → row_of (rows_to_readers c s) p ≡ wait_row (wait_of p (map (wake_reader c) ws))
row_readers c p ws s inside sound shows = grind (arith, wait_readers, row-shared_other, row_reads, row-shared_same, all_read, row_woken, row_asleep, changed)

-- the parked readers of the cell are given shares
pub shows_handed_readers : (c : ℕ) (ws : List Wait) (s : Rows) → c < length s.readers → IsSound s → Shows ws s → Shows (map (wake_reader c) ws) (rows_handed c Given.Readers s)
shows_handed_readers c ws s inside sound shows = record {
  row = λ p. row_readers c p ws s inside sound shows;
  readers = λ d. set_shows s.readers c [] [] (λ d. parked_readers d ws) (λ d. parked_readers d (map (wake_reader c) ws)) shows.readers (λ d ne. readers_woken_other c d ws ne) inside (sym (readers_woken c ws)) d;
  writers = λ d. shows.writers d ∙ sym (writers_beside_readers c d ws);
}

-- the waits of other parties than the writer stay
pub changed_other : (q p : ℕ) (ws : List Wait) → p ≢ q → changed (wake_writer q) (wait_of p ws) ≡ wait_of p ws
changed_other q p ws ne = grind (arith, changed, wait_party, writer_other)

-- the row of a writer with its share
pub row_writer : (q c : ℕ) (w : Wait) → w.party ≡ q → parks_to_write c w ≡ true → wait_row (Some (wake_writer q w)) ≡ record { waiting = Waiting.ShareWrite; cell = c }
row_writer q c w own e = grind arith

-- a writer that is parked on the cell is given a share
pub shows_handed_writer : (q c : ℕ) (ws : List Wait) (s : Rows) → c < length s.readers → IsSound s → Shows ws s → occurs q (writers_of s c) ≡ 1 → Shows (map (wake_writer q) ws) (rows_handed c (Given.Writer q) s)
shows_handed_writer q c ws s inside sound shows one =
    let parked = parked_writer q c ws s inside sound shows one in let writes : writes_at c (row_of s q) ≡ true = is_one-if _ (sym (sound.writers c q inside) ∙ one) in
    let own : parked.wait.party ≡ q = wait_party q ws parked.wait parked.is in
    record {
      row = λ p. set_shows s.rows q (record { waiting = Waiting.ShareWrite; cell = c }) free_row (λ p. wait_row (wait_of p ws)) (λ p. wait_row (wait_of p (map (wake_writer q) ws))) shows.row
          (λ p ne. ap wait_row (wait_writer q p ws ∙ changed_other q p ws ne)) (write_inside c s.rows q writes)
          (sym (ap wait_row (wait_writer q q ws ∙ ap (changed (wake_writer q)) parked.is) ∙ row_writer q c parked.wait own parked.parks)) p;
      readers = λ d. shows.readers d ∙ sym (readers_beside_writer q d ws);
      writers = λ d. set_shows s.writers c (without q (writers_of s c)) [] (λ d. writers_of s d) (λ d. parked_writers d (map (wake_writer q) ws)) (λ d. refl)
          (λ d ne. writer_woken q d ws ∙ ap (without q) (sym (shows.writers d)) ∙ unlisted_writer d q s sound (elsewhere (row_of s q).waiting (row_of s q).cell c d writes ne))
          (omega (arith, inside, sound.cells)) (ap (without q) (shows.writers c) ∙ sym (writer_woken q c ws)) d;
    } where
      elsewhere : (v : Waiting) (x c d : ℕ) → writes_at c (record { waiting = v; cell = x }) ≡ true → d ≢ c → writes_at d (record { waiting = v; cell = x }) ≡ false
      elsewhere v x c d e ne = grind arith
