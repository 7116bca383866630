-- The rows show who waits after a party waits no longer.
use Rattle.waiting_rows.proofs.Words.{◌≡◌, ◌≢◌, ℕ, ◌≤◌, List, [], length, refl, arith, false, ◌∙◌, ap, sym, inl, inr, get_or, set, get_or_past, cases_lt, Waiting, Row, Rows}
use Rattle.waiting_rows.proofs.Words.{row_of, free_row, readers_of, writers_of, reads_at, writes_at, without, left, freed, IsSound, without_absent, Wait, wait_of}
use Rattle.waiting_rows.proofs.Words.{without_wait, wait_removed, wait_kept, Shows, wait_row}
use Rattle.waiting_rows.proofs.{Lists.readers_without, Lists.writers_without, Slots.set_shows_past}

-- a party that is not parked to read at the cell is not in its list
pub unlisted_reader : (d p : ℕ) (s : Rows) → IsSound s → reads_at d (row_of s p) ≡ false → without p (readers_of s d) ≡ readers_of s d
unlisted_reader d p s sound e = grind (arith, cases_lt, without_absent, get_or_past)

-- nor one that is not parked to write
pub unlisted_writer : (d p : ℕ) (s : Rows) → IsSound s → writes_at d (row_of s p) ≡ false → without p (writers_of s d) ≡ writers_of s d
unlisted_writer d p s sound e = grind (arith, cases_lt, without_absent, get_or_past)

-- a parked reader of one cell is none of another
pub reads_here : (c d : ℕ) (r : Row) → r ≡ record { waiting = Waiting.ParkedRead; cell = c } → d ≢ c → reads_at d r ≡ false
reads_here c d r e ne = rw e (grind (arith, ne))

pub writes_here : (c d : ℕ) (r : Row) → r ≡ record { waiting = Waiting.ParkedWrite; cell = c } → d ≢ c → writes_at d r ≡ false
writes_here c d r e ne = rw e (grind (arith, ne))

-- the list of readers after the party left
pub readers_left : (v : Waiting) (c p : ℕ) (s : Rows) → IsSound s → row_of s p ≡ record { waiting = v; cell = c } → (d : ℕ) → readers_of (left v c p s) d ≡ without p (readers_of s d)
readers_left Waiting.ParkedRead c p s sound row d =
    set_shows_past s.readers c (without p (readers_of s c)) [] (readers_of s) (λ d. without p (readers_of s d)) (λ d. refl) (λ d ne. unlisted_reader d p s sound (reads_here c d (row_of s p) row ne)) refl (λ k. rw (get_or_past s.readers c [] k) refl) d
readers_left _ c p s sound row d = sym (unlisted_reader d p s sound (rw row refl))

-- and the list of writers
pub writers_left : (v : Waiting) (c p : ℕ) (s : Rows) → IsSound s → row_of s p ≡ record { waiting = v; cell = c } → (d : ℕ) → writers_of (left v c p s) d ≡ without p (writers_of s d)
writers_left Waiting.ParkedWrite c p s sound row d =
    set_shows_past s.writers c (without p (writers_of s c)) [] (writers_of s) (λ d. without p (writers_of s d)) (λ d. refl) (λ d ne. unlisted_writer d p s sound (writes_here c d (row_of s p) row ne)) refl (λ k. rw (get_or_past s.writers c [] k) refl) d
writers_left _ c p s sound row d = sym (unlisted_writer d p s sound (rw row refl))

-- the rows after the party left
pub rows_left : (v : Waiting) (c p : ℕ) (s : Rows) → (left v c p s).rows ≡ set s.rows p free_row
rows_left v c p s = grind arith

-- a party waits no longer
pub shows_freed : (p : ℕ) (ws : List Wait) (s : Rows) → IsSound s → Shows ws s → Shows (without_wait p ws) (freed p s)
shows_freed p ws s sound shows = record {
  row = λ q. ap (λ (rows : List Row). get_or rows q free_row) (rows_left (row_of s p).waiting (row_of s p).cell p s)
      ∙ set_shows_past s.rows p free_row free_row (λ q. wait_row (wait_of q ws)) (λ q. wait_row (wait_of q (without_wait p ws))) shows.row (λ q ne. ap wait_row (wait_kept p q ws ne)) (sym (ap wait_row (wait_removed p ws))) (λ k. ap wait_row (wait_removed p ws)) q;
  readers = λ d. readers_left (row_of s p).waiting (row_of s p).cell p s sound refl d ∙ ap (without p) (shows.readers d) ∙ sym (readers_without d p ws);
  writers = λ d. writers_left (row_of s p).waiting (row_of s p).cell p s sound refl d ∙ ap (without p) (shows.writers d) ∙ sym (writers_without d p ws);
}
