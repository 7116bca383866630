-- The calls in a cell's lists are those that a gift reaches, and the flags of the lists are those of the waits.
use Rattle.waiting_rows.proofs.Words.{◌≡◌, ℕ, ◌<◌, List, length, arith, Bool, true, false, None, Some, ◌∙◌, ap, sym, not, Option, Rows, readers_of, writers_of, is_empty}
use Rattle.waiting_rows.proofs.Words.{occurs, reads_at, writes_at, IsSound, Wait, wait_of, parks_to_read, parks_to_write, parked_writers, reaches, Shows, wait_row, Given}
use Rattle.waiting_rows.proofs.Lists.{listed_writers, any_member, any_readers}

-- a waiting call, where it passes a test
abbrev pub passes : (Wait → Bool) → Option Wait → Bool
passes t None = false
passes t (Some w) = t w

-- the row of a waiting call says whether it is parked on the cell to read
pub row_reads : (c : ℕ) (o : Option Wait) → reads_at c (wait_row o) ≡ passes (parks_to_read c) o
row_reads c o = grind arith

-- or to write
pub row_writes : (c : ℕ) (o : Option Wait) → writes_at c (wait_row o) ≡ passes (parks_to_write c) o
row_writes c o = grind arith

-- a party that is parked on the cell to write
pub record ParkedWriter (q c : ℕ) (ws : List Wait) : Type 0 where
  pub wait : Wait
  pub is : wait_of q ws ≡ Some wait
  pub parks : parks_to_write c wait ≡ true

-- the party in the list of writers is parked on the cell to write
pub parked_writer : (q c : ℕ) (ws : List Wait) (s : Rows) → c < length s.readers → IsSound s → Shows ws s → occurs q (writers_of s c) ≡ 1 → ParkedWriter q c ws
parked_writer q c ws s inside sound shows one = grind arith

-- a gift to a writer of the list reaches it
pub reaches_writer : (q c : ℕ) (ws : List Wait) (s : Rows) → Shows ws s → occurs q (writers_of s c) ≡ 1 → reaches c (Given.Writer q) ws ≡ true
reaches_writer q c ws s shows one =
    any_member (parks_to_write c) q ws (let e : occurs q (parked_writers c ws) ≡ 1 = ap (occurs q) (sym (shows.writers c)) ∙ one in let f = rw (listed_writers c ws) at e in omega (arith, f))

-- a gift to the readers of a list that is not empty reaches them
pub reaches_readers : (c : ℕ) (ws : List Wait) (s : Rows) → Shows ws s → is_empty (readers_of s c) ≡ false → reaches c Given.Readers ws ≡ true
reaches_readers c ws s shows some = any_readers c ws ∙ ap not (ap is_empty (sym (shows.readers c)) ∙ some)
