-- What the shares that are given leave of the other rows.
use Rattle.std.proofs.Common.{◌≡◌, ◌≢◌, ℕ, ◌<◌, false, List, [], ◌∷◌, length, refl, arith, ◌∙◌}
use Rattle.std.proofs.Math.ListN.{length-set, get_or}
use Rattle.std.proofs.lemmas.List.{get_or-set_other}
use Rattle.std.specs.Prelude.{slice_index_or}
use Rattle.phase_locker.specs.declared.ways.Row.{Row}
use Rattle.phase_locker.specs.declared.ways.Waiting.TheVariants as way
use Rattle.phase_locker.specs.Rows.{Rows, shared, occurs, free_row, row_of, readers_of, writers_of, reads_at, writes_at, rows_to_readers, rows_to_writer, IsSound}

pub length-shared : (c : ℕ) (ps : List ℕ) (rows : List Row) → length (shared c ps rows) ≡ length rows
unfolding shared
length-shared c [] rows = refl
length-shared c (p ∷ ps) rows = length-shared c ps _ ∙ length-set rows p _

pub not_first : (p q : ℕ) (ps : List ℕ) → occurs q (p ∷ ps) ≡ 0 → (q ≢ p) × (occurs q ps ≡ 0)
not_first p q ps h = (grind arith, grind arith)

-- a row that gets no share stays
pub row-shared_other : (c : ℕ) (ps : List ℕ) (rows : List Row) (q : ℕ) → occurs q ps ≡ 0 → slice_index_or (shared c ps rows) q free_row ≡ slice_index_or rows q free_row
unfolding shared
row-shared_other c [] rows q h = refl
row-shared_other c (p ∷ ps) rows q h =
    let apart = not_first p q ps h in
    row-shared_other c ps _ q apart.1 ∙ get_or-set_other rows p q _ free_row apart.0

-- a party that does not wait is in no list
pub reads-free : (c : ℕ) (r : Row) → r.waiting ≡ way.Free → reads_at c r ≡ false
reads-free c r e = rw e

pub writes-free : (c : ℕ) (r : Row) → r.waiting ≡ way.Free → writes_at c r ≡ false
writes-free c r e = rw e

pub free-rows_to_readers : (c : ℕ) (s : Rows) → c < length s.readers → IsSound s → (p : ℕ) → (row_of s p).waiting ≡ way.Free → (row_of (rows_to_readers c s) p).waiting ≡ way.Free
free-rows_to_readers c s k sound p h =
    let none : occurs p (readers_of s c) ≡ 0 = rw (reads-free c (row_of s p) h) at (sound.readers c p k) in
    rw (row-shared_other c (readers_of s c) s.rows p none) h

pub free-rows_to_writer : (c q : ℕ) (s : Rows) → c < length s.readers → IsSound s → occurs q (writers_of s c) ≡ 1 → (p : ℕ) → (row_of s p).waiting ≡ way.Free → (row_of (rows_to_writer c q s) p).waiting ≡ way.Free
free-rows_to_writer c q s k sound one p h =
    let none : occurs p (writers_of s c) ≡ 0 = rw (writes-free c (row_of s p) h) at (sound.writers c p k) in
    let apart : p ≢ q = λ e. grind (arith, rw e at none) in
    rw (get_or-set_other s.rows q p _ free_row apart) h
