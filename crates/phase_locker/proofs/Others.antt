-- A call at one cell leaves the other cells, and the rows of the other parties.
use Rattle.std.proofs.Common.{inl, inr, ◌≡◌, ◌≢◌, ◌==◌, ℕ, ◌<◌, Bool, true, false, List, [], length, refl, arith, ◌∙◌, sym, ap, ◌&&◌}
use Rattle.std.proofs.Math.ListN.{get_or, set}
use Rattle.std.proofs.lemmas.List.{get_or-set_other}
use Rattle.std.specs.Prelude.{slice_index_or}
use Rattle.phase_locker.specs.declared.ways.Row.{Row}
use Rattle.phase_locker.specs.declared.ways.Waiting.{Waiting}
use Rattle.phase_locker.specs.declared.ways.Waiting.TheVariants as way
use Rattle.phase_locker.specs.declared.ways.Who.{Who}
use Rattle.phase_locker.specs.declared.ways.How.{How}
use Rattle.phase_locker.specs.declared.ways.How.TheVariants.{Spin, ParkedRead, ParkedWrite, Drain}
use Rattle.phase_locker.specs.declared.ways.Given.{Given}
use Rattle.phase_locker.specs.declared.ways.Given.TheVariants.{Nobody, Writer, Readers}
use Rattle.phase_locker.specs.declared.ways.LockerKind.{LockerKind}
use Rattle.phase_locker.specs.declared.tickets.LockNature.{LockNature}
use Rattle.phase_locker.specs.declared.tickets.Attempt.{Attempt}
use Rattle.phase_bits.specs.declared.holders.Holders.{Holders}
use Rattle.phase_locker.specs.Natures.{bars}
use Rattle.phase_locker.specs.Rows.{Rows, free_row, row_of, readers_of, writers_of, occurs, reads_at, writes_at, shares_at, drains_at, claims_at, is_parked_read, is_parked_write, is_share_read, is_drain, is_claim, left, freed, IsSound, SameSize}
use Rattle.phase_locker.specs.Fits.{Fits}
use Rattle.phase_locker.specs.Gifts.{Hands, MayHand, rows_handed, StayFree}
use Rattle.phase_locker.specs.Attempts.{Judged, rows_waiting}
use Rattle.phase_locker.specs.Others.{SameAt, OthersStay, RowStays, RowsStay, RowsStayBeside}
use Rattle.phase_locker.proofs.Counts.{free_is, same-shared, is_one-if, write_inside}
use Rattle.phase_locker.proofs.Shares.{row-shared_other}
use Rattle.phase_locker.proofs.Holding.{all_read}
use Rattle.phase_locker.proofs.Judging.{by_bool, same_row}
use Rattle.phase_locker.proofs.Keeping.{freed_free, freed_size}

-- ---- what fits at a cell that stays

pub fits_same : (k : LockerKind) (h : Holders) (old new : Rows) (d : ℕ) → SameAt d old new → Fits k h old d → Fits k h new d
fits_same k h old new d same fits = record {
  read_flag = rw same.readers fits.read_flag;
  write_flag = rw same.writers fits.write_flag;
  shared = rw same.shares fits.shared;
  one = rw same.claims fits.one;
  locked = λ e. same.claims ∙ fits.locked e;
  drained = λ e f. rw same.drains (fits.drained e f);
  idle = λ e f. rw (same.readers, same.writers) (fits.idle e f);
  still = λ e. rw (same.readers, same.writers, same.shares, same.claims) (fits.still e);
}

-- a record that fits the rows at another cell still does
pub fits_beside : (k : LockerKind) (h : Holders) (old new : Rows) (c d : ℕ) → Fits k h old d → OthersStay c old new → d ≢ c → Fits k h new d
fits_beside k h old new c d fits others apart = fits_same k h old new d (others.cells d apart) fits

-- ---- one cell after the other rows change

pub same_trans : (d : ℕ) (a b e : Rows) → SameAt d a b → SameAt d b e → SameAt d a e
same_trans d a b e m n = record {
  readers = n.readers ∙ m.readers;
  writers = n.writers ∙ m.writers;
  shares = n.shares ∙ m.shares;
  drains = n.drains ∙ m.drains;
  claims = n.claims ∙ m.claims;
}

pub same_refl : (d : ℕ) (s : Rows) → SameAt d s s
same_refl d s = record { readers = refl; writers = refl; shares = refl; drains = refl; claims = refl }

-- the row is no share, claim or drain of this cell
abbrev pub NoneAt : ℕ → Row → Type 0
NoneAt d r = (shares_at d r ≡ false) × (claims_at d r ≡ false) × (drains_at d r ≡ false)

pub test_elsewhere : (t : Bool) (n c d : ℕ) → n ≡ c → d ≢ c → (t && (n == d)) ≡ false
test_elsewhere true n c d e m = grind (arith, e)
test_elsewhere false n c d e m = refl

pub none_elsewhere : (c d : ℕ) (r : Row) → r.cell ≡ c → d ≢ c → NoneAt d r
none_elsewhere c d r e m = (test_elsewhere (is_share_read r.waiting) r.cell c d e m, test_elsewhere (is_claim r.waiting) r.cell c d e m, test_elsewhere (is_drain r.waiting) r.cell c d e m)

-- a row of which the cell sees nothing is replaced by such a row
pub same_set : (d : ℕ) (s : Rows) (p : ℕ) (r : Row) (rs ws : List (List ℕ)) → p < length s.rows → NoneAt d (row_of s p) → NoneAt d r → slice_index_or rs d [] ≡ readers_of s d → slice_index_or ws d [] ≡ writers_of s d → SameAt d s (record { rows = set s.rows p r; readers = rs; writers = ws })
same_set d s p r rs ws inside before after readers writers = record {
  readers = readers;
  writers = writers;
  shares = same_row (shares_at d) s.rows p r inside before.0 after.0;
  drains = same_row (drains_at d) s.rows p r inside before.2 after.2;
  claims = same_row (claims_at d) s.rows p r inside before.1 after.1;
}

pub other_list : (lists : List (List ℕ)) (c d : ℕ) (ps : List ℕ) → d ≢ c → slice_index_or (set lists c ps) d [] ≡ slice_index_or lists d []
other_list lists c d ps m = get_or-set_other lists c d ps [] m

-- ---- a call begins to wait

pub waiting_same : (how : How) (w : Who) (s : Rows) (d : ℕ) → w.party < length s.rows → (row_of s w.party).waiting ≡ way.Free → d ≢ w.cell → SameAt d s (rows_waiting how w s)
waiting_same Spin w s d inside free m = same_set d s w.party (record { waiting = way.Spin; cell = w.cell }) s.readers s.writers inside (free_is d _ free) (none_elsewhere w.cell d (record { waiting = way.Spin; cell = w.cell }) refl m) refl refl
waiting_same ParkedRead w s d inside free m = same_set d s w.party (record { waiting = way.ParkedRead; cell = w.cell }) _ s.writers inside (free_is d _ free) (none_elsewhere w.cell d (record { waiting = way.ParkedRead; cell = w.cell }) refl m) (other_list s.readers w.cell d _ m) refl
waiting_same ParkedWrite w s d inside free m = same_set d s w.party (record { waiting = way.ParkedWrite; cell = w.cell }) s.readers _ inside (free_is d _ free) (none_elsewhere w.cell d (record { waiting = way.ParkedWrite; cell = w.cell }) refl m) refl (other_list s.writers w.cell d _ m)
waiting_same Drain w s d inside free m = same_set d s w.party (record { waiting = way.Drain; cell = w.cell }) s.readers s.writers inside (free_is d _ free) (none_elsewhere w.cell d (record { waiting = way.Drain; cell = w.cell }) refl m) refl refl

pub waiting_row : (how : How) (w : Who) (s : Rows) (p : ℕ) → p ≢ w.party → row_of (rows_waiting how w s) p ≡ row_of s p
waiting_row Spin w s p m = get_or-set_other s.rows w.party p _ free_row m
waiting_row ParkedRead w s p m = get_or-set_other s.rows w.party p _ free_row m
waiting_row ParkedWrite w s p m = get_or-set_other s.rows w.party p _ free_row m
waiting_row Drain w s p m = get_or-set_other s.rows w.party p _ free_row m

pub judged_same : (k : LockerKind) (fresh : Bool) (w : Who) (wake n : LockNature) (h : Holders) (s : Rows) (a : Attempt) (h' : Holders) (s' : Rows) (d : ℕ) → w.party < length s.rows → (row_of s w.party).waiting ≡ way.Free → d ≢ w.cell → Judged k fresh w wake n h s a h' s' → SameAt d s s'
judged_same k fresh w wake n h s a h' s' d inside free m judged =
    elim (by_bool (bars h n) judged) as (λ x. SameAt d s s') [
      | inl j ↦ rw j.1.rows (waiting_same j.1.how w s d inside free m)
      | inr j ↦ rw j.1.rows (same_refl d s)
    ]

pub judged_row : (k : LockerKind) (fresh : Bool) (w : Who) (wake n : LockNature) (h : Holders) (s : Rows) (a : Attempt) (h' : Holders) (s' : Rows) (p : ℕ) → p ≢ w.party → Judged k fresh w wake n h s a h' s' → row_of s' p ≡ row_of s p
judged_row k fresh w wake n h s a h' s' p m judged =
    elim (by_bool (bars h n) judged) as (λ x. row_of s' p ≡ row_of s p) [
      | inl j ↦ rw j.1.rows (waiting_row j.1.how w s p m)
      | inr j ↦ rw j.1.rows refl
    ]

-- ---- a party waits no longer

pub left_same : (v : Waiting) (c p : ℕ) (s : Rows) (d : ℕ) → p < length s.rows → (row_of s p).cell ≡ c → d ≢ c → SameAt d s (left v c p s)
left_same way.ParkedRead c p s d inside here m = same_set d s p free_row _ s.writers inside (none_elsewhere c d _ here m) (refl, refl, refl) (other_list s.readers c d _ m) refl
left_same way.ParkedWrite c p s d inside here m = same_set d s p free_row s.readers _ inside (none_elsewhere c d _ here m) (refl, refl, refl) refl (other_list s.writers c d _ m)
left_same way.Free c p s d inside here m = same_set d s p free_row s.readers s.writers inside (none_elsewhere c d _ here m) (refl, refl, refl) refl refl
left_same way.Spin c p s d inside here m = same_set d s p free_row s.readers s.writers inside (none_elsewhere c d _ here m) (refl, refl, refl) refl refl
left_same way.Drain c p s d inside here m = same_set d s p free_row s.readers s.writers inside (none_elsewhere c d _ here m) (refl, refl, refl) refl refl
left_same way.ShareRead c p s d inside here m = same_set d s p free_row s.readers s.writers inside (none_elsewhere c d _ here m) (refl, refl, refl) refl refl
left_same way.ShareWrite c p s d inside here m = same_set d s p free_row s.readers s.writers inside (none_elsewhere c d _ here m) (refl, refl, refl) refl refl

pub freed_same : (c p : ℕ) (s : Rows) (d : ℕ) → p < length s.rows → (row_of s p).cell ≡ c → d ≢ c → SameAt d s (freed p s)
freed_same c p s d inside here m = left_same (row_of s p).waiting (row_of s p).cell p s d inside refl (rw here m)

pub left_row : (v : Waiting) (c p : ℕ) (s : Rows) (q : ℕ) → q ≢ p → row_of (left v c p s) q ≡ row_of s q
left_row way.ParkedRead c p s q m = get_or-set_other s.rows p q free_row free_row m
left_row way.ParkedWrite c p s q m = get_or-set_other s.rows p q free_row free_row m
left_row way.Free c p s q m = get_or-set_other s.rows p q free_row free_row m
left_row way.Spin c p s q m = get_or-set_other s.rows p q free_row free_row m
left_row way.Drain c p s q m = get_or-set_other s.rows p q free_row free_row m
left_row way.ShareRead c p s q m = get_or-set_other s.rows p q free_row free_row m
left_row way.ShareWrite c p s q m = get_or-set_other s.rows p q free_row free_row m

pub freed_row : (p : ℕ) (s : Rows) (q : ℕ) → q ≢ p → row_of (freed p s) q ≡ row_of s q
freed_row p s q m = left_row (row_of s p).waiting (row_of s p).cell p s q m

-- ---- a hand-over

-- a row that passes this test at a cell is at that cell
pub cell_tested : (t : Bool) (n c : ℕ) → (t && (n == c)) ≡ true → n ≡ c
cell_tested true n c e = grind (arith, e)
cell_tested false n c e = absurd (cc)

pub reads_cell : (c : ℕ) (r : Row) → reads_at c r ≡ true → r.cell ≡ c
reads_cell c r e = cell_tested (is_parked_read r.waiting) r.cell c e

pub writes_cell : (c : ℕ) (r : Row) → writes_at c r ≡ true → r.cell ≡ c
writes_cell c r e = cell_tested (is_parked_write r.waiting) r.cell c e

pub handed_same : (g : Given) (c : ℕ) (h : Holders) (s : Rows) (d : ℕ) → c < length s.readers → IsSound s → MayHand c h s g → d ≢ c → SameAt d s (rows_handed c g s)
handed_same Nobody c h s d inside sound may m = same_refl d s
handed_same (Writer p) c h s d inside sound may m =
    let w : writes_at c (row_of s p) ≡ true = is_one-if _ (sym (sound.writers c p inside) ∙ may.1) in
    same_set d s p (record { waiting = way.ShareWrite; cell = c }) s.readers _ (write_inside c s.rows p w) (none_elsewhere c d _ (writes_cell c _ w) m) (none_elsewhere c d (record { waiting = way.ShareWrite; cell = c }) refl m) refl (other_list s.writers c d _ m)
handed_same Readers c h s d inside sound may m =
    let all = all_read c s inside sound in
    let now : NoneAt d (record { waiting = way.ShareRead; cell = c }) = none_elsewhere c d (record { waiting = way.ShareRead; cell = c }) refl m in
    record {
      readers = other_list s.readers c d [] m;
      writers = refl;
      shares = same-shared (shares_at d) c (λ r e. (none_elsewhere c d r (reads_cell c r e) m).0) now.0 (readers_of s c) s.rows all;
      drains = same-shared (drains_at d) c (λ r e. (none_elsewhere c d r (reads_cell c r e) m).2) now.2 (readers_of s c) s.rows all;
      claims = same-shared (claims_at d) c (λ r e. (none_elsewhere c d r (reads_cell c r e) m).1) now.1 (readers_of s c) s.rows all;
    }

pub handed_row : (g : Given) (c : ℕ) (h : Holders) (s : Rows) (p : ℕ) → c < length s.readers → IsSound s → MayHand c h s g → RowStays c s (rows_handed c g s) p
handed_row Nobody c h s p inside sound may e f = refl
handed_row (Writer q) c h s p inside sound may e f =
    let none : occurs p (writers_of s c) ≡ 0 = rw f at (sound.writers c p inside) in
    let apart : p ≢ q = λ i. grind (arith, rw i at none) in
    get_or-set_other s.rows q p _ free_row apart
handed_row Readers c h s p inside sound may e f =
    let none : occurs p (readers_of s c) ≡ 0 = rw e at (sound.readers c p inside) in
    row-shared_other c (readers_of s c) s.rows p none

pub hands_same : (g : Given) (c : ℕ) (h : Holders) (s : Rows) (h' : Holders) (s' : Rows) (d : ℕ) → c < length s.readers → IsSound s → Hands c h s g h' s' → d ≢ c → SameAt d s s'
hands_same g c h s h' s' d inside sound hands m = rw hands.rows (handed_same g c h s d inside sound hands.may m)

pub hands_rows : (g : Given) (c : ℕ) (h : Holders) (s : Rows) (h' : Holders) (s' : Rows) → c < length s.readers → IsSound s → Hands c h s g h' s' → RowsStay c s s'
hands_rows g c h s h' s' inside sound hands p = rw hands.rows (handed_row g c h s p inside sound hands.may)

-- ---- what a call leaves

pub rows_elsewhere : (c : ℕ) (old new : Rows) (p : ℕ) → (row_of old p).cell ≢ c → RowStays c old new p → row_of new p ≡ row_of old p
rows_elsewhere c old new p m stays =
    let apart : c ≢ (row_of old p).cell = λ e. m (sym e) in
    stays (test_elsewhere (is_parked_read (row_of old p).waiting) (row_of old p).cell (row_of old p).cell c refl apart) (test_elsewhere (is_parked_write (row_of old p).waiting) (row_of old p).cell (row_of old p).cell c refl apart)

-- a hand-over
pub hands_others : (g : Given) (c : ℕ) (h : Holders) (s : Rows) (h' : Holders) (s' : Rows) → c < length s.readers → IsSound s → Hands c h s g h' s' → OthersStay c s s'
hands_others g c h s h' s' inside sound hands = record {
  cells = λ d m. hands_same g c h s h' s' d inside sound hands m;
  rows = λ p waits m. rows_elsewhere c s s' p m (hands_rows g c h s h' s' inside sound hands p);
}

-- a party that waits at the cell no longer
pub freed_others : (c p : ℕ) (s : Rows) → p < length s.rows → (row_of s p).cell ≡ c → OthersStay c s (freed p s)
freed_others c p s inside here = record {
  cells = λ d m. freed_same c p s d inside here m;
  rows = λ q waits m. freed_row p s q (λ e. m (ap (λ r. (row_of s r).cell) e ∙ here));
}

-- nothing at all
pub others_refl : (c : ℕ) (s : Rows) → OthersStay c s s
others_refl c s = record { cells = λ d m. same_refl d s; rows = λ p waits m. refl }

-- a call of a party that does not wait
pub judged_others : (k : LockerKind) (fresh : Bool) (w : Who) (wake n : LockNature) (h : Holders) (s : Rows) (a : Attempt) (h' : Holders) (s' : Rows) → w.party < length s.rows → (row_of s w.party).waiting ≡ way.Free → Judged k fresh w wake n h s a h' s' → OthersStay w.cell s s'
judged_others k fresh w wake n h s a h' s' inside free judged = record {
  cells = λ d m. judged_same k fresh w wake n h s a h' s' d inside free m judged;
  rows = λ p waits m. judged_row k fresh w wake n h s a h' s' p (λ e. waits (ap (λ q. (row_of s q).waiting) e ∙ free)) judged;
}

pub judged_rows : (k : LockerKind) (fresh : Bool) (w : Who) (wake n : LockNature) (h : Holders) (s : Rows) (a : Attempt) (h' : Holders) (s' : Rows) → Judged k fresh w wake n h s a h' s' → RowsStayBeside w.party w.cell s s'
judged_rows k fresh w wake n h s a h' s' judged p m e f = judged_row k fresh w wake n h s a h' s' p m judged

-- a call that gives up what it has, and is judged again
pub again_rows : (k : LockerKind) (fresh : Bool) (w : Who) (wake n : LockNature) (h₁ : Holders) (s s₁ : Rows) (g : Given) (h₂ : Holders) (s₂ : Rows) (a : Attempt) (h₃ : Holders) (s₃ : Rows) →
    w.cell < length s₁.readers → s₁ ≡ freed w.party s → IsSound s₁ → Hands w.cell h₁ s₁ g h₂ s₂ → Judged k fresh w wake n h₂ s₂ a h₃ s₃ → RowsStayBeside w.party w.cell s s₃
again_rows k fresh w wake n h₁ s s₁ g h₂ s₂ a h₃ s₃ inside es sound hands judged p m e f =
    let before : row_of s₁ p ≡ row_of s p = rw es (freed_row w.party s p m) in
    judged_row k fresh w wake n h₂ s₂ a h₃ s₃ p m judged ∙ hands_rows g w.cell h₁ s₁ h₂ s₂ inside sound hands p (ap (reads_at w.cell) before ∙ e) (ap (writes_at w.cell) before ∙ f) ∙ before

pub again_others : (k : LockerKind) (fresh : Bool) (w : Who) (wake n : LockNature) (h₁ : Holders) (s s₁ : Rows) (g : Given) (h₂ : Holders) (s₂ : Rows) (a : Attempt) (h₃ : Holders) (s₃ : Rows) →
    w.cell < length s.readers → w.party < length s.rows → (row_of s w.party).cell ≡ w.cell → s₁ ≡ freed w.party s → IsSound s₁ → Hands w.cell h₁ s₁ g h₂ s₂ → StayFree s₁ s₂ → SameSize s₁ s₂ → Judged k fresh w wake n h₂ s₂ a h₃ s₃ → OthersStay w.cell s s₃
again_others k fresh w wake n h₁ s s₁ g h₂ s₂ a h₃ s₃ inside party here es sound hands free same judged =
    let size : (length s₁.rows ≡ length s.rows) × (length s₁.readers ≡ length s.readers) = rw es (freed_size w.party s) in
    let alone : (row_of s₁ w.party).waiting ≡ way.Free = rw es (freed_free w.party s party) in
    let inside₁ : w.cell < length s₁.readers = omega (arith, size.1) in
    record {
      cells = λ d m.
          same_trans d s s₁ s₃ (rw es (freed_same w.cell w.party s d party here m))
          (same_trans d s₁ s₂ s₃ (hands_same g w.cell h₁ s₁ h₂ s₂ d inside₁ sound hands m) (judged_same k fresh w wake n h₂ s₂ a h₃ s₃ d (omega (arith, size.0, same.parties)) (free w.party alone) m judged));
      rows = λ p waits m.
          let apart : p ≢ w.party = λ e. m (ap (λ q. (row_of s q).cell) e ∙ here) in
          rows_elsewhere w.cell s s₃ p m (again_rows k fresh w wake n h₁ s s₁ g h₂ s₂ a h₃ s₃ inside₁ es sound hands judged p apart);
    }
