-- A call of a party that waits keeps what fits of record and rows.
use Rattle.std.proofs.Common.{◌≡◌, ◌==◌, ℕ, ◌+◌, ◌<◌, Bool, true, false, List, [], ◌∷◌, length, refl, arith, ◌∙◌, sym}
use Rattle.std.proofs.Math.ListN.{length-set, get_or, set}
use Rattle.std.proofs.lemmas.List.{get_or-set_same}
use Rattle.std.specs.Prelude.{slice_index_or, count_by}
use Rattle.phase_locker.specs.declared.ways.Row.{Row}
use Rattle.phase_locker.specs.declared.ways.Waiting.{Waiting}
use Rattle.phase_locker.specs.declared.ways.Waiting.TheVariants as way
use Rattle.phase_locker.specs.Rows.{Rows, without, is_empty, free_row, row_of, shares_at, drains_at, claims_at, freed, left, IsSound, SameSize}
use Rattle.phase_bits.specs.declared.holders.Holders.{Holders}
use Rattle.phase_locker.specs.declared.tickets.LockNature.{LockNature}
use Rattle.phase_locker.specs.declared.tickets.LockNature.TheVariants as nature
use Rattle.phase_locker.specs.declared.tickets.Attempt.{Attempt}
use Rattle.phase_locker.specs.declared.ways.Given.{Given}
use Rattle.phase_locker.specs.declared.ways.LockerKind.{LockerKind}
use Rattle.phase_locker.specs.declared.ways.Who.{Who}
use Rattle.phase_locker.specs.Fits.{Fits, is_park, flagged}
use Rattle.phase_locker.specs.Gifts.{Hands, StayFree}
use Rattle.phase_locker.specs.Attempts.{keeps, given_up, Judged}
use Rattle.phase_locker.proofs.Counts.{count-set, share_is, claim_is, drain_is}
use Rattle.phase_locker.proofs.Holding.{Fits-flagged, holds_of, hands_fit, Holds}
use Rattle.phase_locker.proofs.Judging.{same_row, judged_fits}

-- ---- a waiting call gives up what it has

pub is_nil : (ps : List ℕ) → is_empty ps ≡ true → ps ≡ []
is_nil [] e = refl
is_nil (p ∷ ps) e = absurd (cc)

pub still_empty : (lists : List (List ℕ)) (c p : ℕ) → c < length lists → is_empty (slice_index_or lists c []) ≡ true → is_empty (slice_index_or (set lists c (without p (slice_index_or lists c []))) c []) ≡ true
still_empty lists c p inside e = rw (get_or-set_same lists c (without p (get_or lists c [])) [] inside, is_nil _ e) refl

-- a row that is no share, drain or write share is left
pub left_plain : (k : LockerKind) (h : Holders) (s : Rows) (c p : ℕ) (w : Waiting) (rs ws : List (List ℕ)) → p < length s.rows → row_of s p ≡ record { waiting = w; cell = c } → Holds k h s c →
    shares_at c (record { waiting = w; cell = c }) ≡ false → claims_at c (record { waiting = w; cell = c }) ≡ false → drains_at c (record { waiting = w; cell = c }) ≡ false →
    (is_park k ≡ false → (is_empty (slice_index_or rs c []) ≡ true) × (is_empty (slice_index_or ws c []) ≡ true)) →
    Holds k h (record { rows = set s.rows p free_row; readers = rs; writers = ws }) c
left_plain k h s c p w rs ws inside row a e f g still =
    let x = same_row (shares_at c) s.rows p free_row inside (rw row e) refl in
    let y = same_row (claims_at c) s.rows p free_row inside (rw row f) refl in
    let z = same_row (drains_at c) s.rows p free_row inside (rw row g) refl in
    record {
      shared = omega (arith, x, a.shared);
      one = omega (arith, y, a.one);
      locked = λ i. y ∙ a.locked i;
      drained = λ i j. rw z (a.drained i j);
      still = λ i. (still i, x ∙ (a.still i).1, y ∙ (a.still i).2);
    }

-- a share or a drain is left
pub count_left : (f : Row → Bool) (s : Rows) (p : ℕ) (r : Row) → p < length s.rows → row_of s p ≡ r → f r ≡ true → f free_row ≡ false → count_by f (set s.rows p free_row) + 1 ≡ count_by f s.rows
count_left f s p r inside row e g = let c = rw (row, e, g) at (count-set f s.rows p free_row inside) in omega (arith, c)

pub gives_up : (w : Waiting) (k : LockerKind) (h : Holders) (s : Rows) (c p : ℕ) → c < length s.readers → length s.writers ≡ length s.readers → p < length s.rows → row_of s p ≡ record { waiting = w; cell = c } → Holds k h s c → Holds k (given_up w h) (left w c p s) c
gives_up way.Free k h s c p here same inside row a = left_plain k h s c p way.Free s.readers s.writers inside row a refl refl refl (λ i. (a.still i).0)
gives_up way.Spin k h s c p here same inside row a = left_plain k h s c p way.Spin s.readers s.writers inside row a refl refl refl (λ i. (a.still i).0)
gives_up way.ParkedRead k h s c p here same inside row a = left_plain k h s c p way.ParkedRead _ s.writers inside row a refl refl refl (λ i. (still_empty s.readers c p here (a.still i).0.0, (a.still i).0.1))
gives_up way.ParkedWrite k h s c p here same inside row a = left_plain k h s c p way.ParkedWrite s.readers _ inside row a refl refl refl (λ i. ((a.still i).0.0, still_empty s.writers c p (omega arith) (a.still i).0.1))
gives_up way.ShareRead k h s c p here same inside row a =
    let x = count_left (shares_at c) s p _ inside row (share_is c) refl in
    let y = same_row (claims_at c) s.rows p free_row inside (rw row refl) refl in
    let z = same_row (drains_at c) s.rows p free_row inside (rw row refl) refl in
    record {
      shared = omega (arith, x, a.shared);
      one = omega (arith, y, a.one);
      locked = λ i. y ∙ a.locked i;
      drained = λ i j. rw z (a.drained i (omega (arith, j)));
      still = λ i. absurd (omega (arith, x, (a.still i).1));
    }
gives_up way.ShareWrite k h s c p here same inside row a =
    let x = same_row (shares_at c) s.rows p free_row inside (rw row refl) refl in
    let y = count_left (claims_at c) s p _ inside row (claim_is c) refl in
    record {
      shared = omega (arith, x, a.shared);
      one = omega (arith, y, a.one);
      locked = λ i. omega (arith, y, a.one);
      drained = λ i j. absurd (cc);
      still = λ i. absurd (omega (arith, y, (a.still i).2));
    }
gives_up way.Drain k h s c p here same inside row a =
    let x = same_row (shares_at c) s.rows p free_row inside (rw row refl) refl in
    let y = count_left (claims_at c) s p _ inside row (drain_is c).1 refl in
    record {
      shared = omega (arith, x, a.shared);
      one = omega (arith, y, a.one);
      locked = λ i. omega (arith, y, a.one);
      drained = λ i j. absurd (cc);
      still = λ i. absurd (omega (arith, y, (a.still i).2));
    }

pub gives_up_freed : (k : LockerKind) (h : Holders) (s : Rows) (c p : ℕ) → c < length s.readers → length s.writers ≡ length s.readers → p < length s.rows → (row_of s p).cell ≡ c → Fits k h s c → Holds k (given_up (row_of s p).waiting h) (freed p s) c
gives_up_freed k h s c p inside same party here fits =
    rw here (gives_up (row_of s p).waiting k h s c p inside same party (rw (sym here) refl) (holds_of k h s c fits))

pub none_left : (n : ℕ) → (n == 0) ≡ true → n ≡ 0
none_left n e = grind arith

-- a call keeps what it was given
pub keeps_at : (w : Waiting) (n : LockNature) (k : LockerKind) (h : Holders) (s : Rows) (c p : ℕ) → p < length s.rows → row_of s p ≡ record { waiting = w; cell = c } → Fits k h s c → keeps w n h ≡ true → Fits k (flagged c (left w c p s) h) (left w c p s) c
keeps_at way.ShareRead nature.Read k h s c p inside row a keep =
    let x = count_left (shares_at c) s p _ inside row (share_is c) refl in
    let y = same_row (claims_at c) s.rows p free_row inside (rw row refl) refl in
    let z = same_row (drains_at c) s.rows p free_row inside (rw row refl) refl in
    Fits-flagged k h _ c
    (record {
      shared = omega (arith, x, a.shared);
      one = omega (arith, y, a.one);
      locked = λ i. y ∙ a.locked i;
      drained = λ i j. rw z (a.drained i j);
      still = λ i. absurd (omega (arith, x, (a.still i).1));
    })
    (λ e f. absurd (omega (arith, x, a.shared, f)))
keeps_at way.ShareWrite nature.Write k h s c p inside row a keep =
    let x = same_row (shares_at c) s.rows p free_row inside (rw row refl) refl in
    let y = count_left (claims_at c) s p _ inside row (claim_is c) refl in
    let z = same_row (drains_at c) s.rows p free_row inside (rw row refl) refl in
    Fits-flagged k h _ c
    (record {
      shared = omega (arith, x, a.shared);
      one = omega (arith, y, a.one);
      locked = λ i. omega (arith, y, a.one);
      drained = λ i j. rw z (a.drained i j);
      still = λ i. absurd (omega (arith, y, (a.still i).2));
    })
    (λ e f. absurd (omega (arith, y, a.locked e)))
keeps_at way.Drain nature.Write k h s c p inside row a keep =
    let x = same_row (shares_at c) s.rows p free_row inside (rw row refl) refl in
    let y = count_left (claims_at c) s p _ inside row (drain_is c).1 refl in
    let none : h.readers ≡ 0 = none_left h.readers keep in
    Fits-flagged k h _ c
    (record {
      shared = omega (arith, x, a.shared);
      one = omega (arith, y, a.one);
      locked = λ i. omega (arith, y, a.one);
      drained = λ i j. absurd (omega (arith, j, none));
      still = λ i. absurd (omega (arith, y, (a.still i).2));
    })
    (λ e f. absurd (omega (arith, y, a.locked e)))
keeps_at w n k h s c p inside row a keep = absurd (cc)

pub keeps_fit : (n : LockNature) (k : LockerKind) (h : Holders) (s : Rows) (c p : ℕ) → p < length s.rows → (row_of s p).cell ≡ c → Fits k h s c → keeps (row_of s p).waiting n h ≡ true → Fits k (flagged c (freed p s) h) (freed p s) c
keeps_fit n k h s c p party here fits keep =
    rw here (keeps_at (row_of s p).waiting n k h s c p party (rw (sym here) refl) fits keep)

-- a party that left is free, and nobody else came or went
pub left_free : (w : Waiting) (c p : ℕ) (s : Rows) → p < length s.rows → (row_of (left w c p s) p).waiting ≡ way.Free
left_free way.ParkedRead c p s inside = rw (get_or-set_same s.rows p free_row free_row inside)
left_free way.ParkedWrite c p s inside = rw (get_or-set_same s.rows p free_row free_row inside)
left_free way.Free c p s inside = rw (get_or-set_same s.rows p free_row free_row inside)
left_free way.Spin c p s inside = rw (get_or-set_same s.rows p free_row free_row inside)
left_free way.Drain c p s inside = rw (get_or-set_same s.rows p free_row free_row inside)
left_free way.ShareRead c p s inside = rw (get_or-set_same s.rows p free_row free_row inside)
left_free way.ShareWrite c p s inside = rw (get_or-set_same s.rows p free_row free_row inside)

pub freed_free : (p : ℕ) (s : Rows) → p < length s.rows → (row_of (freed p s) p).waiting ≡ way.Free
freed_free p s inside = left_free (row_of s p).waiting (row_of s p).cell p s inside

pub left_size : (w : Waiting) (c p : ℕ) (s : Rows) → (length (left w c p s).rows ≡ length s.rows) × (length (left w c p s).readers ≡ length s.readers)
left_size way.ParkedRead c p s = (length-set s.rows p _, length-set s.readers c _)
left_size way.ParkedWrite c p s = (length-set s.rows p _, refl)
left_size way.Free c p s = (length-set s.rows p _, refl)
left_size way.Spin c p s = (length-set s.rows p _, refl)
left_size way.Drain c p s = (length-set s.rows p _, refl)
left_size way.ShareRead c p s = (length-set s.rows p _, refl)
left_size way.ShareWrite c p s = (length-set s.rows p _, refl)

pub freed_size : (p : ℕ) (s : Rows) → (length (freed p s).rows ≡ length s.rows) × (length (freed p s).readers ≡ length s.readers)
freed_size p s = left_size (row_of s p).waiting (row_of s p).cell p s

-- a waiting call that gives up what it has, and is judged again
pub again_fits : (k k₁ : LockerKind) (fresh : Bool) (w : Who) (wake n : LockNature) (h h₁ : Holders) (s s₁ : Rows) (g : Given) (h₂ : Holders) (s₂ : Rows) (a : Attempt) (h₃ : Holders) (s₃ : Rows) →
    w.cell < length s.readers → w.party < length s.rows → (row_of s w.party).cell ≡ w.cell → IsSound s → Fits k h s w.cell →
    k₁ ≡ k → h₁ ≡ given_up (row_of s w.party).waiting h → s₁ ≡ freed w.party s → IsSound s₁ →
    Hands w.cell h₁ s₁ g h₂ s₂ → StayFree s₁ s₂ → SameSize s₁ s₂ →
    Judged k₁ fresh w wake n h₂ s₂ a h₃ s₃ → Fits k₁ h₃ s₃ w.cell
again_fits k k₁ fresh w wake n h h₁ s s₁ g h₂ s₂ a h₃ s₃ inside party here sound fits ek eh es sound₁ hands free same judged =
    let size : (length s₁.rows ≡ length s.rows) × (length s₁.readers ≡ length s.readers) = rw es (freed_size w.party s) in
    let holds : Holds k₁ h₁ s₁ w.cell = rw (ek, eh, es) (gives_up_freed k h s w.cell w.party inside sound.cells party here fits) in
    let alone : (row_of s₁ w.party).waiting ≡ way.Free = rw es (freed_free w.party s party) in
    judged_fits k₁ fresh w wake n h₂ s₂ a h₃ s₃ (omega (arith, size.0, same.parties)) (free w.party alone)
    (hands_fit g k₁ h₁ s₁ w.cell h₂ s₂ (omega (arith, size.1)) sound₁ holds hands) judged
