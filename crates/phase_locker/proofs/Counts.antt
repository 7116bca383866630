-- How many rows of a cell wait so, after a row changes.
use Rattle.std.proofs.Common.{inl, inr, ◌≡◌, ◌==◌, ℕ, ◌+◌, ◌<◌, ◌≤◌, zero-le, Bool, true, false, List, [], ◌∷◌, length, refl, arith, ◌∙◌, cond, ◌&&◌}
use Rattle.std.proofs.Math.ListN.{get_or, set}
use Rattle.std.proofs.lemmas.List.{get_or-set_other}
use Rattle.std.proofs.lemmas.List.Sums.{sum_by-set}
use Rattle.std.proofs.lemmas.Bool.{cases_eq}
use Rattle.std.proofs.lemmas.Grind.{common_steps}
use Rattle.std.specs.Prelude.{count_by}
use Rattle.phase_locker.specs.declared.ways.Row.{Row}
use Rattle.phase_locker.specs.declared.ways.Waiting.{Waiting}
use Rattle.phase_locker.specs.declared.ways.Waiting.TheVariants as way
use Rattle.phase_locker.specs.Rows.{shared, occurs, free_row, reads_at, writes_at, shares_at, drains_at, claims_at, is_parked_read, is_parked_write, is_share_read, is_drain, is_claim}
use Rattle.phase_locker.proofs.Filters.{eq_self}

abbrev pub one_if : Bool → ℕ
one_if b = cond b 1 0

-- a count after a row is replaced
pub count-set : (f : Row → Bool) (rows : List Row) (p : ℕ) (r : Row) → p < length rows → count_by f (set rows p r) + one_if (f (get_or rows p free_row)) ≡ count_by f rows + one_if (f r)
count-set f rows p r h = sum_by-set (λ x. one_if (f x)) rows p r free_row h

-- a row past the end is free
pub past_end : (rows : List Row) (p : ℕ) → length rows ≤ p → get_or rows p free_row ≡ free_row
past_end rows p h = grind (arith, common_steps)

-- each of these parties is a parked reader of the cell, and none stands twice
abbrev pub AllRead : ℕ → List ℕ → List Row → Type 0
AllRead c ps rows = (p : ℕ) → occurs p ps ≤ one_if (reads_at c (get_or rows p free_row))

-- a parked reader is nothing else
pub read_alone : (w : Waiting) (b : Bool) → (is_parked_read w && b) ≡ true → ((is_share_read w && b) ≡ false) × ((is_claim w && b) ≡ false) × ((is_drain w && b) ≡ false)
read_alone way.ParkedRead b h = (refl, refl, refl)
read_alone way.Free b h = cc
read_alone way.Spin b h = cc
read_alone way.ParkedWrite b h = cc
read_alone way.Drain b h = cc
read_alone way.ShareRead b h = cc
read_alone way.ShareWrite b h = cc

pub write_alone : (w : Waiting) (b : Bool) → (is_parked_write w && b) ≡ true → ((is_share_read w && b) ≡ false) × ((is_claim w && b) ≡ false) × ((is_drain w && b) ≡ false)
write_alone way.ParkedWrite b h = (refl, refl, refl)
write_alone way.Free b h = cc
write_alone way.Spin b h = cc
write_alone way.ParkedRead b h = cc
write_alone way.Drain b h = cc
write_alone way.ShareRead b h = cc
write_alone way.ShareWrite b h = cc

pub read_is : (c : ℕ) (r : Row) → reads_at c r ≡ true → (shares_at c r ≡ false) × (claims_at c r ≡ false) × (drains_at c r ≡ false)
read_is c r h = read_alone r.waiting (r.cell == c) h

pub write_is : (c : ℕ) (r : Row) → writes_at c r ≡ true → (shares_at c r ≡ false) × (claims_at c r ≡ false) × (drains_at c r ≡ false)
write_is c r h = write_alone r.waiting (r.cell == c) h

pub share_is : (c : ℕ) → (shares_at c (record { waiting = way.ShareRead; cell = c }) ≡ true)
share_is c = eq_self c

pub is_one : (b : Bool) → 1 ≤ one_if b → b ≡ true
is_one true h = refl
is_one false h = absurd (omega arith)

pub not_past : (c : ℕ) (rows : List Row) (p : ℕ) → reads_at c (get_or rows p free_row) ≡ true → p < length rows
not_past c rows p h = grind (arith, common_steps, past_end rows p)

pub AllRead-head : (c p : ℕ) (ps : List ℕ) (rows : List Row) → AllRead c (p ∷ ps) rows → (reads_at c (get_or rows p free_row) ≡ true) × (occurs p ps ≡ 0) × (p < length rows)
AllRead-head c p ps rows h =
    let here : one_if (p == p) + occurs p ps ≤ one_if (reads_at c (get_or rows p free_row)) = h p in
    let one : 1 + occurs p ps ≤ one_if (reads_at c (get_or rows p free_row)) = rw (eq_self p) at here in
    let b : reads_at c (get_or rows p free_row) ≡ true = is_one _ (omega arith) in
    let none : 1 + occurs p ps ≤ 1 = rw b at one in
    (b, omega arith, not_past c rows p b)

pub tail_at : (c p q : ℕ) (ps : List ℕ) (rows : List Row) (r : Row) → occurs p ps ≡ 0 → one_if (p == q) + occurs q ps ≤ one_if (reads_at c (get_or rows q free_row)) → occurs q ps ≤ one_if (reads_at c (get_or (set rows p r) q free_row))
tail_at c p q ps rows r none h =
    elim (cases_eq q p) [ inl e ↦ rw e (rw none zero-le) | inr n ↦ rw (get_or-set_other rows p q r free_row n) (omega arith) ]

pub AllRead-tail : (c p : ℕ) (ps : List ℕ) (rows : List Row) (r : Row) → AllRead c (p ∷ ps) rows → AllRead c ps (set rows p r)
AllRead-tail c p ps rows r h = λ q.
    let head = AllRead-head c p ps rows h in
    let at_q : one_if (p == q) + occurs q ps ≤ one_if (reads_at c (get_or rows q free_row)) = h q in
    tail_at c p q ps rows r head.1 at_q

pub shares-shared : (c : ℕ) (ps : List ℕ) (rows : List Row) → AllRead c ps rows → count_by (shares_at c) (shared c ps rows) ≡ count_by (shares_at c) rows + length ps
unfolding shared
shares-shared c [] rows h = omega arith
shares-shared c (p ∷ ps) rows h =
    let head = AllRead-head c p ps rows h in
    let is = read_is c (get_or rows p free_row) head.0 in
    let next = shares-shared c ps (set rows p (record { waiting = way.ShareRead; cell = c })) (AllRead-tail c p ps rows _ h) in
    let one = count-set (shares_at c) rows p (record { waiting = way.ShareRead; cell = c }) head.2 in
    let one' = rw (is.0, share_is c) at one in
    next ∙ omega arith

-- a count that neither a parked reader nor a read share is in stays
pub same-shared : (f : Row → Bool) (c : ℕ) → ((r : Row) → reads_at c r ≡ true → f r ≡ false) → f (record { waiting = way.ShareRead; cell = c }) ≡ false → (ps : List ℕ) (rows : List Row) → AllRead c ps rows → count_by f (shared c ps rows) ≡ count_by f rows
unfolding shared
same-shared f c apart none [] rows h = refl
same-shared f c apart none (p ∷ ps) rows h =
    let head = AllRead-head c p ps rows h in
    let is = apart (get_or rows p free_row) head.0 in
    let next = same-shared f c apart none ps (set rows p (record { waiting = way.ShareRead; cell = c })) (AllRead-tail c p ps rows _ h) in
    let one = count-set f rows p (record { waiting = way.ShareRead; cell = c }) head.2 in
    let one' = rw (is, none) at one in
    next ∙ omega arith

pub is_one-if : (b : Bool) → one_if b ≡ 1 → b ≡ true
is_one-if true h = refl
is_one-if false h = absurd (omega arith)

pub write_inside : (c : ℕ) (rows : List Row) (p : ℕ) → writes_at c (get_or rows p free_row) ≡ true → p < length rows
write_inside c rows p h = grind (arith, common_steps, past_end rows p)

pub claim_is : (c : ℕ) → claims_at c (record { waiting = way.ShareWrite; cell = c }) ≡ true
claim_is c = eq_self c

pub drain_is : (c : ℕ) → (drains_at c (record { waiting = way.Drain; cell = c }) ≡ true) × (claims_at c (record { waiting = way.Drain; cell = c }) ≡ true)
drain_is c = (eq_self c, eq_self c)

-- a free row has nothing
pub free_is : (c : ℕ) (r : Row) → r.waiting ≡ way.Free → (shares_at c r ≡ false) × (claims_at c r ≡ false) × (drains_at c r ≡ false)
free_is c r e = rw e (refl, refl, refl)
