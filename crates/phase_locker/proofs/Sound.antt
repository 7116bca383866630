-- The lists of each cell have exactly the parties whose rows say so, whatever a party does.
use Rattle.std.proofs.Common.{◌≡◌, ◌≢◌, ◌⊎◌, inl, inr, ◌==◌, ℕ, ◌<◌, ◌≤◌, Bool, true, false, List, [], ◌∷◌, ◌++◌, length, refl, arith, ◌∙◌, ap, sym, ◌&&◌, ◌||◌}
use Rattle.std.proofs.Math.ListN.{set, get_or, length-set, length-replicate}
use Rattle.std.proofs.lemmas.List.{get_or-set_other, get_or-set_same, get_or-replicate}
use Rattle.std.proofs.lemmas.List.Sums.{count_by-le-length}
use Rattle.std.proofs.lemmas.Bool.{cases_eq, cases_lt}
use Rattle.std.specs.Prelude.{replicate}
use Rattle.phase_locker.specs.declared.ways.Row.{Row}
use Rattle.phase_locker.specs.declared.ways.Waiting.{Waiting}
use Rattle.phase_locker.specs.declared.ways.Waiting.TheVariants as way
use Rattle.phase_locker.specs.Rows.{Rows, occurs, without, free_row, row_of, readers_of, writers_of, reads_at, writes_at, shares_at, is_parked, is_parked_read, is_parked_write, park_reader, park_writer, rows_to_readers, shared, IsSound}
use Rattle.phase_locker.specs.Links.{IsRoster}
use Rattle.phase_locker.proofs.Filters.{eq_self, ne_zero, other_cell, occurs-append, occurs-without, not_eq}
use Rattle.phase_locker.proofs.Counts.{one_if, is_one, not_past, write_inside, AllRead, shares-shared}
use Rattle.phase_locker.proofs.Shares.{length-shared, row-shared_other}
use Rattle.phase_locker.proofs.Handed.{row-shared_same}
use Rattle.phase_locker.proofs.Holding.{all_read}

-- sound rows, where each parked party's cell is one of them
pub record IsWhole (s : Rows) : Type 0 where
  pub sound : IsSound s
  pub inside : (p : ℕ) → is_parked (row_of s p).waiting ≡ true → (row_of s p).cell < length s.readers

-- the lists of one kind, after a row changes: they have its party where the new row says so, and the others as before
pub record IsChange (test : ℕ → Row → Bool) (p : ℕ) (r : Row) (old new : List (List ℕ)) : Type 0 where
  pub size : length new ≡ length old
  pub here : (c : ℕ) → c < length old → occurs p (get_or new c []) ≡ one_if (test c r)
  pub there : (c q : ℕ) → c < length old → q ≢ p → occurs q (get_or new c []) ≡ occurs q (get_or old c [])

changed : (test : ℕ → Row → Bool) (s : Rows) (p : ℕ) (r : Row) (old new : List (List ℕ)) → p < length s.rows → IsChange test p r old new →
    ((c q : ℕ) → c < length old → occurs q (get_or old c []) ≡ one_if (test c (row_of s q))) →
    (c q : ℕ) → c < length new → occurs q (get_or new c []) ≡ one_if (test c (get_or (set s.rows p r) q free_row))
changed test s p r old new inside k sound c q h =
    let there : c < length old = omega (arith, h, k.size) in
    elim (cases_eq q p) [
      | inl e ↦ rw (e, get_or-set_same s.rows p r free_row inside) (k.here c there)
      | inr n ↦ rw (get_or-set_other s.rows p q r free_row n) (k.there c q there n ∙ sound c q there)
    ]

pub whole_changed : (s : Rows) (p : ℕ) (r : Row) (rs ws : List (List ℕ)) → p < length s.rows → IsWhole s → IsChange reads_at p r s.readers rs → IsChange writes_at p r s.writers ws → (is_parked r.waiting ≡ true → r.cell < length s.readers) →
    IsWhole (record { rows = set s.rows p r; readers = rs; writers = ws })
whole_changed s p r rs ws inside w reads writes cell =
    let same = w.sound.cells in
    record {
      sound = record {
        readers = λ c q h. changed reads_at s p r s.readers rs inside reads w.sound.readers c q h;
        writers = λ c q h. changed writes_at s p r s.writers ws inside writes (λ d x k. w.sound.writers d x (omega (arith, k, same))) c q (omega (arith, h, same, reads.size, writes.size));
        cells = omega (arith, same, reads.size, writes.size);
        few = omega (arith, w.sound.few, length-set s.rows p r);
      };
      inside = λ q h. elim (cases_eq q p) [
        | inl e ↦
            let now = get_or-set_same s.rows p r free_row inside in
            rw (e, now) (omega (arith, reads.size, cell (ap (λ (x : Row). is_parked x.waiting) (sym now) ∙ ap (λ x. is_parked (get_or (set s.rows p r) x free_row).waiting) (sym e) ∙ h)))
        | inr n ↦
            let same_q = get_or-set_other s.rows p q r free_row n in
            rw same_q (omega (arith, reads.size, w.inside q (ap (λ (x : Row). is_parked x.waiting) (sym same_q) ∙ h)))
      ];
    }

-- ---- how the lists change

-- the party is in no list of this kind before or after
pub unlisted : (test : ℕ → Row → Bool) (p : ℕ) (r : Row) (old : List (List ℕ)) → ((c : ℕ) → c < length old → occurs p (get_or old c []) ≡ 0) → ((c : ℕ) → test c r ≡ false) → IsChange test p r old old
unlisted test p r old none now = record {
  size = refl;
  here = λ c h. none c h ∙ ap one_if (sym (now c));
  there = λ c q h n. refl;
}

-- the party comes to the list of this cell
pub listed_more : (test : ℕ → Row → Bool) (p c : ℕ) (r : Row) (old : List (List ℕ)) → ((d : ℕ) → d < length old → occurs p (get_or old d []) ≡ 0) → test c r ≡ true → ((d : ℕ) → d ≢ c → test d r ≡ false) → IsChange test p r old (set old c (get_or old c [] ++ p ∷ []))
listed_more test p c r old none here other = record {
  size = length-set old c _;
  here = λ d h. elim (cases_eq d c) [
    | inl e ↦ rw (e, get_or-set_same old c (get_or old c [] ++ p ∷ []) [] (rw e at h), here, occurs-append p (get_or old c []) (p ∷ []), eq_self p) (omega (arith, none c (rw e at h)))
    | inr n ↦ rw (get_or-set_other old c d (get_or old c [] ++ p ∷ []) [] n, other d n) (none d h)
  ];
  there = λ d q h m. elim (cases_eq d c) [
    | inl e ↦ rw (e, get_or-set_same old c (get_or old c [] ++ p ∷ []) [] (rw e at h), occurs-append q (get_or old c []) (p ∷ []), ne_zero p q (λ t. m (sym t))) (omega arith)
    | inr n ↦ rw (get_or-set_other old c d (get_or old c [] ++ p ∷ []) [] n) refl
  ];
}

-- the party leaves the list of this cell
pub listed_less : (test : ℕ → Row → Bool) (p c : ℕ) (r : Row) (old : List (List ℕ)) → ((d : ℕ) → d < length old → d ≢ c → occurs p (get_or old d []) ≡ 0) → ((d : ℕ) → test d r ≡ false) → IsChange test p r old (set old c (without p (get_or old c [])))
listed_less test p c r old none now = record {
  size = length-set old c _;
  here = λ d h. elim (cases_eq d c) [
    | inl e ↦ rw (e, get_or-set_same old c (without p (get_or old c [])) [] (rw e at h), now c, occurs-without p p (get_or old c []), eq_self p) refl
    | inr n ↦ rw (get_or-set_other old c d (without p (get_or old c [])) [] n, now d) (none d h n)
  ];
  there = λ d q h m. elim (cases_eq d c) [
    | inl e ↦ rw (e, get_or-set_same old c (without p (get_or old c [])) [] (rw e at h), occurs-without p q (get_or old c []), not_eq q p m) refl
    | inr n ↦ rw (get_or-set_other old c d (without p (get_or old c [])) [] n) refl
  ];
}

-- ---- a party parks, leaves or waits otherwise

both_false : (a b : Bool) → (a || b) ≡ false → (a ≡ false) × (b ≡ false)
both_false true b e = absurd (cc)
both_false false b e = (refl, e)

pub unparked : (c : ℕ) (r : Row) → is_parked r.waiting ≡ false → (reads_at c r ≡ false) × (writes_at c r ≡ false)
unparked c r e =
    let both = both_false (is_parked_read r.waiting) (is_parked_write r.waiting) e in
    (rw both.0 refl, rw both.1 refl)

pub free_unparked : (r : Row) → r.waiting ≡ way.Free → is_parked r.waiting ≡ false
free_unparked r e = rw e refl

module _ (s : Rows) (p : ℕ) (r : Row) (inside : p < length s.rows) (w : IsWhole s) where
  pub no_reader : ((c : ℕ) → reads_at c (row_of s p) ≡ false) → (c : ℕ) → c < length s.readers → occurs p (readers_of s c) ≡ 0
  no_reader none c h = w.sound.readers c p h ∙ ap one_if (none c)

  pub no_writer : ((c : ℕ) → writes_at c (row_of s p) ≡ false) → (c : ℕ) → c < length s.writers → occurs p (writers_of s c) ≡ 0
  no_writer none c h = w.sound.writers c p (omega (arith, h, w.sound.cells)) ∙ ap one_if (none c)

  pub whole_plain : is_parked (row_of s p).waiting ≡ false → is_parked r.waiting ≡ false → IsWhole (record { rows = set s.rows p r; readers = s.readers; writers = s.writers })
  whole_plain before after =
      whole_changed s p r s.readers s.writers inside w
      (unlisted reads_at p r s.readers (no_reader (λ c. (unparked c (row_of s p) before).0)) (λ c. (unparked c r after).0))
      (unlisted writes_at p r s.writers (no_writer (λ c. (unparked c (row_of s p) before).1)) (λ c. (unparked c r after).1))
      (λ e. absurd (cc))

  pub whole_reader_left : (c : ℕ) → row_of s p ≡ record { waiting = way.ParkedRead; cell = c } → is_parked r.waiting ≡ false → IsWhole (record { rows = set s.rows p r; readers = set s.readers c (without p (readers_of s c)); writers = s.writers })
  whole_reader_left c row after =
      whole_changed s p r _ s.writers inside w
      (listed_less reads_at p c r s.readers (λ d h n. w.sound.readers d p h ∙ ap (λ x. one_if (reads_at d x)) row ∙ ap one_if (other_cell c d n)) (λ d. (unparked d r after).0))
      (unlisted writes_at p r s.writers (no_writer (λ d. ap (writes_at d) row)) (λ d. (unparked d r after).1))
      (λ e. absurd (cc))

  pub whole_writer_left : (c : ℕ) → row_of s p ≡ record { waiting = way.ParkedWrite; cell = c } → is_parked r.waiting ≡ false → IsWhole (record { rows = set s.rows p r; readers = s.readers; writers = set s.writers c (without p (writers_of s c)) })
  whole_writer_left c row after =
      whole_changed s p r s.readers _ inside w
      (unlisted reads_at p r s.readers (no_reader (λ d. ap (reads_at d) row)) (λ d. (unparked d r after).0))
      (listed_less writes_at p c r s.writers (λ d h n. w.sound.writers d p (omega (arith, h, w.sound.cells)) ∙ ap (λ x. one_if (writes_at d x)) row ∙ ap one_if (other_cell c d n)) (λ d. (unparked d r after).1))
      (λ e. absurd (cc))

module _ (s : Rows) (p c : ℕ) (inside : p < length s.rows) (cell : c < length s.readers) (before : is_parked (row_of s p).waiting ≡ false) (w : IsWhole s) where
  pub whole_park_reader : IsWhole (park_reader c p s)
  whole_park_reader =
      let r : Row = record { waiting = way.ParkedRead; cell = c } in
      whole_changed s p r _ s.writers inside w
      (listed_more reads_at p c r s.readers (no_reader s p r inside w (λ d. (unparked d (row_of s p) before).0)) (eq_self c) (λ d n. other_cell c d n))
      (unlisted writes_at p r s.writers (no_writer s p r inside w (λ d. (unparked d (row_of s p) before).1)) (λ d. refl))
      (λ e. cell)

  pub whole_park_writer : IsWhole (park_writer c p s)
  whole_park_writer =
      let r : Row = record { waiting = way.ParkedWrite; cell = c } in
      whole_changed s p r s.readers _ inside w
      (unlisted reads_at p r s.readers (no_reader s p r inside w (λ d. (unparked d (row_of s p) before).0)) (λ d. refl))
      (listed_more writes_at p c r s.writers (no_writer s p r inside w (λ d. (unparked d (row_of s p) before).1)) (eq_self c) (λ d n. other_cell c d n))
      (λ e. cell)

-- ---- which lists a party is in

read_cell : (w : Waiting) (a b : Bool) → (is_parked_read w && a) ≡ true → ((is_parked_write w && b) ≡ false) × (a ≡ true) × (is_parked_read w ≡ true)
read_cell way.ParkedRead a b e = (refl, e, refl)
read_cell way.Free a b e = absurd (cc)
read_cell way.Spin a b e = absurd (cc)
read_cell way.ParkedWrite a b e = absurd (cc)
read_cell way.Drain a b e = absurd (cc)
read_cell way.ShareRead a b e = absurd (cc)
read_cell way.ShareWrite a b e = absurd (cc)

write_cell : (w : Waiting) (a b : Bool) → (is_parked_write w && a) ≡ true → ((is_parked_read w && b) ≡ false) × (a ≡ true) × (is_parked_write w ≡ true)
write_cell way.ParkedWrite a b e = (refl, e, refl)
write_cell way.Free a b e = absurd (cc)
write_cell way.Spin a b e = absurd (cc)
write_cell way.ParkedRead a b e = absurd (cc)
write_cell way.Drain a b e = absurd (cc)
write_cell way.ShareRead a b e = absurd (cc)
write_cell way.ShareWrite a b e = absurd (cc)

here_not : (n c d : ℕ) → c ≢ d → (n == d) ≡ true → (n == c) ≡ false
here_not n c d m e = grind (arith, e)

and_false : (a b : Bool) → b ≡ false → (a && b) ≡ false
and_false true b e = e
and_false false b e = refl

-- a parked reader of one cell is none of another, and no parked writer; and the other way round
pub reads_alone : (c d : ℕ) (r : Row) → reads_at d r ≡ true → (c ≢ d → reads_at c r ≡ false) × (writes_at c r ≡ false)
reads_alone c d r e =
    let is = read_cell r.waiting (r.cell == d) (r.cell == c) e in
    ((λ n. and_false (is_parked_read r.waiting) (r.cell == c) (here_not r.cell c d n is.1)), is.0)

pub writes_alone : (c d : ℕ) (r : Row) → writes_at d r ≡ true → (c ≢ d → writes_at c r ≡ false) × (reads_at c r ≡ false)
writes_alone c d r e =
    let is = write_cell r.waiting (r.cell == d) (r.cell == c) e in
    ((λ n. and_false (is_parked_write r.waiting) (r.cell == c) (here_not r.cell c d n is.1)), is.0)

module _ (s : Rows) (sound : IsSound s) (d x : ℕ) (h : d < length s.readers) where
  pub is_reader : 0 < occurs x (readers_of s d) → reads_at d (row_of s x) ≡ true
  is_reader some = is_one _ (omega (arith, some, sound.readers d x h))

  pub is_writer : 0 < occurs x (writers_of s d) → writes_at d (row_of s x) ≡ true
  is_writer some = is_one _ (omega (arith, some, sound.writers d x h))

  module _ (c : ℕ) (k : c < length s.readers) where
    pub reader_apart : 0 < occurs x (readers_of s d) → (c ≢ d → occurs x (readers_of s c) ≡ 0) × (occurs x (writers_of s c) ≡ 0)
    reader_apart some =
        let alone = reads_alone c d (row_of s x) (is_reader some) in
        ((λ n. sound.readers c x k ∙ ap one_if (alone.0 n)), sound.writers c x k ∙ ap one_if alone.1)

    pub writer_apart : 0 < occurs x (writers_of s d) → (c ≢ d → occurs x (writers_of s c) ≡ 0) × (occurs x (readers_of s c) ≡ 0)
    writer_apart some =
        let alone = writes_alone c d (row_of s x) (is_writer some) in
        ((λ n. sound.writers c x k ∙ ap one_if (alone.0 n)), sound.readers c x k ∙ ap one_if alone.1)

pub below_two : (b : Bool) → one_if b ≤ 1
below_two true = omega arith
below_two false = omega arith

-- the lists of a cell are rosters
pub readers_roster : (s : Rows) (c : ℕ) → IsSound s → c < length s.readers → IsRoster (length s.rows) (readers_of s c)
readers_roster s c sound h = record {
  once = λ p. rw (sound.readers c p h) (below_two _);
  below = λ p some. not_past c s.rows p (is_reader s sound c p h some);
}

pub writers_roster : (s : Rows) (c : ℕ) → IsSound s → c < length s.readers → IsRoster (length s.rows) (writers_of s c)
writers_roster s c sound h = record {
  once = λ p. rw (sound.writers c p h) (below_two _);
  below = λ p some. write_inside c s.rows p (is_writer s sound c p h some);
}

-- a roster is no longer than there are rows
abbrev waiting_row : Row
waiting_row = record { waiting = way.ParkedRead; cell = 0 }

all_waiting : (n : ℕ) (ps : List ℕ) → IsRoster n ps → AllRead 0 ps (replicate n waiting_row)
all_waiting n ps k = λ p. elim (cases_lt 0 (occurs p ps)) [
  | inl some ↦ rw (get_or-replicate n p waiting_row free_row (k.below p some)) (k.once p)
  | inr none ↦ omega (arith, none)
]

pub roster_few : (n : ℕ) (ps : List ℕ) → IsRoster n ps → length ps ≤ n
roster_few n ps k =
    let more = shares-shared 0 ps (replicate n waiting_row) (all_waiting n ps k) in
    let most = count_by-le-length (shares_at 0) (shared 0 ps (replicate n waiting_row)) in
    omega (arith, more, most, length-shared 0 ps (replicate n waiting_row), length-replicate n waiting_row)

-- ---- the readers of a cell are given shares

module _ (s : Rows) (c : ℕ) (cell : c < length s.readers) (w : IsWhole s) where
  abbrev after : List Row
  after = shared c (readers_of s c) s.rows

  row_after : (q : ℕ) → ((reads_at c (row_of s q) ≡ true) × (get_or after q free_row ≡ record { waiting = way.ShareRead; cell = c })) ⊎ ((occurs q (readers_of s c) ≡ 0) × (get_or after q free_row ≡ row_of s q))
  row_after q = elim (cases_lt 0 (occurs q (readers_of s c))) [
    | inl some ↦ inl (is_reader s w.sound c q cell some, row-shared_same c (readers_of s c) s.rows q (all_read c s cell w.sound) some)
    | inr none ↦ let zero_q : occurs q (readers_of s c) ≡ 0 = omega (arith, none) in inr (zero_q, row-shared_other c (readers_of s c) s.rows q zero_q)
  ]

  readers_after : (d q : ℕ) → d < length s.readers → occurs q (get_or (set s.readers c []) d []) ≡ one_if (reads_at d (get_or after q free_row))
  readers_after d q h = elim (cases_eq d c) [
    | inl e ↦ rw (e, get_or-set_same s.readers c [] [] cell) (elim (row_after q) [
      | inl t ↦ rw t.1 refl
      | inr t ↦ rw t.1 (sym t.0 ∙ w.sound.readers c q cell)
    ])
    | inr n ↦ rw (get_or-set_other s.readers c d [] [] n) (elim (row_after q) [
      | inl t ↦ rw t.1 (w.sound.readers d q h ∙ ap one_if ((reads_alone d c (row_of s q) t.0).0 n))
      | inr t ↦ rw t.1 (w.sound.readers d q h)
    ])
  ]

  writers_after : (d q : ℕ) → d < length s.readers → occurs q (writers_of s d) ≡ one_if (writes_at d (get_or after q free_row))
  writers_after d q h = elim (row_after q) [
    | inl t ↦ rw t.1 (w.sound.writers d q h ∙ ap one_if (reads_alone d c (row_of s q) t.0).1)
    | inr t ↦ rw t.1 (w.sound.writers d q h)
  ]

  inside_after : (q : ℕ) → is_parked (get_or after q free_row).waiting ≡ true → (get_or after q free_row).cell < length s.readers
  inside_after q e = elim (row_after q) [
    | inl t ↦ let parked = rw t.1 at e in absurd (cc)
    | inr t ↦ rw t.1 (w.inside q (rw t.1 at e))
  ]

  pub whole_shared : IsWhole (rows_to_readers c s)
  whole_shared =
      let size = length-set s.readers c [] in
      record {
        sound = record {
          readers = λ d q h. readers_after d q (omega (arith, h, size));
          writers = λ d q h. writers_after d q (omega (arith, h, size));
          cells = omega (arith, w.sound.cells, size);
          few = omega (arith, w.sound.few, length-shared c (readers_of s c) s.rows);
        };
        inside = λ q e. omega (arith, size, inside_after q e);
      }

-- a party that does not wait is in no list
pub unlisted_reader : (s : Rows) (p c : ℕ) → IsSound s → c < length s.readers → (row_of s p).waiting ≡ way.Free → occurs p (readers_of s c) ≡ 0
unlisted_reader s p c sound h free = sound.readers c p h ∙ ap one_if (unparked c (row_of s p) (free_unparked (row_of s p) free)).0

pub unlisted_writer : (s : Rows) (p c : ℕ) → IsSound s → c < length s.readers → (row_of s p).waiting ≡ way.Free → occurs p (writers_of s c) ≡ 0
unlisted_writer s p c sound h free = sound.writers c p h ∙ ap one_if (unparked c (row_of s p) (free_unparked (row_of s p) free)).1
