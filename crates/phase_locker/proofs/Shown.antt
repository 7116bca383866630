-- Linked rows show what contracts see.
use Rattle.std.proofs.Common.{zero, suc, ◌≡◌, ◌≢◌, inl, inr, ℕ, ◌<◌, true, false, ◌&&◌, List, [], ◌∷◌, ◌++◌, length, refl, arith, ◌∙◌, ap, sym}
use Rattle.std.proofs.Math.ListN.{set, get_or, length-set, length-map, length-replicate}
use Rattle.std.proofs.lemmas.List.{get_or-set_other, get_or-set_same, get_or-map, get_or_read, ext_get_or}
use Rattle.std.proofs.lemmas.Bool.{cases_eq}
use Rattle.std.specs.Prelude.{map, replicate, not, ◌==◌, Some, IfSome, IsNone, ◌↔◌}
use Rattle.std.specs.Bool.{then_some}
use Rattle.phase_bits.specs.Records.{readers_limit}
use Rattle.phase_locker.specs.declared.ways.Row.{Row}
use Rattle.phase_locker.specs.declared.ways.Waiting.{Waiting}
use Rattle.phase_locker.specs.declared.ways.Waiting.TheVariants as way
use Rattle.phase_locker.specs.declared.links.Link.{Link}
use Rattle.phase_locker.specs.declared.links.Queue.{Queue}
use Rattle.phase_locker.specs.declared.links.Queues.{Queues}
use Rattle.phase_locker.specs.Rows.{Rows, no_rows, free_row, row_of, readers_of, writers_of, first_of, occurs, without, is_parked, is_empty, is_parked_read, is_parked_write, reads_at, writes_at, park_reader, park_writer, rows_to_readers, shared, freed, left}
use Rattle.phase_locker.specs.Links.{queues_of, listed, seen, writer_left, IsQueue, IsRoster, IsShown, LinksStay}
use Rattle.phase_locker.proofs.Filters.{eq_self, occurs-append, ne_zero, first_in}
use Rattle.phase_locker.proofs.Linked.{listed_is, queue_same, apart_from}
use Rattle.phase_locker.proofs.Handed.{at_free}
use Rattle.phase_locker.proofs.Shares.{length-shared}
use Rattle.phase_locker.proofs.Sound.{IsWhole, no_reader, no_writer, unparked, reader_apart, writer_apart, whole_plain, whole_park_reader, whole_park_writer, whole_reader_left, whole_writer_left, whole_shared, is_reader, is_writer, readers_roster, writers_roster, roster_few, free_unparked}

pub whole_of : (links : List Link) (queues : List Queues) (s : Rows) → IsShown links queues s → IsWhole s
whole_of links queues s k = record { sound = k.sound; inside = k.inside }

same_rows : {r u : List Row} {a b v w : List (List ℕ)} → r ≡ u → a ≡ b → v ≡ w → ◌≡◌ {A = Rows} record { rows = r; readers = a; writers = v } record { rows = u; readers = b; writers = w }
same_rows d e f = λ i. record { rows = d i; readers = e i; writers = f i }

abbrev no_queues : Queues
no_queues = record { readers = record { count = 0; first = 0; last = 0 }; writers = record { count = 0; first = 0; last = 0 } }

lists_shown : (links : List Link) (part : Queues → Queue) (queues : List Queues) (lists : List (List ℕ)) → length queues ≡ length lists → ((c : ℕ) → c < length queues → IsQueue links (part (queues_of queues c)) (get_or lists c [])) → map (λ (q : Queues). listed links (part q)) queues ≡ lists
lists_shown links part queues lists size k =
    let long = length-map queues (λ (q : Queues). listed links (part q)) in
    ext_get_or [] (map (λ (q : Queues). listed links (part q)) queues) lists (omega (arith, long, size))
    (λ c h. let inside : c < length queues = omega (arith, h, long) in get_or-map (λ (q : Queues). listed links (part q)) queues c no_queues [] inside ∙ listed_is links (part (queues_of queues c)) (get_or lists c []) (k c inside))

-- what is shown is seen
pub shown_seen : (rows : List Row) (links : List Link) (queues : List Queues) (s : Rows) → rows ≡ s.rows → IsShown links queues s → seen rows links queues ≡ s
shown_seen rows links queues s e k =
    same_rows e (lists_shown links (λ (q : Queues). q.readers) queues s.readers k.cells k.readers) (lists_shown links (λ (q : Queues). q.writers) queues s.writers (omega (arith, k.cells, k.sound.cells)) k.writers)

pub shown_kept : (rows : List Row) (links : List Link) (queues : List Queues) (s : Rows) → rows ≡ s.rows → IsShown links queues s → IsShown links queues (seen rows links queues)
shown_kept rows links queues s e k = rw (shown_seen rows links queues s e k) k

-- what is seen is shown
pub shown_value : (rows : List Row) (links : List Link) (queues : List Queues) (s : Rows) → seen rows links queues ≡ s → IsShown links queues (seen rows links queues) → IsShown links queues s × (rows ≡ s.rows)
shown_value rows links queues s e k = (rw e at k, ap (λ (t : Rows). t.rows) e)

-- the queue of one cell changes, and the lists of other cells have none of the parties whose links do
module _ (links new : List Link) (part : Queues → Queue) (queues : List Queues) (lists : List (List ℕ)) (c : ℕ) (fresh : Queues) (ps touched : List ℕ) (stay : LinksStay touched links new) (size : length queues ≡ length lists) where
  pub list_changes : c < length queues → ((d : ℕ) → d < length queues → IsQueue links (part (queues_of queues d)) (get_or lists d [])) → ((d x : ℕ) → d < length queues → c ≢ d → 0 < occurs x (get_or lists d []) → occurs x touched ≡ 0) →
      IsQueue new (part fresh) ps → (d : ℕ) → d < length (set queues c fresh) → IsQueue new (part (queues_of (set queues c fresh) d)) (get_or (set lists c ps) d [])
  list_changes cell k apart now d h = elim (cases_eq d c) [
    | inl e ↦ rw (e, get_or-set_same queues c fresh no_queues cell, get_or-set_same lists c ps [] (omega (arith, cell, size))) now
    | inr n ↦
        let inside : d < length queues = omega (arith, h, length-set queues c fresh) in
        rw (get_or-set_other queues c d fresh no_queues n, get_or-set_other lists c d ps [] n) (queue_same links new _ _ (λ x some. stay x (apart d x inside (λ e. n (sym e)) some)) (k d inside))
  ]

  pub list_stays : part fresh ≡ part (queues_of queues c) → c < length queues → ((d : ℕ) → d < length queues → IsQueue links (part (queues_of queues d)) (get_or lists d [])) → ((d x : ℕ) → d < length queues → 0 < occurs x (get_or lists d []) → occurs x touched ≡ 0) →
      (d : ℕ) → d < length (set queues c fresh) → IsQueue new (part (queues_of (set queues c fresh) d)) (get_or lists d [])
  list_stays same cell k apart d h =
      let inside : d < length queues = omega (arith, h, length-set queues c fresh) in
      let there = queue_same links new (part (queues_of queues d)) (get_or lists d []) (λ x some. stay x (apart d x inside some)) (k d inside) in
      elim (cases_eq d c) [
        | inl e ↦ let here = rw e at there in rw (e, get_or-set_same queues c fresh no_queues cell, same) here
        | inr n ↦ rw (get_or-set_other queues c d fresh no_queues n) there
      ]

-- ---- the lists of one cell change

module _ (links new : List Link) (queues : List Queues) (s : Rows) (rows : List Row) (c : ℕ) (q : Queue) (ps touched : List ℕ)
    (k : IsShown links queues s) (cell : c < length s.readers) (people : length rows ≡ length s.rows) (size : length new ≡ length links) (queue : IsQueue new q ps) (stay : LinksStay touched links new) where
  here : c < length queues
  here = omega (arith, cell, k.cells)

  pub readers_change : IsWhole (record { rows = rows; readers = set s.readers c ps; writers = s.writers }) →
      ((d x : ℕ) → d < length s.readers → c ≢ d → 0 < occurs x (readers_of s d) → occurs x touched ≡ 0) → ((d x : ℕ) → d < length s.readers → 0 < occurs x (writers_of s d) → occurs x touched ≡ 0) →
      IsShown new (set queues c (record { readers = q; writers = (queues_of queues c).writers })) (record { rows = rows; readers = set s.readers c ps; writers = s.writers })
  readers_change whole apart others =
      let fresh : Queues = record { readers = q; writers = (queues_of queues c).writers } in
      record {
        size = omega (arith, k.size, size, people);
        cells = omega (arith, k.cells, length-set queues c fresh, length-set s.readers c ps);
        readers = list_changes links new (λ (x : Queues). x.readers) queues s.readers c fresh ps touched stay k.cells here k.readers (λ d x h. apart d x (omega (arith, h, k.cells))) queue;
        writers = list_stays links new (λ (x : Queues). x.writers) queues s.writers c fresh ps touched stay (omega (arith, k.cells, k.sound.cells)) refl here k.writers (λ d x h. others d x (omega (arith, h, k.cells)));
        inside = whole.inside;
        sound = whole.sound;
      }

  pub writers_change : IsWhole (record { rows = rows; readers = s.readers; writers = set s.writers c ps }) →
      ((d x : ℕ) → d < length s.readers → c ≢ d → 0 < occurs x (writers_of s d) → occurs x touched ≡ 0) → ((d x : ℕ) → d < length s.readers → 0 < occurs x (readers_of s d) → occurs x touched ≡ 0) →
      IsShown new (set queues c (record { readers = (queues_of queues c).readers; writers = q })) (record { rows = rows; readers = s.readers; writers = set s.writers c ps })
  writers_change whole apart others =
      let fresh : Queues = record { readers = (queues_of queues c).readers; writers = q } in
      record {
        size = omega (arith, k.size, size, people);
        cells = omega (arith, k.cells, length-set queues c fresh);
        readers = list_stays links new (λ (x : Queues). x.readers) queues s.readers c fresh ps touched stay k.cells refl here k.readers (λ d x h. others d x (omega (arith, h, k.cells)));
        writers = list_changes links new (λ (x : Queues). x.writers) queues s.writers c fresh ps touched stay (omega (arith, k.cells, k.sound.cells)) here k.writers (λ d x h. apart d x (omega (arith, h, k.cells))) queue;
        inside = whole.inside;
        sound = whole.sound;
      }

-- a party in a list is none of those in another list and the one that is in no list
apart_snoc : (x p : ℕ) (ps qs : List ℕ) → occurs x ps ≡ 0 → occurs p qs ≡ 0 → 0 < occurs x qs → occurs x (ps ++ p ∷ []) ≡ 0
apart_snoc x p ps qs none out some = rw (occurs-append x ps (p ∷ []), ne_zero p x (λ e. apart_from p x qs out some (sym e))) (omega (arith, none))

module _ (links new : List Link) (queues : List Queues) (s : Rows) (p c : ℕ) (q : Queue) (k : IsShown links queues s) (party : p < length s.rows) (cell : c < length s.readers) (size : length new ≡ length links) where
  -- a party parks
  pub shown_park_reader : is_parked (row_of s p).waiting ≡ false → IsQueue new q (readers_of s c ++ p ∷ []) → LinksStay (readers_of s c ++ p ∷ []) links new →
      IsShown new (set queues c (record { readers = q; writers = (queues_of queues c).writers })) (park_reader c p s)
  shown_park_reader before queue stay =
      let r : Row = record { waiting = way.ParkedRead; cell = c } in
      let w = whole_of links queues s k in
      readers_change links new queues s (set s.rows p r) c q (readers_of s c ++ p ∷ []) (readers_of s c ++ p ∷ []) k cell (length-set s.rows p r) size queue stay (whole_park_reader s p c party cell before w)
      (λ d x h n some. apart_snoc x p (readers_of s c) (readers_of s d) ((reader_apart s k.sound d x h c cell some).0 n) (no_reader s p r party w (λ e. (unparked e (row_of s p) before).0) d h) some)
      (λ d x h some. apart_snoc x p (readers_of s c) (writers_of s d) (writer_apart s k.sound d x h c cell some).1 (no_writer s p r party w (λ e. (unparked e (row_of s p) before).1) d (omega (arith, h, k.sound.cells))) some)

  pub shown_park_writer : is_parked (row_of s p).waiting ≡ false → IsQueue new q (writers_of s c ++ p ∷ []) → LinksStay (writers_of s c ++ p ∷ []) links new →
      IsShown new (set queues c (record { readers = (queues_of queues c).readers; writers = q })) (park_writer c p s)
  shown_park_writer before queue stay =
      let r : Row = record { waiting = way.ParkedWrite; cell = c } in
      let w = whole_of links queues s k in
      writers_change links new queues s (set s.rows p r) c q (writers_of s c ++ p ∷ []) (writers_of s c ++ p ∷ []) k cell (length-set s.rows p r) size queue stay (whole_park_writer s p c party cell before w)
      (λ d x h n some. apart_snoc x p (writers_of s c) (writers_of s d) ((writer_apart s k.sound d x h c cell some).0 n) (no_writer s p r party w (λ e. (unparked e (row_of s p) before).1) d (omega (arith, h, k.sound.cells))) some)
      (λ d x h some. apart_snoc x p (writers_of s c) (readers_of s d) (reader_apart s k.sound d x h c cell some).1 (no_reader s p r party w (λ e. (unparked e (row_of s p) before).0) d h) some)

  -- a parked party leaves its list, and waits otherwise
  pub shown_reader_left : (r : Row) → row_of s p ≡ record { waiting = way.ParkedRead; cell = c } → is_parked r.waiting ≡ false → IsQueue new q (without p (readers_of s c)) → LinksStay (readers_of s c) links new →
      IsShown new (set queues c (record { readers = q; writers = (queues_of queues c).writers })) (record { rows = set s.rows p r; readers = set s.readers c (without p (readers_of s c)); writers = s.writers })
  shown_reader_left r row after queue stay =
      readers_change links new queues s (set s.rows p r) c q (without p (readers_of s c)) (readers_of s c) k cell (length-set s.rows p r) size queue stay (whole_reader_left s p r party (whole_of links queues s k) c row after)
      (λ d x h n some. (reader_apart s k.sound d x h c cell some).0 n) (λ d x h some. (writer_apart s k.sound d x h c cell some).1)

  pub shown_writer_left : (r : Row) → row_of s p ≡ record { waiting = way.ParkedWrite; cell = c } → is_parked r.waiting ≡ false → IsQueue new q (without p (writers_of s c)) → LinksStay (writers_of s c) links new →
      IsShown new (set queues c (record { readers = (queues_of queues c).readers; writers = q })) (record { rows = set s.rows p r; readers = s.readers; writers = set s.writers c (without p (writers_of s c)) })
  shown_writer_left r row after queue stay =
      writers_change links new queues s (set s.rows p r) c q (without p (writers_of s c)) (writers_of s c) k cell (length-set s.rows p r) size queue stay (whole_writer_left s p r party (whole_of links queues s k) c row after)
      (λ d x h n some. (writer_apart s k.sound d x h c cell some).0 n) (λ d x h some. (reader_apart s k.sound d x h c cell some).1)

-- the readers of a cell are given shares
pub shown_shared : (links : List Link) (queues : List Queues) (s : Rows) (c : ℕ) (q : Queue) → IsShown links queues s → c < length s.readers → IsQueue links q [] →
    IsShown links (set queues c (record { readers = q; writers = (queues_of queues c).writers })) (rows_to_readers c s)
shown_shared links queues s c q k cell queue =
    readers_change links links queues s (shared c (readers_of s c) s.rows) c q [] [] k cell (length-shared c (readers_of s c) s.rows) refl queue (λ x h. refl) (whole_shared s c cell (whole_of links queues s k)) (λ d x h n some. refl) (λ d x h some. refl)

-- a party that is not parked waits otherwise
pub shown_plain : (links : List Link) (queues : List Queues) (s : Rows) (p : ℕ) (r : Row) → IsShown links queues s → p < length s.rows → is_parked (row_of s p).waiting ≡ false → is_parked r.waiting ≡ false →
    IsShown links queues (record { rows = set s.rows p r; readers = s.readers; writers = s.writers })
shown_plain links queues s p r k party before after =
    let whole = whole_plain s p r party (whole_of links queues s k) before after in
    record {
      size = omega (arith, k.size, length-set s.rows p r);
      cells = k.cells;
      readers = k.readers;
      writers = k.writers;
      inside = whole.inside;
      sound = whole.sound;
    }

-- ---- nobody is parked

pub empty_queue : (links : List Link) → IsQueue links (record { count = 0; first = 0; last = 0 }) []
empty_queue links = record { before = 0; behind = 0; linked = refl; last = refl; count = refl }

abbrev nobody : List ℕ
nobody = []

empty_lists : (n c : ℕ) → get_or (replicate n nobody) c [] ≡ []
empty_lists zero c = refl
empty_lists (suc n) zero = refl
empty_lists (suc n) (suc c) = empty_lists n c

empty_queues : (n c : ℕ) → queues_of (replicate n no_queues) c ≡ no_queues
empty_queues zero c = refl
empty_queues (suc n) zero = refl
empty_queues (suc n) (suc c) = empty_queues n c

pub shown_new : (links : List Link) (cells parties : ℕ) → parties < readers_limit → length links ≡ parties → IsShown links (replicate cells no_queues) (no_rows cells parties)
shown_new links cells parties few size = record {
  size = omega (arith, size, length-replicate parties free_row);
  cells = omega (arith, length-replicate cells no_queues, length-replicate cells nobody);
  readers = λ c h. rw (empty_queues cells c, empty_lists cells c) (empty_queue links);
  writers = λ c h. rw (empty_queues cells c, empty_lists cells c) (empty_queue links);
  inside = λ p e. let parked = rw (at_free parties p) at e in absurd (cc);
  sound = record {
    readers = λ c p h. rw (empty_lists cells c, at_free parties p) refl;
    writers = λ c p h. rw (empty_lists cells c, at_free parties p) refl;
    cells = refl;
    few = omega (arith, few, length-replicate parties free_row);
  };
}

-- ---- a queue that a call is lent

read_row : (w : Waiting) (c d : ℕ) → (is_parked_read w && (d == c)) ≡ true → ◌≡◌ {A = Row} record { waiting = w; cell = d } record { waiting = way.ParkedRead; cell = c }
read_row way.ParkedRead c d e = let same : d ≡ c = grind (arith, e) in ap (λ (n : ℕ). record { waiting = way.ParkedRead; cell = n }) same
read_row way.Free c d e = absurd (cc)
read_row way.Spin c d e = absurd (cc)
read_row way.ParkedWrite c d e = absurd (cc)
read_row way.Drain c d e = absurd (cc)
read_row way.ShareRead c d e = absurd (cc)
read_row way.ShareWrite c d e = absurd (cc)

write_row : (w : Waiting) (c d : ℕ) → (is_parked_write w && (d == c)) ≡ true → ◌≡◌ {A = Row} record { waiting = w; cell = d } record { waiting = way.ParkedWrite; cell = c }
write_row way.ParkedWrite c d e = let same : d ≡ c = grind (arith, e) in ap (λ (n : ℕ). record { waiting = way.ParkedWrite; cell = n }) same
write_row way.Free c d e = absurd (cc)
write_row way.Spin c d e = absurd (cc)
write_row way.ParkedRead c d e = absurd (cc)
write_row way.Drain c d e = absurd (cc)
write_row way.ShareRead c d e = absurd (cc)
write_row way.ShareWrite c d e = absurd (cc)

reader_row : (c : ℕ) (r : Row) → reads_at c r ≡ true → r ≡ record { waiting = way.ParkedRead; cell = c }
reader_row c r e = read_row r.waiting c r.cell e

writer_row : (c : ℕ) (r : Row) → writes_at c r ≡ true → r ≡ record { waiting = way.ParkedWrite; cell = c }
writer_row c r e = write_row r.waiting c r.cell e

-- what a call is lent of a list with these parties
pub record IsLent (links : List Link) (q : Queue) (ps : List ℕ) : Type 0 where
  pub queue : IsQueue links q (listed links q)
  pub roster : IsRoster (length links) (listed links q)
  pub is : listed links q ≡ ps
  pub few : q.count < readers_limit
  pub count : q.count ≡ length ps

lent : (links : List Link) (q : Queue) (ps : List ℕ) (n : ℕ) → IsQueue links q ps → IsRoster n ps → length links ≡ n → n < readers_limit → IsLent links q ps
lent links q ps n k roster size few =
    let is = listed_is links q ps k in
    record {
      queue = rw is k;
      roster = rw (is, size) roster;
      is = is;
      few = omega (arith, k.count, roster_few n ps roster, few);
      count = k.count;
    }

module _ (rows : List Row) (links now : List Link) (queues : List Queues) (was : Queues) (s : Rows) (c : ℕ) (view : seen rows links queues ≡ s) (inv : IsShown links queues (seen rows links queues))
    (same : now ≡ links) (read : was ≡ get_or queues c was) (cell : c < length s.readers) where
  shown : IsShown links queues s
  shown = (shown_value rows links queues s view inv).0

  there : c < length queues
  there = omega (arith, cell, shown.cells)

  was_is : was ≡ queues_of queues c
  was_is = get_or_read queues c was there read no_queues

  pub as_many : length now ≡ length rows
  as_many = rw same (omega (arith, shown.size, ap (λ (x : List Row). length x) (shown_value rows links queues s view inv).1))

  size_of : (new : List Link) → length new ≡ length now → length new ≡ length links
  size_of new size = omega (arith, size, ap (λ (x : List Link). length x) same)

  pub lent_readers : IsLent now was.readers (readers_of s c)
  lent_readers = rw (same, was_is) (lent links (queues_of queues c).readers (readers_of s c) (length s.rows) (shown.readers c there) (readers_roster s c shown.sound cell) shown.size shown.sound.few)

  pub lent_writers : IsLent now was.writers (writers_of s c)
  lent_writers = rw (same, was_is) (lent links (queues_of queues c).writers (writers_of s c) (length s.rows) (shown.writers c there) (writers_roster s c shown.sound cell) shown.size shown.sound.few)

  module _ (new : List Link) (q : Queue) (p : ℕ) (size : length new ≡ length now) where
    pub reader_parked : p < length s.rows → (row_of s p).waiting ≡ way.Free → IsQueue new q (listed now was.readers ++ p ∷ []) → LinksStay (listed now was.readers ++ p ∷ []) now new →
        IsShown new (set queues c (record { readers = q; writers = was.writers })) (park_reader c p s)
    reader_parked party free queue stay =
        rw was_is (shown_park_reader links new queues s p c q shown party cell (size_of new size) (free_unparked (row_of s p) free) (rw lent_readers.is at queue) (rw same at (rw lent_readers.is at stay)))

    pub writer_parked : p < length s.rows → (row_of s p).waiting ≡ way.Free → IsQueue new q (listed now was.writers ++ p ∷ []) → LinksStay (listed now was.writers ++ p ∷ []) now new →
        IsShown new (set queues c (record { readers = was.readers; writers = q })) (park_writer c p s)
    writer_parked party free queue stay =
        rw was_is (shown_park_writer links new queues s p c q shown party cell (size_of new size) (free_unparked (row_of s p) free) (rw lent_writers.is at queue) (rw same at (rw lent_writers.is at stay)))

    pub reader_gone : occurs p (readers_of s c) ≡ 1 → IsQueue new q (without p (listed now was.readers)) → LinksStay (listed now was.readers) now new →
        IsShown new (set queues c (record { readers = q; writers = was.writers })) (left way.ParkedRead c p s)
    reader_gone one queue stay =
        let member : 0 < occurs p (readers_of s c) = omega (arith, one) in
        rw was_is (shown_reader_left links new queues s p c q shown ((readers_roster s c shown.sound cell).below p member) cell (size_of new size) free_row (reader_row c (row_of s p) (is_reader s shown.sound c p cell member)) refl (rw lent_readers.is at queue) (rw same at (rw lent_readers.is at stay)))

    pub writer_gone : (r : Row) → is_parked r.waiting ≡ false → occurs p (writers_of s c) ≡ 1 → IsQueue new q (without p (listed now was.writers)) → LinksStay (listed now was.writers) now new →
        IsShown new (set queues c (record { readers = was.readers; writers = q })) (writer_left r c p s)
    writer_gone r after one queue stay =
        let member : 0 < occurs p (writers_of s c) = omega (arith, one) in
        rw was_is (shown_writer_left links new queues s p c q shown ((writers_roster s c shown.sound cell).below p member) cell (size_of new size) r (writer_row c (row_of s p) (is_writer s shown.sound c p cell member)) after (rw lent_writers.is at queue) (rw same at (rw lent_writers.is at stay)))

  pub readers_given : IsShown links (set queues c (record { readers = record { count = 0; first = 0; last = 0 }; writers = was.writers })) (rows_to_readers c s)
  readers_given = rw was_is (shown_shared links queues s c _ shown cell (empty_queue links))

-- ---- what a queue answers

suc_not : (n : ℕ) → (suc n == 0) ≡ false
suc_not n = grind arith

pub some_there : (links : List Link) (q : Queue) (ps : List ℕ) → IsQueue links q ps → not (q.count == 0) ≡ not (is_empty ps)
some_there links q [] k = rw k.count refl
some_there links q (p ∷ ps) k = rw (k.count, suc_not (length ps)) refl

pub first_is : (links : List Link) (q : Queue) (ps : List ℕ) → IsQueue links q ps → then_some (not (q.count == 0)) q.first ≡ first_of ps
first_is links q [] k = rw k.count refl
first_is links q (p ∷ ps) k = rw (k.count, suc_not (length ps)) (ap (λ x. Some x) k.linked.0)

pub first_once : (n : ℕ) (ps : List ℕ) → IsRoster n ps → IfSome (first_of ps) (λ p. occurs p ps ≡ 1)
first_once n [] roster = tt
first_once n (p ∷ ps) roster = omega (arith, first_in p ps, roster.once p)

pub first_none : (ps : List ℕ) → IsNone (first_of ps) ↔ (is_empty ps ≡ true)
first_none [] = ((λ e. refl), (λ e. refl))
first_none (p ∷ ps) = ((λ e. absurd (cc)), (λ e. absurd (cc)))

-- ---- a party is freed

module _ (rows : List Row) (links : List Link) (queues : List Queues) (s : Rows) (p : ℕ) (view : seen rows links queues ≡ s) (inv : IsShown links queues (seen rows links queues)) where
  pub parked_reader : (row_of s p).waiting ≡ way.ParkedRead → ((row_of s p).cell < length s.readers) × (occurs p (readers_of s (row_of s p).cell) ≡ 1) × (left way.ParkedRead (row_of s p).cell p s ≡ freed p s)
  parked_reader e =
      let k = (shown_value rows links queues s view inv).0 in
      let cell = k.inside p (rw e refl) in
      (cell, k.sound.readers (row_of s p).cell p cell ∙ rw (e, eq_self (row_of s p).cell) refl, rw e refl)

  pub parked_writer : (row_of s p).waiting ≡ way.ParkedWrite → ((row_of s p).cell < length s.readers) × (occurs p (writers_of s (row_of s p).cell) ≡ 1) × (left way.ParkedWrite (row_of s p).cell p s ≡ freed p s)
  parked_writer e =
      let k = (shown_value rows links queues s view inv).0 in
      let cell = k.inside p (rw e refl) in
      (cell, k.sound.writers (row_of s p).cell p cell ∙ rw (e, eq_self (row_of s p).cell) refl, rw e refl)

module _ (rows : List Row) (links : List Link) (queues : List Queues) (s : Rows) (c p : ℕ) (view : seen rows links queues ≡ s) (inv : IsShown links queues (seen rows links queues)) (cell : c < length s.readers) where
  pub reader_inside : occurs p (readers_of s c) ≡ 1 → p < length rows
  reader_inside one =
      let k = shown_value rows links queues s view inv in
      omega (arith, ap (λ (x : List Row). length x) k.1, (readers_roster s c k.0.sound cell).below p (omega (arith, one)))

  pub writer_inside : occurs p (writers_of s c) ≡ 1 → p < length rows
  writer_inside one =
      let k = shown_value rows links queues s view inv in
      omega (arith, ap (λ (x : List Row). length x) k.1, (writers_roster s c k.0.sound cell).below p (omega (arith, one)))

-- the row that was read
module _ (rows : List Row) (links : List Link) (queues : List Queues) (s : Rows) (p : ℕ) (row : Row) (view : seen rows links queues ≡ s) (inv : IsShown links queues (seen rows links queues)) (party : p < length s.rows) (read : row ≡ get_or rows p row) where
  pub row_is : row ≡ row_of s p
  row_is =
      let e = (shown_value rows links queues s view inv).1 in
      get_or_read rows p row (omega (arith, party, ap (λ (x : List Row). length x) e)) read free_row ∙ ap (λ x. get_or x p free_row) e

  pub free_reader : row.waiting ≡ way.ParkedRead → (row.cell < length s.readers) × (occurs p (readers_of s row.cell) ≡ 1) × (left way.ParkedRead row.cell p s ≡ freed p s)
  free_reader e =
      let waits : (row_of s p).waiting ≡ way.ParkedRead = ap (λ (x : Row). x.waiting) (sym row_is) ∙ e in
      rw row_is (parked_reader rows links queues s p view inv waits)

  pub free_writer : row.waiting ≡ way.ParkedWrite → (row.cell < length s.readers) × (occurs p (writers_of s row.cell) ≡ 1) × (left way.ParkedWrite row.cell p s ≡ freed p s)
  free_writer e =
      let waits : (row_of s p).waiting ≡ way.ParkedWrite = ap (λ (x : Row). x.waiting) (sym row_is) ∙ e in
      rw row_is (parked_writer rows links queues s p view inv waits)

  pub free_plain : is_parked row.waiting ≡ false → IsShown links queues (record { rows = set s.rows p free_row; readers = s.readers; writers = s.writers })
  free_plain e = shown_plain links queues s p free_row (shown_value rows links queues s view inv).0 party (ap (λ (x : Row). is_parked x.waiting) (sym row_is) ∙ e) refl

plain_left : (w : Waiting) (c p : ℕ) (s : Rows) → is_parked w ≡ false → left w c p s ≡ record { rows = set s.rows p free_row; readers = s.readers; writers = s.writers }
plain_left way.Free c p s e = refl
plain_left way.Spin c p s e = refl
plain_left way.ParkedRead c p s e = absurd (cc)
plain_left way.ParkedWrite c p s e = absurd (cc)
plain_left way.Drain c p s e = refl
plain_left way.ShareRead c p s e = refl
plain_left way.ShareWrite c p s e = refl

pub plain_freed : (p : ℕ) (s : Rows) → is_parked (row_of s p).waiting ≡ false → freed p s ≡ record { rows = set s.rows p free_row; readers = s.readers; writers = s.writers }
plain_freed p s e = plain_left (row_of s p).waiting (row_of s p).cell p s e

pub shown_made : (links : List Link) (queues : List Queues) (cells parties : ℕ) → parties < readers_limit → links ≡ replicate parties (record { next = 0; previous = 0 }) → queues ≡ replicate cells no_queues → IsShown links queues (no_rows cells parties)
shown_made links queues cells parties few e f = rw f (shown_new links cells parties few (ap (λ (x : List Link). length x) e ∙ length-replicate parties (record { next = 0; previous = 0 })))
