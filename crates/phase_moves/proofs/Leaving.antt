-- A guard in hand is given back.
use Rattle.phase_moves.proofs.Words.{◌≡◌, ◌≢◌, ◌==◌, ◌<◌, ◌≤◌, ◌+◌, ◌∙◌, ℕ, length, get_or, ap, sym, subst, refl, arith, true, false, None, Some, slice_get, Holders, Phase}
use Rattle.phase_moves.proofs.Words.{phase_of, IsKnown, leave_read, leave_write, most_readers, Given, LockerKind, Parking, IsSound, HasFree, readers_of, Fits, IsWriteOpen}
use Rattle.phase_moves.proofs.Words.{open_reads, Hands, Downgrades, rows_handed, cell_at, count, runs_in, Guard, numbered, without_guard, reader, reads_cell, writes_cell}
use Rattle.phase_moves.proofs.Words.{found_counts, guard_kept, Shows, given_on, IsListed, shows_on, single_on, within_on, listed_hand, listed_share, sound_of, CellRow, Draft}
use Rattle.phase_moves.proofs.Words.{Rows, Standing, left_of_standing as left, downgraded, reads_in, writes_in, seen_by, run_in, CountsWaits, draft_of, Seen, seen_at, IsCell}
use Rattle.phase_moves.proofs.Words.{IsLocked, Stands, slot_row, party_row, Left, IsReader, IsWriter, write_has_no_reader}
use Rattle.phase_moves.proofs.Guards.{its_number, found_itself, gone, once_without, left_there, writes_elsewhere, writes_here, reads_here, never_reads, never_writes}
use Rattle.phase_moves.proofs.Guards.{count_same, count_less, slots_same, target_given}
use Rattle.phase_moves.proofs.Lockers.{locked_read, locked_write, locked_down, writing_alone, hands_writers, downgrades_writers}
use Rattle.phase_moves.proofs.Moved.{IsCalled, IsMoved, HasParties, exit_kept, parties_same, moved}
use Rattle.phase_moves.proofs.{Drafts.keeps_none, Drafts.keeps_still, Opening.guard_opened, Opening.seen_reader, Waiting.few_readers, Waiting.fewer_readers}
use Rattle.phase_moves.proofs.{Waiting.count_given, Known.effect_known, Guards.none_runs, Places.read_at}

-- rows that stand for something are sound
pub sound : {L : Type 0} (held : L → Holders) (place : L → LockerKind) (hand : ℕ) (m : Standing) (v : Rows L) → Stands held place hand m v → IsSound v.parks
sound held place hand m v t = sound_of m.waits v.parks t.waits.single t.waits.shows (t.sizes.writers ∙ sym t.sizes.readers) t.sizes.few

-- the parked readers of a cell are within the limit
pub parked_few : {L : Type 0} (held : L → Holders) (place : L → LockerKind) (hand : ℕ) (m : Standing) (v : Rows L) → Stands held place hand m v → (c : ℕ) → c < length v.cells.items → length (readers_of v.parks c) ≤ most_readers
parked_few held place hand m v t c lt = few_readers c v.parks (let r = t.sizes.readers in omega (arith, lt, r)) (sound held place hand m v t)

-- and leave room for one more where a party does not wait
pub parked_fewer : {L : Type 0} (held : L → Holders) (place : L → LockerKind) (hand : ℕ) (m : Standing) (v : Rows L) → Stands held place hand m v → (c : ℕ) → c < length v.cells.items → HasFree v.parks → 1 + length (readers_of v.parks c) ≤ most_readers
parked_fewer held place hand m v t c lt free = fewer_readers c v.parks (let r = t.sizes.readers in omega (arith, lt, r)) (sound held place hand m v t) free

module _ {L : Type 0} (held : L → Holders) (place : L → LockerKind) (hand : ℕ) (m : Standing) (v : Rows L) (x : Guard) (t : Stands held place hand m v) (found : numbered hand m.guards ≡ Some x) where
  itself : numbered x.number m.guards ≡ Some x
  itself = found_itself hand m.guards x found

  -- its cell has a row
  pub inside : x.cell < length v.cells.items
  inside = t.guards.in_cells hand x found

  -- nothing else is published
  content_beside : (g : Given) (d : ℕ) → d ≢ x.cell → (left x g m).content d ≡ m.content d
  content_beside g d ne = grind arith

  -- other cells are as they were
  around : (g : Given) (d : ℕ) → d ≢ x.cell → seen_at d (left x g m) ≡ seen_at d m
  around g d ne = grind (arith, content_beside, count_same, itself, writes_elsewhere)

  -- a guard that is left was there
  pub still_there : (g : Given) (j : ℕ) (y : Guard) → numbered j (left x g m).guards ≡ Some y → (j ≢ x.number) × (numbered j m.guards ≡ Some y)
  still_there g j y e = left_there x.number j m.guards x y itself (t.guards.once x.number) e

  -- the rows of other guards stay
  slots : (g : Given) → (j : ℕ) → slot_row hand (left x g m) j ≡ slot_row hand m j
  slots g j = slots_same m (left x g m) hand j (λ ne. guard_kept x.number j m.guards (λ e. ne (e ∙ its_number hand m.guards x found)))

  -- what a release changes besides the row of the cell
  pub left_moved : (g : Given) (v' : Rows L) {l l' : L} → v'.guards ≡ v.guards → v'.exit ≡ v.exit → length v'.parks.writers ≡ length v.parks.writers → Left held place x.cell l l' v.parks v'.parks → IsListed x.cell v.parks g
      → v'.parks ≡ rows_handed x.cell g v.parks → IsMoved held place x.cell hand hand m (left x g m) v v'
  left_moved g v' guards exit sizes k listed rows =
      record {
        around = around g;
        counts = λ d ne. count_given d x.cell g m.waits;
        drafts = λ j y e w ne. (still_there g j y e).1;
        others = k.others;
        same = k.same;
        lists = sizes;
        guards = guards;
        slots = λ j lt. slots g j;
        exit = exit_kept (length v.cells.items) m (left x g m) v.exit v'.exit exit refl refl refl t.exit;
        waits =
            record {
              shows = subst (λ (s : Parking). Shows (given_on x.cell g m.waits) s) (sym rows) (shows_on x.cell g m.waits v.parks in_parks (sound held place hand m v t) t.waits.shows listed);
              single = single_on x.cell g m.waits t.waits.single;
              within = within_on (length v.cells.items) x.cell g m.waits t.waits.within;
            };
        numbers =
            record {
              once = λ j. once_without x.number j m.guards x itself (t.guards.once j);
              in_rows = λ j y e ne. t.guards.in_rows j y (still_there g j y e).1 ne;
              in_cells = λ j y e. t.guards.in_cells j y (still_there g j y e).1;
            };
        sections = t.sections;
      } where
        in_parks : x.cell < length v.parks.readers
        in_parks = let a = inside in let b = t.sizes.readers in omega (arith, a, b)

module _ {L : Type 0} (held : L → Holders) (place : L → LockerKind) (hand : ℕ) (m : Standing) (v : Rows L) (x : Guard) (t : Stands held place hand m v) (found : numbered hand m.guards ≡ Some x) (row : CellRow L) (row_is : slice_get v.cells.items x.cell ≡ Some row) where
  there : numbered x.number m.guards ≡ Some x
  there = found_itself hand m.guards x found

  its_cell : IsCell held place (seen_at x.cell m) v.parks x.cell row
  its_cell = t.cell x.cell row row_is

  -- a read guard is open at the locker
  pub read_open : x.writes ≡ false → 0 < open_reads (held row.seq.locker) v.parks x.cell
  read_open r = grind (arith, found_counts, there, reads_here, its_cell)

  -- and so is a write guard
  pub write_open : x.writes ≡ true → IsWriteOpen (held row.seq.locker) v.parks x.cell
  write_open w = grind (arith, found_counts, there, writes_here, its_cell)

  -- what is published after a read guard is given back
  kept_back : (g : Given) → x.writes ≡ false → (left x g m).content x.cell ≡ m.content x.cell
  kept_back g r = rw r refl

  -- the row of the cell after a read guard is given back
  pub read_back : (g : Given) (row' : CellRow L) (s' : Parking) → x.writes ≡ false → row'.plan ≡ row.plan → row'.value ≡ row.value → row'.run ≡ row.run → row'.seq.running ≡ row.seq.running
      → Hands x.cell (leave_read (held row.seq.locker)) v.parks g (held row'.seq.locker) s' → open_reads (held row'.seq.locker) s' x.cell + 1 ≡ open_reads (held row.seq.locker) v.parks x.cell → (IsWriteOpen (held row'.seq.locker) s' x.cell → ⊥) → Left held place x.cell row.seq.locker row'.seq.locker v.parks s'
      → IsCell held place (seen_at x.cell (left x g m)) s' x.cell row'
  read_back g row' s' r plan value run running hands less closed k =
      let k0 = its_cell in let fewer = count_less (reads_cell x.cell) x.number m.guards x there (reads_here x r) in
      let same = count_same (writes_cell x.cell) x.number m.guards x there (never_writes x x.cell r) in
      let now : IsLocked (place row'.seq.locker) (held row'.seq.locker) s' x.cell (reads_in x.cell (left x g m)) (writes_in x.cell m) (m.content x.cell).phase =
      locked_read (place row.seq.locker) (place row'.seq.locker) (held row.seq.locker) (held row'.seq.locker) v.parks s' x.cell _ _ _ g (subst (λ n. IsLocked (place row.seq.locker) (held row.seq.locker) v.parks x.cell n (writes_in x.cell m) (m.content x.cell).phase) fewer k0.locked) k.place hands less closed k.fits (parked_few held place hand m v t x.cell (inside held place hand m v x t found)) in
      let content = kept_back g r in
      subst (λ (z : Seen). IsCell held place z s' x.cell row') (λ i. record { plan = cell_at m.plans x.cell; content = sym content i; reads = reads_in x.cell (left x g m); writes = sym same i + count (runs_in x.cell) m.sections; run = run_in x.cell m.sections })
      (grind arith)

  -- nothing is left on the cell
  module _ (w : x.writes ≡ true) where
    some : 0 < count (writes_cell x.cell) m.guards
    some = found_counts (λ (z : Guard). z.number == x.number) (writes_cell x.cell) m.guards x there (writes_here x w)

    pub no_reads : (g : Given) → reads_in x.cell (left x g m) ≡ 0
    no_reads g =
        let l = some in let same = count_same (reads_cell x.cell) x.number m.guards x there (never_reads x x.cell w) in
        let zero = writing_alone (place row.seq.locker) (held row.seq.locker) v.parks x.cell _ _ _ its_cell.locked (omega (arith, l)) in omega (arith, same, zero)

    pub no_writes : (g : Given) → writes_in x.cell (left x g m) ≡ 0
    no_writes g = let fewer = count_less (writes_cell x.cell) x.number m.guards x there (writes_here x w) in let most = its_cell.locked.one in omega (arith, fewer, most)

    no_run : run_in x.cell m.sections ≡ None
    no_run = let l = some in let most = its_cell.locked.one in none_runs x.cell m.sections (omega (arith, l, most))

    -- the row of the cell after a write guard is given back, and so many read
    pub write_gone : (g : Given) (row' : CellRow L) (s' : Parking) (r : ℕ) → row'.plan ≡ row.plan → row'.value ≡ (seen_by m x).value → row'.run ≡ row.run → row'.seq.running ≡ row.seq.running → place row'.seq.locker ≡ place row.seq.locker
        → IsLocked (place row'.seq.locker) (held row'.seq.locker) s' x.cell r 0 (seen_by m x).phase
        → IsCell held place (record { plan = cell_at m.plans x.cell; content = (left x g m).content x.cell; reads = r; writes = 0; run = run_in x.cell m.sections }) s' x.cell row'
    write_gone g row' s' r plan value run running stays locked = grind (arith, its_cell, no_run, effect_known)

    -- the lock is given back
    pub write_back : (g : Given) (row' : CellRow L) (s' : Parking) (q : Phase) → row'.plan ≡ row.plan → q ≡ phase_of (seen_by m x).phase → row'.value ≡ (seen_by m x).value → row'.run ≡ row.run → row'.seq.running ≡ row.seq.running
        → Hands x.cell (leave_write q (held row.seq.locker)) v.parks g (held row'.seq.locker) s' → open_reads (held row'.seq.locker) s' x.cell ≡ 0 → (IsWriteOpen (held row'.seq.locker) s' x.cell → ⊥) → Left held place x.cell row.seq.locker row'.seq.locker v.parks s'
        → IsCell held place (seen_at x.cell (left x g m)) s' x.cell row'
    write_back g row' s' q plan phase value run running hands none closed k =
        let r = no_reads g in let o = no_writes g in
        subst (λ (z : Seen). IsCell held place z s' x.cell row') (λ i. record { plan = cell_at m.plans x.cell; content = (left x g m).content x.cell; reads = sym r i; writes = sym o i; run = run_in x.cell m.sections })
        (write_gone g row' s' 0 plan value run running k.place (locked_write (place row.seq.locker) (place row'.seq.locker) (held row.seq.locker) (held row'.seq.locker) v.parks s' x.cell (seen_by m x).phase q g hands none closed k.fits phase its_cell.locked.limit (parked_few held place hand m v t x.cell (inside held place hand m v x t found))))

    -- the lock becomes one to read
    pub down_back : (n : ℕ) (g : Given) (row' : CellRow L) (s' : Parking) (q : Phase) → row'.plan ≡ row.plan → q ≡ phase_of (seen_by m x).phase → row'.value ≡ (seen_by m x).value → row'.run ≡ row.run → row'.seq.running ≡ row.seq.running
        → Downgrades x.cell q (held row.seq.locker) v.parks g (held row'.seq.locker) s' → open_reads (held row'.seq.locker) s' x.cell ≡ 1 → (IsWriteOpen (held row'.seq.locker) s' x.cell → ⊥) → Left held place x.cell row.seq.locker row'.seq.locker v.parks s' → HasFree v.parks
        → IsCell held place (seen_at x.cell (downgraded n x g m)) s' x.cell row'
    down_back n g row' s' q plan phase value run running down reads closed k free =
        let r = no_reads g in let o = no_writes g in
        subst (λ (z : Seen). IsCell held place z s' x.cell row') ((λ i. record { plan = cell_at m.plans x.cell; content = (left x g m).content x.cell; reads = sym r i + 1; writes = sym o i; run = run_in x.cell m.sections }) ∙ sym (seen_reader n x.party x.cell (left x g m)))
        (write_gone g row' s' 1 plan value run running k.place (locked_down (place row'.seq.locker) (held row.seq.locker) (held row'.seq.locker) v.parks s' x.cell (seen_by m x).phase q g down reads closed k.fits phase (write_has_no_reader (place row.seq.locker) (held row.seq.locker) v.parks x.cell its_cell.locked.fits (write_open w)) (parked_fewer held place hand m v t x.cell (inside held place hand m v x t found) free)))

-- the rows of parties stay
pub parties_left : {L : Type 0} (held : L → Holders) (place : L → LockerKind) (hand : ℕ) (m : Standing) (v v' : Rows L) (x : Guard) → Stands held place hand m v → v'.parties ≡ v.parties → (g : Given) → HasParties held place (left x g m) v v'
parties_left held place hand m v v' x t parties g = grind (arith, parties_same, target_given)

-- ---- the moves

module _ {L : Type 0} (held : L → Holders) (place : L → LockerKind) (hand : ℕ) (m : Standing) (v v' : Rows L) (x : Guard) (row row' : CellRow L) (g : Given) (t : Stands held place hand m v) (found : numbered hand m.guards ≡ Some x) (k : IsCalled held place x.cell row row' v v') where
  -- as many wait at the cell as before
  calm : CountsWaits x.cell (given_on x.cell g m.waits) row'
  calm = k.waiting ∙ t.counted x.cell row k.row_at ∙ sym (count_given x.cell x.cell g m.waits)

  gone_back : length v'.parks.writers ≡ length v.parks.writers → IsListed x.cell v.parks g → v'.parks ≡ rows_handed x.cell g v.parks → IsMoved held place x.cell hand hand m (left x g m) v v'
  gone_back lists listed rows = left_moved held place hand m v x t found g v' k.guards k.exit lists k.left listed rows

  -- a read guard
  pub leaves_read : x.writes ≡ false → row'.value ≡ row.value → Hands x.cell (leave_read (held row.seq.locker)) v.parks g (held row'.seq.locker) v'.parks → open_reads (held row'.seq.locker) v'.parks x.cell + 1 ≡ open_reads (held row.seq.locker) v.parks x.cell → (IsWriteOpen (held row'.seq.locker) v'.parks x.cell → ⊥) → Stands held place hand (left x g m) v'
  leaves_read r value hands less closed =
      moved held place x.cell hand hand m (left x g m) v v' row' t (inside held place hand m v x t found) k.cells
      (read_back held place hand m v x t found row k.row_at g row' v'.parks r k.plan value k.run k.running hands less closed k.left)
      calm
      (keeps_still x.cell m row (left x g m) row' (t.draft x.cell row k.row_at) k.draft refl (λ j y e w. (still_there held place hand m v x t found g j y e).1) (λ j y e w. rw r refl))
      (gone_back (hands_writers x.cell _ v.parks g _ v'.parks hands) (listed_hand x.cell _ v.parks g hands.may) hands.rows)
      (parties_left held place hand m v v' x t k.parties g)

  module _ (w : x.writes ≡ true) (q : Phase) (phase : q ≡ phase_of (seen_by m x).phase) (value : row'.value ≡ (seen_by m x).value) (closed : IsWriteOpen (held row'.seq.locker) v'.parks x.cell → ⊥) where
    unwritten : count (writes_cell x.cell) (without_guard x.number m.guards) ≡ 0
    unwritten = let none = no_writes held place hand m v x t found row k.row_at w g in omega (arith, none)

    -- a write guard
    pub leaves_write : Hands x.cell (leave_write q (held row.seq.locker)) v.parks g (held row'.seq.locker) v'.parks → open_reads (held row'.seq.locker) v'.parks x.cell ≡ 0 → Stands held place hand (left x g m) v'
    leaves_write hands none = search (arith, moved, inside, write_back, calm, keeps_none, unwritten, gone_back, hands_writers, listed_hand, parties_left) depth 7

    -- a write guard, and its holder reads on
    pub leaves_down : Downgrades x.cell q (held row.seq.locker) v.parks g (held row'.seq.locker) v'.parks → open_reads (held row'.seq.locker) v'.parks x.cell ≡ 1 → HasFree v.parks → (n : ℕ) → length v.guards.items ≤ n → numbered n (without_guard x.number m.guards) ≡ None → Stands held place n (downgraded n x g m) v'
    leaves_down down reads free n room fresh =
        moved held place x.cell hand n m (downgraded n x g m) v v' row' t (inside held place hand m v x t found) k.cells
        (down_back held place hand m v x t found row k.row_at w n g row' v'.parks q k.plan phase value k.run k.running down reads closed k.left free)
        calm
        (keeps_none x.cell (downgraded n x g m) row' unwritten)
        (guard_opened held place x.cell hand hand n m (left x g m) v v' (reader n x.party x.cell)
        (gone_back (downgrades_writers x.cell q (held row.seq.locker) v.parks g (held row'.seq.locker) v'.parks down) (listed_share x.cell v.parks g down.may) down.rows)
        refl refl room fresh (ap (λ i. numbered i (without_guard x.number m.guards)) (sym (its_number hand m.guards x found)) ∙ gone x.number m.guards x (found_itself hand m.guards x found) (t.guards.once x.number)) (inside held place hand m v x t found))
        (parties_same held place hand m (downgraded n x g m) v v' t k.parties (λ p. ap (λ w. record { waiting = w; innermost = (party_row m p).innermost }) (target_given x.cell g m.waits p)))

-- what the code reads of the cell of the guard in hand
module _ {L : Type 0} (held : L → Holders) (place : L → LockerKind) (v : Rows L) (c : ℕ) (row : CellRow L) (row_is : row ≡ get_or v.cells.items c row) where
  row_in : c < length v.cells.items → slice_get v.cells.items c ≡ Some row
  row_in lt = read_at v.cells.items c row lt row_is

  pub reader_row : (hand : ℕ) (m : Standing) (x : Guard) → IsReader held place hand m v x c → slice_get v.cells.items c ≡ Some row
  reader_row hand m x is = row_in (subst (λ d. d < length v.cells.items) is.at (inside held place hand m v x is.stands is.found))

  pub writer_row : (hand : ℕ) (m : Standing) (x : Guard) → IsWriter held place hand m v x c → slice_get v.cells.items c ≡ Some row
  writer_row hand m x is = row_in (subst (λ d. d < length v.cells.items) is.at (inside held place hand m v x is.stands is.found))

  pub row_fits : (hand : ℕ) (m : Standing) → Stands held place hand m v → slice_get v.cells.items c ≡ Some row → Fits (place row.seq.locker) (held row.seq.locker) v.parks c
  row_fits hand m t e = (t.cell c row e).locked.fits

  pub reader_open : (hand : ℕ) (m : Standing) (x : Guard) → IsReader held place hand m v x c → 0 < open_reads (held row.seq.locker) v.parks c
  reader_open hand m x is = subst (λ d. 0 < open_reads (held row.seq.locker) v.parks d) is.at (read_open held place hand m v x is.stands is.found row (ap (λ d. slice_get v.cells.items d) is.at ∙ reader_row hand m x is) is.reads)

  pub writer_open : (hand : ℕ) (m : Standing) (x : Guard) → IsWriter held place hand m v x c → IsWriteOpen (held row.seq.locker) v.parks c
  writer_open hand m x is = subst (λ d. IsWriteOpen (held row.seq.locker) v.parks d) is.at (write_open held place hand m v x is.stands is.found row (ap (λ d. slice_get v.cells.items d) is.at ∙ writer_row hand m x is) is.writes)

  -- what the row keeps is what its holder sees
  pub writer_draft : (hand : ℕ) (m : Standing) (x : Guard) → IsWriter held place hand m v x c → row.draft ≡ draft_of (seen_by m x)
  writer_draft hand m x is = is.stands.draft c row (writer_row hand m x is) hand x is.found is.writes is.at

  pub writer_known : (hand : ℕ) (m : Standing) (x : Guard) → IsWriter held place hand m v x c → IsKnown row.draft.phase
  writer_known hand m x is =
      subst (λ (d : Draft). IsKnown d.phase) (sym (writer_draft hand m x is)) (effect_known (cell_at m.plans x.cell) x.changes (m.content x.cell) (is.stands.cell x.cell row (ap (λ d. slice_get v.cells.items d) is.at ∙ writer_row hand m x is)).known)

-- the same, at the cell that the code names
module _ {L : Type 0} (held : L → Holders) (place : L → LockerKind) (m : Standing) (v v' : Rows L) (c hand : ℕ) (x : Guard) (row row' : CellRow L) (g : Given) (k : IsCalled held place c row row' v v') where
  pub read_left : IsReader held place hand m v x c → row'.value ≡ row.value → Hands c (leave_read (held row.seq.locker)) v.parks g (held row'.seq.locker) v'.parks → open_reads (held row'.seq.locker) v'.parks c + 1 ≡ open_reads (held row.seq.locker) v.parks c → (IsWriteOpen (held row'.seq.locker) v'.parks c → ⊥) → Stands held place hand (left x g m) v'
  read_left is value =
      subst (λ d. IsCalled held place d row row' v v' → Hands d (leave_read (held row.seq.locker)) v.parks g (held row'.seq.locker) v'.parks → open_reads (held row'.seq.locker) v'.parks d + 1 ≡ open_reads (held row.seq.locker) v.parks d → (IsWriteOpen (held row'.seq.locker) v'.parks d → ⊥) → Stands held place hand (left x g m) v') is.at
      (λ k hands less closed. leaves_read held place hand m v v' x row row' g is.stands is.found k is.reads value hands less closed) k

  module _ (is : IsWriter held place hand m v x c) (draft : row.draft ≡ draft_of (seen_by m x)) (value : row'.value ≡ row.draft.value) where
    pub write_left : Hands c (leave_write row.draft.phase (held row.seq.locker)) v.parks g (held row'.seq.locker) v'.parks → open_reads (held row'.seq.locker) v'.parks c ≡ 0 → (IsWriteOpen (held row'.seq.locker) v'.parks c → ⊥) → Stands held place hand (left x g m) v'
    write_left =
        subst (λ d. IsCalled held place d row row' v v' → Hands d (leave_write row.draft.phase (held row.seq.locker)) v.parks g (held row'.seq.locker) v'.parks → open_reads (held row'.seq.locker) v'.parks d ≡ 0 → (IsWriteOpen (held row'.seq.locker) v'.parks d → ⊥) → Stands held place hand (left x g m) v') is.at
        (λ k hands none closed. leaves_write held place hand m v v' x row row' g is.stands is.found k is.writes row.draft.phase (ap (λ (d : Draft). d.phase) draft) (value ∙ ap (λ (d : Draft). d.value) draft) closed hands none) k

    pub write_down : Downgrades c row.draft.phase (held row.seq.locker) v.parks g (held row'.seq.locker) v'.parks → open_reads (held row'.seq.locker) v'.parks c ≡ 1 → (IsWriteOpen (held row'.seq.locker) v'.parks c → ⊥) → HasFree v.parks → (n : ℕ) → length v.guards.items ≤ n → numbered n (without_guard x.number m.guards) ≡ None → Stands held place n (downgraded n x g m) v'
    write_down =
        subst (λ d. IsCalled held place d row row' v v' → Downgrades d row.draft.phase (held row.seq.locker) v.parks g (held row'.seq.locker) v'.parks → open_reads (held row'.seq.locker) v'.parks d ≡ 1 → (IsWriteOpen (held row'.seq.locker) v'.parks d → ⊥) → HasFree v.parks → (n : ℕ) → length v.guards.items ≤ n → numbered n (without_guard x.number m.guards) ≡ None → Stands held place n (downgraded n x g m) v') is.at
        (λ k down reads closed free. leaves_down held place hand m v v' x row row' g is.stands is.found k is.writes row.draft.phase (ap (λ (d : Draft). d.phase) draft) (value ∙ ap (λ (d : Draft). d.value) draft) closed down reads free) k
