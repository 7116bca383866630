-- What is open is given back, one after another.
use Rattle.phase_moves.proofs.Words.{◌≡◌, ◌≢◌, ◌<◌, ◌+◌, ◌∙◌, ℕ, List, [], ◌∷◌, ◌++◌, length, ◌==◌, ap, sym, subst, refl, arith, false, None, Some, common_steps, gets}
use Rattle.phase_moves.proofs.Words.{slice_get_within, slice_get, Option, Holders, LockerKind, Given, ReadTicket, WriteTicket, IsWriteOpen, Parking}
use Rattle.phase_moves.proofs.Words.{fits_beside, SeqSection, LazySequentializer, Want, Guard, numbered, count, cell_at, Section, runs_in, CellRow, GuardRow, Rows, Run}
use Rattle.phase_moves.proofs.Words.{Standing, left_of_standing as left, run_in, IsCell, Stands, guard_row, section_of, seen_at, slot_row, Rests, LeavesRead, LeavesWrite}
use Rattle.phase_moves.proofs.Words.{IsReader, IsWriter, AreClosing, CanClose, IsClosing, IsOpenRun, IsPopped, RunsFor, StayBeside}
use Rattle.phase_moves.proofs.{Ending.asked_run, Finalizing.asked_final, Hand.read_row, Hand.write_row, Hand.left_empty, Hand.beyond, Known.stays_known, Opening.rehand}

-- ---- lists whose last is popped

pub last_at : {X : Type 0} (xs ys : List X) (x : X) → ys ≡ xs ++ x ∷ [] → slice_get ys (length xs) ≡ Some x
last_at xs ys x e = grind (arith, common_steps, gets)

pub other_at : {X : Type 0} (xs ys : List X) (x : X) (i : ℕ) → ys ≡ xs ++ x ∷ [] → i < length xs → slice_get ys i ≡ slice_get xs i
other_at xs ys x i e lt = grind (arith, common_steps, gets)

pub one_less : {X : Type 0} (xs ys : List X) (x : X) → ys ≡ xs ++ x ∷ [] → length ys ≡ length xs + 1
one_less xs ys x e = grind (arith, common_steps)

-- as few
pub rest_few : {X : Type 0} (rows rest : List X) (row : X) (n : ℕ) → length rows < n → rows ≡ rest ++ row ∷ [] → length rest < n
rest_few rows rest row n few popped = let more = one_less rest rows row popped in omega (arith, few, more)

-- ---- guards

module _ {L : Type 0} (held : L → Holders) (place : L → LockerKind) where
  -- the row of the latest step is popped
  module _ (old new : Rows L) (row : GuardRow) (can : CanClose held place old) (popped : old.guards.items ≡ new.guards.items ++ row ∷ []) (cells : new.cells ≡ old.cells) (parties : new.parties ≡ old.parties) (parks : new.parks ≡ old.parks) (exit : new.exit ≡ old.exit) where
    abbrev m : Standing
    m = can.m

    abbrev k : ℕ
    k = length new.guards.items

    n_is : length old.guards.items ≡ k + 1
    n_is = one_less new.guards.items old.guards.items row popped

    -- what a row shows that is not in hand
    shows : (hand g : ℕ) → g ≢ hand → slot_row hand m g ≡ guard_row (numbered g m.guards)
    shows hand g ne = let no : (g == hand) ≡ false = grind (arith, ne) in rw no refl

    pub pops : IsPopped held place row new
    pops =
        record {
          m = m;
          stands = record {
            cell = λ c r e. subst (λ s. IsCell held place (seen_at c m) s c r) (sym parks) (can.rests.stands.cell c r (ap (λ cs. slice_get cs.items c) (sym cells) ∙ e));
            counted = λ c r e. can.rests.stands.counted c r (ap (λ cs. slice_get cs.items c) (sym cells) ∙ e);
            draft = λ c r e. can.rests.stands.draft c r (ap (λ cs. slice_get cs.items c) (sym cells) ∙ e);
            slot = λ g lt. sym (other_at new.guards.items old.guards.items row g popped lt) ∙ can.rests.stands.slot g (let e = n_is in omega (arith, e, lt)) ∙ ap (λ r. Some r) (shows (length old.guards.items) g (let e = n_is in omega (arith, e, lt)) ∙ sym (shows k g (omega (arith, lt))));
            party = λ p lt. ap (λ ps. slice_get ps.items p) parties ∙ can.rests.stands.party p (subst (λ ps. p < length ps.items) parties lt);
            exit = rw (cells, exit) can.rests.stands.exit;
            waits = rw (cells, parks) can.rests.stands.waits;
            guards = grind (arith, below);
            sections = rw cells can.rests.stands.sections;
            sizes = rw (cells, parties, parks) can.rests.stands.sizes;
          };
          row_is = (let a : Some row ≡ Some (slot_row (length old.guards.items) m k) = sym (last_at new.guards.items old.guards.items row popped) ∙ can.rests.stands.slot k (let e = n_is in omega (arith, e)) in cc) ∙ shows (length old.guards.items) k (let e = n_is in omega (arith, e));
        } where
          below : (g : ℕ) (x : Guard) → numbered g m.guards ≡ Some x → g ≢ k → g < k
          below g x e ne = grind (arith, n_is)

  -- nothing is in hand after a guard was given back
  rests_again : (hand : ℕ) (m : Standing) (v : Rows L) → Stands held place hand m v → numbered hand m.guards ≡ None → Rests held place m v
  rests_again hand m v t none = record { stands = rehand held place hand (length v.guards.items) m v t none (omega arith); empty = beyond held place hand (length v.guards.items) m v t none (omega arith) }

  -- what was popped is given back
  module _ (v : Rows L) (row : GuardRow) (popped : IsPopped held place row v) where
    abbrev hand : ℕ
    hand = length v.guards.items

    read_in : (p c : ℕ) (l : ReadTicket) → row ≡ GuardRow.Read p c l → (x : Guard) × IsReader held place hand popped.m v x c
    read_in p c l e = let r = read_row p c l (numbered hand popped.m.guards) (sym e ∙ popped.row_is) in (r.x, record { stands = popped.stands; found = r.is; at = r.at; reads = r.reads })

    write_in : (p c : ℕ) (l : WriteTicket) → row ≡ GuardRow.Write p c l → (x : Guard) × IsWriter held place hand popped.m v x c
    write_in p c l e = let r = write_row p c l (numbered hand popped.m.guards) (sym e ∙ popped.row_is) in (r.x, record { stands = popped.stands; found = r.is; at = r.at; writes = r.writes })

    pub closes_read : (new : Rows L) (d : Given) (p c : ℕ) (l : ReadTicket) → row ≡ GuardRow.Read p c l → LeavesRead held place v c d new → CanClose held place new × (new.exit.turns.items ≡ v.exit.turns.items)
    closes_read new d p c l e leaves =
        let r = read_in p c l e in
        let after = leaves hand popped.m r.0 r.1 in (
          record { m = left r.0 d popped.m; rests = rests_again hand (left r.0 d popped.m) new after (left_empty held place hand popped.m v r.0 d r.1.stands r.1.found) },
          after.exit.turns_are ∙ sym popped.stands.exit.turns_are,
        )

    pub closes_write : (new : Rows L) (d : Given) (p c : ℕ) (l : WriteTicket) → row ≡ GuardRow.Write p c l → LeavesWrite held place v c d new → CanClose held place new × (new.exit.turns.items ≡ v.exit.turns.items)
    closes_write new d p c l e leaves =
        let r = write_in p c l e in
        let after = leaves hand popped.m r.0 r.1 in (
          record { m = left r.0 d popped.m; rests = rests_again hand (left r.0 d popped.m) new after (left_empty held place hand popped.m v r.0 d r.1.stands r.1.found) },
          after.exit.turns_are ∙ sym popped.stands.exit.turns_are,
        )

-- ---- sections

-- one that runs in the cell is counted
runs_counted : (c : ℕ) (ss : List Section) (r : Run) → run_in c ss ≡ Some r → 0 < count (runs_in c) ss
runs_counted c [] r e = absurd (cc)
runs_counted c (s ∷ ss) r e = grind (arith, e, runs_counted c ss r)

-- the section of the cell's sequentializer
abbrev section_at : Standing → ℕ → Run → SeqSection
section_at m c r = section_of (cell_at m.plans c) c (m.content c).phase r.section

module _ {L : Type 0} (held : L → Holders) (place : L → LockerKind) where
  -- what rows that stand for something hold open
  pub are_closing : (v : Rows L) → CanClose held place v → AreClosing held place v.parks v.cells.items
  are_closing v can c row at o taken = by (run_in c can.m.sections) refl where
    here : IsCell held place (seen_at c can.m) v.parks c row
    here = can.rests.stands.cell c row at

    open_at : (r : Run) → run_in c can.m.sections ≡ Some r → IsWriteOpen (held row.seq.locker) v.parks c
    open_at r e = let some : 0 < count (runs_in c) can.m.sections = runs_counted c can.m.sections r e in here.locked.write_is (omega (arith, some))

    runs_for : (r : Run) → run_in c can.m.sections ≡ Some r → (w : Want) → r.section.want ≡ w → RunsFor held place w (section_at can.m c r) row.seq v.parks
    runs_for r e w f = grind (arith, here, asked_run, stays_known, open_at, asked_final)

    by : (q : Option Run) → run_in c can.m.sections ≡ q → IsOpenRun held place c v.parks row.seq o.run.want o.section
    by q e = grind (arith, here, runs_for, slice_get_within)

  -- what is open in another cell stays so
  stays_open : (c n : ℕ) (s s' : Parking) (seq : LazySequentializer L (Unit {0})) (w : Want) (section : SeqSection) → StayBeside n s s' → c ≢ n → IsOpenRun held place c s seq w section → IsOpenRun held place c s' seq w section
  stays_open c n s s' seq w section beside ne is =
      record {
        at = is.at;
        inside = subst (λ k. c < k) (sym beside.same.cells) is.inside;
        fits = fits_beside (place seq.locker) (held seq.locker) s s' n c is.fits beside.others ne;
        runs = by w is.runs;
      } where
        open_still : IsWriteOpen (held seq.locker) s section.who.cell → IsWriteOpen (held seq.locker) s' section.who.cell
        open_still k = record { locked = k.locked; unclaimed = (beside.others.cells section.who.cell (λ q. ne (sym is.at ∙ q))).claims ∙ k.unclaimed }

        by : (x : Want) → RunsFor held place x section seq s → RunsFor held place x section seq s'
        by x r = grind (arith, open_still)

  -- the last of them
  pub last_closing : (s : Parking) (rows rest : List (CellRow L)) (row : CellRow L) (n : ℕ) → AreClosing held place s rows → rows ≡ rest ++ row ∷ [] → n ≡ length rest → IsClosing held place n s row
  last_closing s rows rest row n all popped is = subst (λ i. IsClosing held place i s row) (sym is) (all (length rest) row (last_at rest rows row popped))

  -- and the others
  pub rest_closing : (s s' : Parking) (rows rest : List (CellRow L)) (row : CellRow L) (n : ℕ) → AreClosing held place s rows → rows ≡ rest ++ row ∷ [] → n ≡ length rest → StayBeside n s s' → AreClosing held place s' rest
  rest_closing s s' rows rest row n all popped is beside c r at o taken =
      let lt : c < length rest = slice_get_within rest c r at in let there : slice_get rows c ≡ Some r = other_at rest rows row c popped lt ∙ at in
      stays_open c n s s' r.seq o.run.want o.section beside (omega (arith, lt, is)) (all c r there o taken)
