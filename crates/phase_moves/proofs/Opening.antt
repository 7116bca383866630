-- A guard is opened, put into its row, and taken out of it.
use Rattle.phase_moves.proofs.Words.{◌≡◌, ◌≢◌, ◌==◌, ◌<◌, ◌≤◌, ◌+◌, ◌∙◌, ℕ, List, [], ◌∷◌, ◌++◌, length, set, ap, sym, subst, refl, arith, Bool, true, false, None, Some, inl}
use Rattle.phase_moves.proofs.Words.{inr, length-set, cases_eq, cases_lt, common_steps, gets, slice_get, ◌⊎◌, Option, Holders, LockerKind, Section, Guard, numbered, reader}
use Rattle.phase_moves.proofs.Words.{Change, cell_at, GuardRow, Rows, Standing, guarded, run_in, reads_in, writes_in, writer_asked, opened, Stands, IsCell, IsExit, AreShown}
use Rattle.phase_moves.proofs.Words.{AreSized, AreInside, seen_at, slot_row, guard_row, Parking, Rests, Who, IsWriteOpen, Begun, BegunStands, begins_write}
use Rattle.phase_moves.proofs.{Drafts.found_beside, Guards.once_with, Guards.writes_elsewhere, Moved.IsMoved, Places.slice_get_set_same, Places.slice_get_set_other}
use Rattle.phase_moves.proofs.Attempts.{wrote}

-- the guards with one more
numbered_with : (y : Guard) (g : ℕ) (gs : List Guard) → g ≢ y.number → numbered g (y ∷ gs) ≡ numbered g gs
numbered_with y g gs ne = grind (arith, ne)

-- what is seen of a cell with a read guard more
pub seen_reader : (n p c : ℕ) (m : Standing) → seen_at c (guarded (reader n p c) m) ≡ record { plan = cell_at m.plans c; content = m.content c; reads = reads_in c m + 1; writes = writes_in c m; run = run_in c m.sections }
seen_reader n p c m = let e : (c == c) ≡ true = grind arith in rw e refl

-- and with a write guard more
pub seen_writer : (n p c : ℕ) (chs : List Change) (m : Standing) → seen_at c (guarded (writer_asked n p c chs) m) ≡ record { plan = cell_at m.plans c; content = m.content c; reads = reads_in c m; writes = writes_in c m + 1; run = run_in c m.sections }
seen_writer n p c chs m = grind arith

module _ {L : Type 0} (held : L → Holders) (place : L → LockerKind) where
  -- after a move that left the hand empty, a guard is opened
  pub guard_opened : (c hand hand' n : ℕ) (m m' : Standing) (v v' : Rows L) (y : Guard) → IsMoved held place c hand hand' m m' v v' → y.number ≡ n → y.cell ≡ c → length v.guards.items ≤ n → numbered n m'.guards ≡ None → numbered hand' m'.guards ≡ None → c < length v.cells.items → IsMoved held place c hand n m (guarded y m') v v'
  guard_opened c hand hand' n m m' v v' y k number at room fresh empty lt = grind (arith, once_with, numbered_with, cases_eq, writes_elsewhere, found_beside)

  -- only the rows of guards change
  reslotted : (hand n : ℕ) (m : Standing) (v v' : Rows L) → Stands held place hand m v → v'.cells ≡ v.cells → v'.parties ≡ v.parties → v'.parks ≡ v.parks → v'.exit ≡ v.exit
      → ((g : ℕ) → g < length v'.guards.items → slice_get v'.guards.items g ≡ Some (slot_row n m g)) → ((g : ℕ) (x : Guard) → numbered g m.guards ≡ Some x → g ≢ n → g < length v'.guards.items) → Stands held place n m v'
  reslotted hand n m v v' t cells parties parks exit slot in_rows =
      record {
        cell = λ c r e. subst (λ (s : Parking). IsCell held place (seen_at c m) s c r) (sym parks) (t.cell c r (ap (λ (xs : _). slice_get xs.items c) (sym cells) ∙ e));
        counted = λ c r e. t.counted c r (ap (λ (xs : _). slice_get xs.items c) (sym cells) ∙ e);
        draft = λ c r e. t.draft c r (ap (λ (xs : _). slice_get xs.items c) (sym cells) ∙ e);
        slot = slot;
        party = λ p l. ap (λ (xs : _). slice_get xs.items p) parties ∙ t.party p (subst (λ (xs : _). p < length xs.items) parties l);
        exit = subst (λ (xs : _). IsExit (length xs.items) m v'.exit) (sym cells) (subst (λ x. IsExit (length v.cells.items) m x) (sym exit) t.exit);
        waits = subst (λ (xs : _). AreShown (length xs.items) m.waits v'.parks) (sym cells) (subst (λ (s : Parking). AreShown (length v.cells.items) m.waits s) (sym parks) t.waits);
        guards = record { once = t.guards.once; in_rows = in_rows; in_cells = λ g x e. subst (λ (xs : _). x.cell < length xs.items) (sym cells) (t.guards.in_cells g x e) };
        sections = subst (λ (xs : _). AreInside (length xs.items) m.sections) (sym cells) t.sections;
        sizes = subst (λ (xs : _). AreSized (length xs.items) (length v'.parties.items) v'.parks) (sym cells) (subst (λ (xs : _). AreSized (length v.cells.items) (length xs.items) v'.parks) (sym parties) (subst (λ (s : Parking). AreSized (length v.cells.items) (length v.parties.items) s) (sym parks) t.sizes));
      }

  -- the empty hand is named anew
  pub rehand : (hand n : ℕ) (m : Standing) (v : Rows L) → Stands held place hand m v → numbered hand m.guards ≡ None → length v.guards.items ≤ n → Stands held place n m v
  rehand hand n m v t none room = grind arith

  -- the row of the step is pushed
  pub pushed : (m : Standing) (v v' : Rows L) (row : GuardRow) → Stands held place (length v.guards.items) m v → row ≡ guard_row (numbered (length v.guards.items) m.guards) → v'.guards.items ≡ v.guards.items ++ row ∷ [] → v'.cells ≡ v.cells → v'.parties ≡ v.parties → v'.parks ≡ v.parks → v'.exit ≡ v.exit
      → Stands held place (length v.guards.items + 1) m v'
  pushed m v v' row t is guards cells parties parks exit =
      reslotted n (n + 1) m v v' t cells parties parks exit (λ g l. ap (λ (xs : List GuardRow). slice_get xs g) guards ∙ by g (cases_lt g n) (subst (λ i. g < i) size l)) in_rows where
        n : ℕ
        n = length v.guards.items

        size : length v'.guards.items ≡ n + 1
        size = ap (λ (xs : List GuardRow). length xs) guards ∙ grind (arith, common_steps)

        next : (g : ℕ) → g < n + 1 → slot_row (n + 1) m g ≡ guard_row (numbered g m.guards)
        next g l = let no : (g == n + 1) ≡ false = grind (arith, l) in rw no refl

        before : (g : ℕ) → g < n → slot_row n m g ≡ guard_row (numbered g m.guards)
        before g l = let no : (g == n) ≡ false = grind (arith, l) in rw no refl

        last : (xs : List GuardRow) (r : GuardRow) → slice_get (xs ++ r ∷ []) (length xs) ≡ Some r
        last xs r = grind (arith, common_steps, gets)

        first : (xs : List GuardRow) (r : GuardRow) (g : ℕ) → g < length xs → slice_get (xs ++ r ∷ []) g ≡ slice_get xs g
        first xs r g l = grind (arith, common_steps, gets)

        by : (g : ℕ) → (g < n) ⊎ (n ≤ g) → g < n + 1 → slice_get (v.guards.items ++ row ∷ []) g ≡ Some (slot_row (n + 1) m g)
        by g e k = grind (arith, first, before, next, n, last)

        in_rows : (g : ℕ) (x : Guard) → numbered g m.guards ≡ Some x → g ≢ n + 1 → g < length v'.guards.items
        in_rows g x e ne = elim (cases_eq g n) [ inl q ↦ omega (arith, q, size) | inr ne2 ↦ (let l = t.guards.in_rows g x e ne2 in omega (arith, l, size)) ]

  -- the row of a guard is taken
  pub taken : (m : Standing) (v v' : Rows L) (g : ℕ) → Stands held place (length v.guards.items) m v → numbered (length v.guards.items) m.guards ≡ None → g < length v.guards.items → v'.guards.items ≡ set v.guards.items g GuardRow.Free → v'.cells ≡ v.cells → v'.parties ≡ v.parties → v'.parks ≡ v.parks → v'.exit ≡ v.exit
      → Stands held place g m v'
  taken m v v' g t none lt guards cells parties parks exit =
      reslotted (length v.guards.items) g m v v' t cells parties parks exit (λ j l. ap (λ (xs : List GuardRow). slice_get xs j) guards ∙ by j (cases_eq j g) (subst (λ i. j < i) size l)) in_rows where
        size : length v'.guards.items ≡ length v.guards.items
        size = ap (λ (xs : List GuardRow). length xs) guards ∙ length-set v.guards.items g GuardRow.Free

        slots : (j : ℕ) → j ≢ g → j < length v.guards.items → slot_row (length v.guards.items) m j ≡ slot_row g m j
        slots j ne l = let a : (j == g) ≡ false = grind (arith, ne) in let b : (j == length v.guards.items) ≡ false = grind (arith, l) in rw (a, b) refl

        itself : slot_row g m g ≡ GuardRow.Free
        itself = let a : (g == g) ≡ true = grind arith in rw a refl

        by : (j : ℕ) → (j ≡ g) ⊎ (j ≢ g) → j < length v.guards.items → slice_get (set v.guards.items g GuardRow.Free) j ≡ Some (slot_row g m j)
        by j e l = grind (arith, slice_get_set_same, itself, slice_get_set_other, slots)

        in_rows : (j : ℕ) (x : Guard) → numbered j m.guards ≡ Some x → j ≢ g → j < length v'.guards.items
        in_rows j x e ne = grind (arith, cases_eq, size)

  -- so nothing is in hand
  pub pushed_rests : (m : Standing) (v v' : Rows L) (row : GuardRow) → Stands held place (length v.guards.items) m v → row ≡ guard_row (numbered (length v.guards.items) m.guards) → v'.guards.items ≡ v.guards.items ++ row ∷ [] → v'.cells ≡ v.cells → v'.parties ≡ v.parties → v'.parks ≡ v.parks → v'.exit ≡ v.exit → Rests held place m v'
  pushed_rests m v v' row t is guards cells parties parks exit =
      record { stands = subst (λ i. Stands held place i m v') (sym size) (pushed m v v' row t is guards cells parties parks exit); empty = ap (λ i. numbered i m.guards) size ∙ by (numbered (length v.guards.items + 1) m.guards) refl } where
        size : length v'.guards.items ≡ length v.guards.items + 1
        size = ap (λ (xs : List GuardRow). length xs) guards ∙ grind (arith, common_steps)

        by : (o : Option Guard) → numbered (length v.guards.items + 1) m.guards ≡ o → o ≡ None
        by o e = grind arith

-- ---- what is opened by what was begun, and a section more

-- what is not positive is nothing
pub no_more : (j : ℕ) → (0 < j → ⊥) → j ≡ 0
no_more j f = elim (cases_lt 0 j) [ inl lt ↦ absurd (f lt) | inr le ↦ omega (arith, le) ]

-- what opens a write hold leaves it open
pub opens : (who : Who) (b : Begun) (running : Option ℕ) (h : Holders) (s : Parking) → begins_write b ≡ true → BegunStands who b running h s → IsWriteOpen h s who.cell
opens who b running h s e k = grind arith

pub wrote_all : (d : Bool) (b : Begun) → begins_write b ≡ true → wrote d b ≡ true
wrote_all d b e = grind arith

module _ {L : Type 0} (held : L → Holders) (place : L → LockerKind) where
  -- a section more
  pub section_opened : (c hand hand' : ℕ) (m m' : Standing) (v v' : Rows L) (s : Section) → IsMoved held place c hand hand' m m' v v' → s.cell ≡ c → c < length v.cells.items → IsMoved held place c hand hand' m (opened s m'.registry m') v v'
  section_opened c hand hand' m m' v v' s k at lt = grind arith
