-- Rows stand for what is open after one cell was called: the one lemma that every move ends in.
use Rattle.phase_moves.proofs.Words.{◌≡◌, ◌≢◌, ◌<◌, ◌∙◌, ℕ, List, length, set, ap, sym, subst, true, Some, inl, inr, length-set, cases_eq, slice_get, ◌⊎◌, Holders, cells_of}
use Rattle.phase_moves.proofs.Words.{LockerKind, Parking, SameSize, SameAt, OthersStay, CellRow, Exit, PartyRow, Rows, Standing, seen_by, effect, Guard, numbered, count}
use Rattle.phase_moves.proofs.Words.{waits_at, most_parties, CountsWaits, KeepsDraft, draft_of, Seen, seen_at, IsCell, Stands, IsExit, AreShown, AreNumbered, slot_row}
use Rattle.phase_moves.proofs.Words.{party_row, AreInside, Left}
use Rattle.phase_moves.proofs.{Lockers.locked_same, Places.slice_get_set_same, Places.slice_get_set_other}

-- an exit that is not touched, where it stands as it did
pub exit_kept : (n : ℕ) (m m' : Standing) (x x' : Exit) → x' ≡ x → m'.registry ≡ m.registry → m'.owner ≡ m.owner → m'.turns ≡ m.turns → IsExit n m x → IsExit n m' x'
exit_kept n m m' x x' e r o ts k =
    record {
      registry_is = ap (λ (y : Exit). y.registry) e ∙ k.registry_is ∙ sym r;
      owner_is = ap (λ (y : Exit). y.owner) e ∙ k.owner_is ∙ sym o;
      turns_are = ap (λ (y : Exit). y.turns.items) e ∙ k.turns_are ∙ sym ts;
      cells_are = ap cells_of r ∙ k.cells_are;
    }

module _ {L : Type 0} (held : L → Holders) (place : L → LockerKind) where
  -- the row of another cell stays right
  cell_beside : (z z' : Seen) (s s' : Parking) (d : ℕ) (row : CellRow L) → z' ≡ z → SameAt d s s' → IsCell held place z s d row → IsCell held place z' s' d row
  cell_beside z z' s s' d row e same k =
      subst (λ (y : Seen). IsCell held place y s' d row) (sym e)
      (record { planned = k.planned; valued = k.valued; known = k.known; locked = locked_same _ _ s s' d _ _ _ same k.locked; placed = k.placed; runner = k.runner; runs = k.runs })

  -- a call at cell c was made, of whose row this was left, and nothing else was touched but who is parked
  pub record IsCalled (c : ℕ) (row row' : CellRow L) (v v' : Rows L) : Type 0 where
    pub row_at : slice_get v.cells.items c ≡ Some row
    pub cells : v'.cells.items ≡ set v.cells.items c row'
    pub guards : v'.guards ≡ v.guards
    pub parties : v'.parties ≡ v.parties
    pub exit : v'.exit ≡ v.exit
    pub plan : row'.plan ≡ row.plan
    pub waiting : row'.waiting ≡ row.waiting
    pub draft : row'.draft ≡ row.draft
    pub run : row'.run ≡ row.run
    pub running : row'.seq.running ≡ row.seq.running
    pub left : Left held place c row.seq.locker row'.seq.locker v.parks v'.parks

  -- what a move at cell c changes besides the row of that cell
  pub record IsMoved (c hand hand' : ℕ) (m m' : Standing) (v v' : Rows L) : Type 0 where
    pub around : (d : ℕ) → d ≢ c → seen_at d m' ≡ seen_at d m
    pub counts : (d : ℕ) → d ≢ c → count (waits_at d) m'.waits ≡ count (waits_at d) m.waits
    pub drafts : (g : ℕ) (x : Guard) → numbered g m'.guards ≡ Some x → x.writes ≡ true → x.cell ≢ c → numbered g m.guards ≡ Some x
    pub others : OthersStay c v.parks v'.parks
    pub same : SameSize v.parks v'.parks
    pub lists : length v'.parks.writers ≡ length v.parks.writers
    pub guards : v'.guards ≡ v.guards
    pub slots : (g : ℕ) → g < length v.guards.items → slot_row hand' m' g ≡ slot_row hand m g
    pub exit : IsExit (length v.cells.items) m' v'.exit
    pub waits : AreShown (length v.cells.items) m'.waits v'.parks
    pub numbers : AreNumbered hand' (length v.guards.items) (length v.cells.items) m'.guards
    pub sections : AreInside (length v.cells.items) m'.sections

  -- the rows of parties are those of what is open
  pub record HasParties (m' : Standing) (v v' : Rows L) : Type 0 where
    pub count : length v'.parties.items ≡ length v.parties.items
    pub row : (p : ℕ) → p < length v.parties.items → slice_get v'.parties.items p ≡ Some (party_row m' p)

  -- what holds of the row that is written and of each other row holds of all
  each_row : (P : ℕ → CellRow L → Type 0) (xs : List (CellRow L)) (c : ℕ) (row : CellRow L) → c < length xs → P c row → ((d : ℕ) (r : CellRow L) → d ≢ c → slice_get xs d ≡ Some r → P d r) → (d : ℕ) (r : CellRow L) → slice_get (set xs c row) d ≡ Some r → P d r
  each_row P xs c row lt here beside d r e = elim (cases_eq d c) [
    | inl q ↦ (let f : Some row ≡ Some r = sym (slice_get_set_same xs c row lt) ∙ ap (λ i. slice_get (set xs c row) i) (sym q) ∙ e in let s : row ≡ r = cc in
        subst (λ i. P i r) (sym q) (subst (λ x. P c x) s here))
    | inr ne ↦ beside d r ne (sym (slice_get_set_other xs c d row ne) ∙ e)
  ]

  -- the rows stand for it
  pub moved : (c hand hand' : ℕ) (m m' : Standing) (v v' : Rows L) (row : CellRow L) → Stands held place hand m v → c < length v.cells.items → v'.cells.items ≡ set v.cells.items c row
      → IsCell held place (seen_at c m') v'.parks c row → CountsWaits c m'.waits row → KeepsDraft c m' row → IsMoved c hand hand' m m' v v' → HasParties m' v v' → Stands held place hand' m' v'
  moved c hand hand' m m' v v' row t lt cells here many keeps k ps =
      record {
        cell = λ d r e. each_row (λ d r. IsCell held place (seen_at d m') v'.parks d r) v.cells.items c row lt here
            (λ d r ne f. cell_beside (seen_at d m) (seen_at d m') v.parks v'.parks d r (k.around d ne) (k.others.cells d ne) (t.cell d r f)) d r (at d r e);
        counted = λ d r e. each_row (λ d r. CountsWaits d m'.waits r) v.cells.items c row lt many (λ d r ne f. t.counted d r f ∙ sym (k.counts d ne)) d r (at d r e);
        draft = λ d r e. each_row (λ d r. KeepsDraft d m' r) v.cells.items c row lt keeps (λ d r ne f g x j w o. let beside : x.cell ≢ c = (λ q. ne (sym o ∙ q)) in
            t.draft d r f g x (k.drafts g x j w beside) w o ∙ ap draft_of (sym (seen x beside))) d r (at d r e);
        slot = λ g l. let l' : g < length v.guards.items = subst (λ (xs : _). g < length xs.items) k.guards l in
            ap (λ (xs : _). slice_get xs.items g) k.guards ∙ t.slot g l' ∙ ap (λ x. Some x) (sym (k.slots g l'));
        party = λ p l. ps.row p (subst (λ n. p < n) ps.count l);
        exit = subst (λ n. IsExit n m' v'.exit) (sym size) k.exit;
        waits = subst (λ n. AreShown n m'.waits v'.parks) (sym size) k.waits;
        guards = subst (λ (xs : _). AreNumbered hand' (length xs.items) (length v'.cells.items) m'.guards) (sym k.guards) (subst (λ n. AreNumbered hand' (length v.guards.items) n m'.guards) (sym size) k.numbers);
        sections = subst (λ n. AreInside n m'.sections) (sym size) k.sections;
        sizes =
            record {
              rows = k.same.parties ∙ t.sizes.rows ∙ sym ps.count;
              readers = k.same.cells ∙ t.sizes.readers ∙ sym size;
              writers = k.lists ∙ t.sizes.writers ∙ sym size;
              few = subst (λ n. n < most_parties) (sym k.same.parties) t.sizes.few;
            };
      } where
        size : length v'.cells.items ≡ length v.cells.items
        size = ap (λ (xs : List (CellRow L)). length xs) cells ∙ length-set v.cells.items c row

        at : (d : ℕ) (r : CellRow L) → slice_get v'.cells.items d ≡ Some r → slice_get (set v.cells.items c row) d ≡ Some r
        at d r e = ap (λ (xs : List (CellRow L)). slice_get xs d) (sym cells) ∙ e

        -- the holder of a guard of another cell sees what it saw
        seen : (x : Guard) → x.cell ≢ c → seen_by m' x ≡ seen_by m x
        seen x ne = let z = k.around x.cell ne in λ i. effect (z i).plan x.changes (z i).content

  -- a list of rows that is not touched, where what it shows stays
  pub parties_same : (hand : ℕ) (m m' : Standing) (v v' : Rows L) → Stands held place hand m v → v'.parties ≡ v.parties → ((p : ℕ) → party_row m' p ≡ party_row m p) → HasParties m' v v'
  parties_same hand m m' v v' t e same =
      record { count = ap (λ (xs : _). length xs.items) e; row = λ p lt. ap (λ (xs : _). slice_get xs.items p) e ∙ t.party p lt ∙ ap (λ x. Some x) (sym (same p)) }

  -- the row of one party is written, and those of others stay
  pub parties_set : (hand : ℕ) (m m' : Standing) (v v' : Rows L) (p : ℕ) (row : PartyRow) → Stands held place hand m v → v'.parties.items ≡ set v.parties.items p row → row ≡ party_row m' p → ((q : ℕ) → q ≢ p → party_row m' q ≡ party_row m q) → HasParties m' v v'
  parties_set hand m m' v v' p row t e here same =
      record { count = ap (λ (xs : List PartyRow). length xs) e ∙ length-set v.parties.items p row; row = λ q lt. ap (λ (xs : List PartyRow). slice_get xs q) e ∙ by q lt (cases_eq q p) } where
        by : (q : ℕ) → q < length v.parties.items → (q ≡ p) ⊎ (q ≢ p) → slice_get (set v.parties.items p row) q ≡ Some (party_row m' q)
        by q lt (inl f) = rw f (slice_get_set_same v.parties.items p row (subst (λ i. i < length v.parties.items) f lt) ∙ ap (λ x. Some x) here)
        by q lt (inr ne) = slice_get_set_other v.parties.items p q row ne ∙ t.party q lt ∙ ap (λ x. Some x) (sym (same q ne))
