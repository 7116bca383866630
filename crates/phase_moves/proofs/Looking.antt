-- What the rows tell of what stands open.
use Rattle.phase_moves.proofs.Words.{◌≡◌, ◌==◌, ◌<◌, ◌∙◌, ℕ, List, length, get_or, ap, sym, subst, refl, arith, Bool, true, None, Some, [], ◌&&◌, gets, common_steps}
use Rattle.phase_moves.proofs.Words.{slice_get, Option, Holders, LockerKind, CellPlan, Guard, guard_of, numbered, own, cell_at, Section, innermost, cell_of_section}
use Rattle.phase_moves.proofs.Words.{wait_of, Running, CellRow, GuardRow, PartyRow, Rows, Standing, answered, changes_at, content_back, run_in, runner_of, seen_by, guard_row}
use Rattle.phase_moves.proofs.Words.{party_row, CountsWaits, KeepsDraft, AreInside, AreNumbered, AreShown, AreSized, IsCell, IsExit, Stands, seen_at, held_of, run_kept}
use Rattle.phase_moves.proofs.Words.{running_kept, running_of, shown_by, value_drafted, value_kept, Rests, Phase, phase_of, runs, Want, initializes, seeks, seeks_run, Change}
use Rattle.phase_moves.proofs.Words.{effect, none_without, Target, IsMet, IsAttempting, IsTook, ask_of, Given, Taken}
use Rattle.phase_moves.proofs.{Innermost.row_run, Places.read_at, Guards.inside_found, Hand.row_shown, Admitting.runs_same, Asked.none_sought}

is_there : {X : Type 0} (xs : List X) (i : ℕ) → i < length xs → slice_get xs i ≡ None → ⊥
is_there xs i lt e = grind (arith, common_steps, gets, lt, e)

got_there : {X : Type 0} (xs : List X) (i : ℕ) (x : X) → slice_get xs i ≡ Some x → x ≡ get_or xs i x
got_there xs i x e = grind (arith, common_steps, gets, e)

module _ {L : Type 0} (held : L → Holders) (place : L → LockerKind) (m : Standing) (v : Rows L) (r : Rests held place m v) where
  -- the row of the cell of the party's innermost section tells that section
  pub runs_by : (p cell : ℕ) (of : PartyRow) (o : Option Running) → p < length v.parties.items → of ≡ get_or v.parties.items p of → of.innermost ≡ Some cell → o ≡ run_kept cell (slice_get v.cells.items cell) → o ≡ running_of m (innermost p m.sections)
  runs_by p cell of o lt there inner told = by (innermost p m.sections) refl (sym (ap (λ (x : PartyRow). x.innermost) is_row) ∙ inner) where
    is_row : of ≡ party_row m p
    is_row = let e : Some of ≡ Some (party_row m p) = sym (read_at v.parties.items p of lt there) ∙ r.stands.party p lt in cc

    by : (i : Option Section) → innermost p m.sections ≡ i → cell_of_section i ≡ Some cell → o ≡ running_of m i
    by None e f = absurd (cc)
    by (Some s) e f = told ∙ at (slice_get v.cells.items cell) refl where
      same : s.cell ≡ cell
      same = cc

      inside : cell < length v.cells.items
      inside = subst (λ d. d < length v.cells.items) same (inside_found (length v.cells.items) p m.sections s r.stands.sections e)

      at : (q : Option (CellRow L)) → slice_get v.cells.items cell ≡ q → run_kept cell q ≡ running_of m (Some s)
      at None g = absurd (is_there v.cells.items cell inside g)
      at (Some row) g =
          let its : row.plan.kind ≡ (cell_at m.plans s.cell).kind = ap (λ (x : CellPlan). x.kind) (r.stands.cell cell row g).planned ∙ ap (λ d. (cell_at m.plans d).kind) (sym same) in
          ap (running_kept row.plan.kind cell) (row_run held place m v p cell s (record { rests = r; party = lt; found = e; at = same }) row (got_there v.cells.items cell row g))
          ∙ (λ i. Some (record { cell = sym same i; kind = its i; want = s.want }))

  -- the row of a guard tells what its holder sees
  pub holds_by : (p g : ℕ) (row : GuardRow) → g < length v.guards.items → row ≡ get_or v.guards.items g row → shown_by v p row ≡ held_of m (guard_of g p m.guards)
  holds_by p g row lt there = ap (shown_by v p) (row_shown held place m v v p g r row (read_at v.guards.items g row lt there) lt) ∙ by (numbered g m.guards) refl where
    by : (o : Option Guard) → numbered g m.guards ≡ o → shown_by v p (guard_row o) ≡ held_of m (own p o)
    by None e = refl
    by (Some x) e = at x.writes refl (x.party == p) refl where
      value : (q : Option (CellRow L)) → slice_get v.cells.items x.cell ≡ q → value_kept q ≡ (m.content x.cell).value
      value None f = absurd (is_there v.cells.items x.cell (r.stands.guards.in_cells g x e) f)
      value (Some c) f = (r.stands.cell x.cell c f).valued

      drafted : x.writes ≡ true → (q : Option (CellRow L)) → slice_get v.cells.items x.cell ≡ q → value_drafted q ≡ (seen_by m x).value
      drafted w q f = grind (arith, is_there, value)

      at : (w : Bool) → x.writes ≡ w → (b : Bool) → (x.party == p) ≡ b → shown_by v p (guard_row (Some x)) ≡ held_of m (own p (Some x))
      at w e b f = grind (arith, value, drafted)

-- ---- an attempt that is turned back, and one that looks at the cell as it is: it takes no lock

-- one that was turned back
pub met_turned : (m : Standing) (p : ℕ) (t : Target) → (initializes (cell_at m.plans t.cell).kind t.want && runs p (runner_of (run_in t.cell m.sections))) ≡ true → IsMet p t Taken.Cyclic Given.Nobody m
met_turned m p t turned = grind (arith, runs_same)

-- it is answered by what the cell holds
pub met_looked : (m : Standing) (p : ℕ) (t : Target) → seeks (cell_at m.plans t.cell).kind t.want ≡ None → wait_of p m.waits ≡ None → IsMet p t (Taken.Nothing (phase_of (m.content t.cell).phase)) Given.Nobody m
met_looked m p t none free = grind arith

-- nothing happened in its section
unchanged : (m : Standing) (c : ℕ) (w : Want) → seeks (cell_at m.plans c).kind w ≡ None → changes_at c w m ≡ []
unchanged m c w none = grind arith

-- so nothing is published
still : (m : Standing) (c d : ℕ) (chs : List Change) → chs ≡ [] → content_back (Some (record { cell = c; changes = chs })) m d ≡ m.content d
still m c d chs e = grind arith

module _ {L : Type 0} (held : L → Holders) (place : L → LockerKind) (hand : ℕ) (m : Standing) (v : Rows L) where
  -- what rows of these cells stand for
  record AsCells (cs : List (CellRow L)) : Type 0 where
    cell : (c : ℕ) (r : CellRow L) → slice_get cs c ≡ Some r → IsCell held place (seen_at c m) v.parks c r
    counted : (c : ℕ) (r : CellRow L) → slice_get cs c ≡ Some r → CountsWaits c m.waits r
    draft : (c : ℕ) (r : CellRow L) → slice_get cs c ≡ Some r → KeepsDraft c m r
    exit : IsExit (length cs) m v.exit
    waits : AreShown (length cs) m.waits v.parks
    guards : AreNumbered hand (length v.guards.items) (length cs) m.guards
    sections : AreInside (length cs) m.sections
    sizes : AreSized (length cs) (length v.parties.items) v.parks

  -- rows that are as they were stand for what they stood for
  stays : (v' : Rows L) → v'.cells.items ≡ v.cells.items → v'.guards ≡ v.guards → v'.parties ≡ v.parties → v'.parks ≡ v.parks → v'.exit ≡ v.exit → Stands held place hand m v → Stands held place hand m v'
  stays v' cells guards parties parks exit st =
      let k : AsCells v'.cells.items = subst AsCells (sym cells) (record { cell = st.cell; counted = st.counted; draft = st.draft; exit = st.exit; waits = st.waits; guards = st.guards; sections = st.sections; sizes = st.sizes }) in
      record {
        cell = λ c r e. subst (λ z. IsCell held place (seen_at c m) z c r) (sym parks) (k.cell c r e);
        counted = k.counted;
        draft = k.draft;
        slot = λ g lt. ap (λ (z : _). slice_get z.items g) guards ∙ st.slot g (subst (λ (z : _). g < length z.items) guards lt);
        party = λ q lt. ap (λ (z : _). slice_get z.items q) parties ∙ st.party q (subst (λ (z : _). q < length z.items) parties lt);
        exit = subst (λ z. IsExit (length v'.cells.items) m z) (sym exit) k.exit;
        waits = subst (λ z. AreShown (length v'.cells.items) m.waits z) (sym parks) k.waits;
        guards = subst (λ (z : _). AreNumbered hand (length z.items) (length v'.cells.items) m.guards) (sym guards) k.guards;
        sections = k.sections;
        sizes = subst (λ (z : _). AreSized (length v'.cells.items) (length z.items) v'.parks) (sym parties) (subst (λ z. AreSized (length v'.cells.items) (length v.parties.items) z) (sym parks) k.sizes);
      }

module _ {L : Type 0} (held : L → Holders) (place : L → LockerKind) (m : Standing) (v : Rows L) (p : ℕ) (t : Target) (waits : Bool) (is : IsAttempting held place m v p t waits) (row : CellRow L) (row_is : row ≡ get_or v.cells.items t.cell row) (none : ask_of row.plan t.want ≡ None) where
  here : IsCell held place (seen_at t.cell m) v.parks t.cell row
  here = is.rests.stands.cell t.cell row (read_at v.cells.items t.cell row is.cell row_is)

  nothing : seeks (cell_at m.plans t.cell).kind t.want ≡ None
  nothing = none_sought (cell_at m.plans t.cell) t.want (ap (λ (z : CellPlan). ask_of z t.want) (sym here.planned) ∙ none)

  free : wait_of p m.waits ≡ None
  free = grind (arith, is)

  same : m ≡ answered p t.cell Given.Nobody (changes_at t.cell t.want m) m
  same = λ i. record m { waits = sym (none_without p m.waits free) i; content = λ d. sym (still m t.cell d (changes_at t.cell t.want m) (unchanged m t.cell t.want nothing)) i }

  -- the rows are as they were
  module _ (v' : Rows L) (cells : v'.cells.items ≡ v.cells.items) (guards : v'.guards ≡ v.guards) (parties : v'.parties ≡ v.parties) (parks : v'.parks ≡ v.parks) (exit : v'.exit ≡ v.exit) where
    pub looks : (q : Phase) → q ≡ (held row.seq.locker).phase → IsTook held place m v p t (Taken.Nothing q) Given.Nobody v'
    looks q q_is = subst (λ z. IsTook held place m v p t (Taken.Nothing z) Given.Nobody v') (sym (q_is ∙ here.locked.phase_is))
        (record {
          stands = subst (λ z. Stands held place (length v.guards.items) z v') same (stays held place (length v.guards.items) m v v' cells guards parties parks exit is.rests.stands);
          told = ap (λ (chs : List Change). phase_of (effect (cell_at m.plans t.cell) chs (m.content t.cell)).phase) (sym (unchanged m t.cell t.want nothing));
          cyclic = sym (ap (λ s. seeks_run s && runs p (runner_of (run_in t.cell m.sections))) nothing);
          met = met_looked m p t nothing free;
        })
