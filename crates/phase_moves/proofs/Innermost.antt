-- The innermost section of a party, and what is left when it is given back.
use Rattle.phase_moves.proofs.Words.{◌≡◌, ◌≢◌, ◌==◌, ◌<◌, ◌≤◌, ◌+◌, ◌∙◌, ℕ, List, length, set, get_or, ap, sym, subst, refl, arith, true, false, cond, None, Some, Holders}
use Rattle.phase_moves.proofs.Words.{phase_of, IsKnown, Turned, Given, LockerKind, Parking, Fits, IsWriteOpen, rows_handed, Left, cell_at, Content, Change, effect, count}
use Rattle.phase_moves.proofs.Words.{Section, innermost, without_innermost, runs_in, writes_cell, wait_of, cell_of_section, found_counts, found_passes, count_ended}
use Rattle.phase_moves.proofs.Words.{innermost_kept, Shows, given_on, IsListed, shows_on, single_on, within_on, CellRow, OpenRun, PartyRow, Rows, Standing, Run, run_in}
use Rattle.phase_moves.proofs.Words.{reads_in, closed, CountsWaits, seen_at, IsCell, IsLocked, IsExit, party_row, open_run, section_of, target_of, IsInnermost}
use Rattle.phase_moves.proofs.Guards.{none_runs, run_kept, run_top, inside_ended, inside_found}
use Rattle.phase_moves.proofs.{Lockers.writing_alone, Leaving.sound, Moved.IsMoved, Moved.HasParties, Moved.exit_kept, Moved.parties_set, Places.read_at, Waiting.count_given}

module _ {L : Type 0} (held : L → Holders) (place : L → LockerKind) (m : Standing) (v : Rows L) (p c : ℕ) (s : Section) (is : IsInnermost held place m v p c s) (row : CellRow L) (row_is : row ≡ get_or v.cells.items c row) where
  abbrev n : ℕ
  n = length v.guards.items

  pub its_party : s.party ≡ p
  its_party = let q = found_passes (λ (x : Section). x.party == p) m.sections s is.found in grind (arith, q)

  pub in_cells : c < length v.cells.items
  in_cells = subst (λ d. d < length v.cells.items) is.at (inside_found (length v.cells.items) p m.sections s is.rests.stands.sections is.found)

  pub cell_here : IsCell held place (seen_at c m) v.parks c row
  cell_here = is.rests.stands.cell c row (read_at v.cells.items c row in_cells row_is)

  some_run : 0 < count (runs_in c) m.sections
  some_run = subst (λ d. 0 < count (runs_in d) m.sections) is.at (found_counts (λ (x : Section). x.party == p) (runs_in s.cell) m.sections s is.found (grind arith))

  abbrev its_run : Run
  its_run = record { section = s; outer = cell_of_section (innermost p (without_innermost p m.sections)) }

  pub runs_here : run_in c m.sections ≡ Some its_run
  runs_here = let one = cell_here.locked.one in subst (λ d. run_in d m.sections ≡ Some its_run) is.at (run_top p m.sections s is.found (subst (λ d. count (runs_in d) m.sections ≤ 1) (sym is.at) (omega (arith, one))))

  -- its row
  abbrev pub its_row : OpenRun
  its_row = record { run = record { party = s.party; want = s.want; outer = its_run.outer }; section = section_of (cell_at m.plans c) c (m.content c).phase s }

  pub row_run : row.run ≡ Some its_row
  row_run = cell_here.runs ∙ ap (open_run (cell_at m.plans c) c (m.content c).phase) runs_here

  pub has_run : row.run ≡ None → ⊥
  has_run e = let q = sym row_run ∙ e in cc

  pub o_is : (o : OpenRun) → row.run ≡ Some o → o ≡ its_row
  o_is o taken = let q = sym taken ∙ row_run in cc

  pub write_open : IsWriteOpen (held row.seq.locker) v.parks c
  write_open = let some = some_run in cell_here.locked.write_is (omega (arith, some))

  -- what the sequentializer requires
  module _ (o : OpenRun) (taken : row.run ≡ Some o) where
    pub end_cell : o.section.who.cell < length v.parks.readers
    end_cell = let e : o.section.who.cell ≡ c = ap (λ (x : OpenRun). x.section.who.cell) (o_is o taken) in let a = in_cells in let r = is.rests.stands.sizes.readers in omega (arith, e, a, r)

    pub end_fits : Fits (place row.seq.locker) (held row.seq.locker) v.parks o.section.who.cell
    end_fits = subst (λ (x : OpenRun). Fits (place row.seq.locker) (held row.seq.locker) v.parks x.section.who.cell) (sym (o_is o taken)) cell_here.locked.fits

  -- ---- what stands open then

  ended_runs : (d : ℕ) → count (runs_in d) m.sections ≡ count (runs_in d) (without_innermost s.party m.sections) + cond (runs_in d s) 1 0
  ended_runs d = subst (λ q. count (runs_in d) m.sections ≡ count (runs_in d) (without_innermost q m.sections) + cond {A = ℕ} (runs_in d s) 1 0) (sym its_party) (count_ended (runs_in d) p m.sections s is.found)

  pub no_writers : count (writes_cell c) m.guards ≡ 0
  no_writers = let one = cell_here.locked.one in let some = some_run in omega (arith, one, some)

  no_reads : reads_in c m ≡ 0
  no_reads = let some = some_run in writing_alone (place row.seq.locker) (held row.seq.locker) v.parks c _ _ _ cell_here.locked (omega (arith, some))

  no_runs : count (runs_in c) (without_innermost s.party m.sections) ≡ 0
  no_runs =
      let one = cell_here.locked.one in let less = ended_runs c in
      let yes : cond {A = ℕ} (runs_in c s) 1 0 ≡ 1 = (let e : (s.cell == c) ≡ true = (let q = is.at in grind (arith, q)) in rw e refl) in omega (arith, one, less, yes)

  runs_beside : (d : ℕ) → d ≢ c → count (runs_in d) (without_innermost s.party m.sections) ≡ count (runs_in d) m.sections
  runs_beside d ne = grind (arith, ended_runs)

  run_beside : (d : ℕ) → d ≢ c → run_in d (without_innermost s.party m.sections) ≡ run_in d m.sections
  run_beside d ne = run_kept d s.party m.sections s (ap (λ q. innermost q m.sections) its_party ∙ is.found) (λ e. ne (e ∙ is.at))

  -- the section alone is gone
  abbrev pub without_it : Standing
  without_it = record m { sections = without_innermost s.party m.sections }

  pub seen_without : seen_at c without_it ≡ record { plan = cell_at m.plans c; content = m.content c; reads = 0; writes = 0; run = None }
  seen_without =
      let r = no_reads in
      let w : count (writes_cell c) m.guards + count (runs_in c) (without_innermost s.party m.sections) ≡ 0 = (let x = no_writers in let y = no_runs in omega (arith, x, y)) in
      let o = none_runs c (without_innermost s.party m.sections) no_runs in λ i. record { plan = cell_at m.plans c; content = m.content c; reads = r i; writes = w i; run = o i }

  pub without_moved : (v' : Rows L) {l l' : L} → Left held place c l l' v.parks v'.parks → v'.guards ≡ v.guards → v'.exit ≡ v.exit → v'.parks ≡ v.parks → IsMoved held place c n n m without_it v v'
  without_moved v' k guards exit parks = grind (arith, runs_beside, run_beside, exit_kept, inside_ended)

  -- the section is gone, in which this happened, and g was given
  module _ (chs : List Change) (g : Given) where
    abbrev y : Content
    y = effect (cell_at m.plans c) chs (m.content c)

    abbrev without_closed : Standing
    without_closed = closed s (Some (record { cell = s.cell; changes = chs })) g m

    content_here : without_closed.content c ≡ effect (cell_at m.plans c) chs (m.content c)
    content_here = let e : (s.cell == c) ≡ true = (let q = is.at in grind (arith, q)) in rw e refl

    content_beside : (d : ℕ) → d ≢ c → without_closed.content d ≡ m.content d
    content_beside d ne = let e : (s.cell == d) ≡ false = (let q = is.at in grind (arith, q, ne)) in rw e refl

    pub seen_closed : seen_at c (closed s (Some (record { cell = s.cell; changes = chs })) g m) ≡ record { plan = cell_at m.plans c; content = effect (cell_at m.plans c) chs (m.content c); reads = 0; writes = 0; run = None }
    seen_closed =
        let a = content_here in let r = no_reads in
        let w : count (writes_cell c) m.guards + count (runs_in c) (without_innermost s.party m.sections) ≡ 0 = (let x = no_writers in let y = no_runs in omega (arith, x, y)) in
        let o = none_runs c (without_innermost s.party m.sections) no_runs in λ i. record { plan = cell_at m.plans c; content = a i; reads = r i; writes = w i; run = o i }

    pub closed_moved : (ts : List Turned) (v' : Rows L) {l l' : L} → Left held place c l l' v.parks v'.parks → v'.guards ≡ v.guards → IsExit (length v.cells.items) (record m { turns = ts }) v'.exit → length v'.parks.writers ≡ length v.parks.writers → IsListed c v.parks g → v'.parks ≡ rows_handed c g v.parks
        → IsMoved held place c n n m (record (closed s (Some (record { cell = s.cell; changes = chs })) g m) { turns = ts }) v v'
    closed_moved ts v' k guards exit lists listed rows =
        let st = is.rests.stands in
        record {
          counts = λ d ne. count_given d s.cell g m.waits;
          drafts = λ g' x e w ne. e;
          around = λ d ne. (let a = content_beside d ne in let w = runs_beside d ne in let r = run_beside d ne in λ i. record { plan = cell_at m.plans d; content = a i; reads = reads_in d m; writes = count (writes_cell d) m.guards + w i; run = r i });
          others = k.others;
          same = k.same;
          lists = lists;
          guards = guards;
          slots = λ g' lt. refl;
          exit = record { registry_is = exit.registry_is; owner_is = exit.owner_is; turns_are = exit.turns_are; cells_are = exit.cells_are };
          waits =
              record {
                shows = subst (λ (q : Parking). Shows (given_on s.cell g m.waits) q) (sym rows) (subst (λ d. Shows (given_on d g m.waits) (rows_handed c g v.parks)) (sym is.at) (shows_on c g m.waits v.parks in_parks (sound held place n m v st) st.waits.shows listed));
                single = single_on s.cell g m.waits st.waits.single;
                within = within_on (length v.cells.items) s.cell g m.waits st.waits.within;
              };
          numbers = st.guards;
          sections = inside_ended (length v.cells.items) s.party m.sections st.sections;
        } where
          in_parks : c < length v.parks.readers
          in_parks = let a = in_cells in let b = is.rests.stands.sizes.readers in omega (arith, a, b)

  -- ---- the rows

  -- as many wait at the cell as before
  pub counted_ended : (row' : CellRow L) (g : Given) → row'.waiting ≡ row.waiting → CountsWaits c (given_on s.cell g m.waits) row'
  counted_ended row' g same = same ∙ is.rests.stands.counted c row (read_at v.cells.items c row in_cells row_is) ∙ sym (count_given c s.cell g m.waits)

  -- the row of the cell
  pub cell_ended : (v' : Rows L) (row' : CellRow L) (y : Content) (a z : ℕ) → row'.plan ≡ row.plan → row'.run ≡ None → row'.seq.running ≡ None → place row'.seq.locker ≡ place row.seq.locker → row'.value ≡ y.value → IsKnown (phase_of y.phase) → IsLocked (place row'.seq.locker) (held row'.seq.locker) v'.parks c a z y.phase
      → IsCell held place (record { plan = cell_at m.plans c; content = y; reads = a; writes = z; run = None }) v'.parks c row'
  cell_ended v' row' y a z plan run running kind value known locked = grind (arith, cell_here)

  -- the rows of parties
  pub parties_ended : (v' : Rows L) (of of' : PartyRow) → of ≡ get_or v.parties.items p of → v'.parties.items ≡ set v.parties.items p of' → (o : OpenRun) → row.run ≡ Some o → of' ≡ record { waiting = of.waiting; innermost = o.run.outer }
      → (m' : Standing) → m'.sections ≡ without_innermost s.party m.sections → ((q : ℕ) → target_of (wait_of q m'.waits) ≡ target_of (wait_of q m.waits)) → HasParties held place m' v v'
  parties_ended v' of of' of_is parties o taken of'_is m' ss ws =
      parties_set held place n m m' v v' p of' is.rests.stands parties
      (of'_is ∙ (λ i. record { waiting = (of_here i).waiting; innermost = (o_is o taken i).run.outer }) ∙ (λ i. record { waiting = sym (ws p) i; innermost = cell_of_section (innermost p (without_innermost (sym its_party i) m.sections)) }) ∙ (λ i. record { waiting = target_of (wait_of p m'.waits); innermost = cell_of_section (innermost p (sym ss i)) }))
      (λ q ne. λ i. record { waiting = ws q i; innermost = cell_of_section ((ap (innermost q) ss ∙ innermost_kept s.party q m.sections (λ e. ne (e ∙ its_party))) i) }) where
        of_here : of ≡ party_row m p
        of_here = let e : Some of ≡ Some (party_row m p) = sym (read_at v.parties.items p of is.party of_is) ∙ is.rests.stands.party p is.party in cc

-- the section that ends is in a cell
pub end_inside : {L : Type 0} (held : L → Holders) (place : L → LockerKind) (m : Standing) (v : Rows L) (p c : ℕ) (s : Section) → IsInnermost held place m v p c s → c < length v.cells.items
end_inside held place m v p c s is = subst (λ d. d < length v.cells.items) is.at (inside_found (length v.cells.items) p m.sections s is.rests.stands.sections is.found)
