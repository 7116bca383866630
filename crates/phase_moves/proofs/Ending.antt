-- A run ends, and its call goes on.
use Rattle.phase_moves.proofs.Words.{◌≡◌, ◌==◌, ◌<◌, ◌+◌, ◌∙◌, ℕ, [], ◌∷◌, length, set, get_or, ap, sym, subst, refl, arith, Bool, true, false, None, Some, Option}
use Rattle.phase_moves.proofs.Words.{is_some_of_option as is_some, Phase, Holders, phase_of, IsKnown, leave_write, Given, LockerKind, Parking, HasFree, IsWriteOpen}
use Rattle.phase_moves.proofs.Words.{open_reads, Hands, Downgrades, Left, ReadTicket, WriteTicket, Sought as SeqWant, SeqSection, Finished, run_sought as initializes, reached}
use Rattle.phase_moves.proofs.Words.{Finishes, GoesOn, FinishedStands, IsRunning, reads_finished, CellPlan, Kind, Want, cell_at, Content, Ran, content_of_run, reader, Section}
use Rattle.phase_moves.proofs.Words.{is_turn, runs_in, without_innermost, writes_cell, count, wait_of, listed_hand, listed_share, CellRow, OpenRun, PartyRow, Rows, Standing}
use Rattle.phase_moves.proofs.Words.{run_in, reads_in, writes_in, runner_of, run_closed, guarded, seen_by, writer_of, Seen, draft_of, seen_at, IsCell, IsLocked, Stands}
use Rattle.phase_moves.proofs.Words.{run_as, section_of, stays_in, target_of, IsEnding, EndsAs, GoesAs, write_has_no_reader, MayGive, MayGiveDown}
use Rattle.phase_moves.proofs.Innermost.{in_cells, cell_here, runs_here, o_is, its_row, write_open, seen_closed, seen_without, closed_moved, without_moved, without_it}
use Rattle.phase_moves.proofs.Innermost.{cell_ended, counted_ended, no_writers, parties_ended}
use Rattle.phase_moves.proofs.{Known.change_known, Known.stays_known, Leaving.parked_few, Leaving.parked_fewer, Lockers.locked_write, Lockers.locked_down}
use Rattle.phase_moves.proofs.{Lockers.hands_writers, Lockers.downgrades_writers, Drafts.keeps_first, Drafts.keeps_none, Guards.target_given, Opening.guard_opened}
use Rattle.phase_moves.proofs.{Opening.seen_reader, Giving.gives_closed, Giving.gives_down, Moved.HasParties, Moved.exit_kept, Moved.moved}

-- ---- what the end of a run answers

abbrev pub EndedAs : SeqSection → Bool → Holders → Parking → Finished → Given → Holders → Parking → Type 0
EndedAs o made h s (Finished.Phase q) g h' s' = (made ≡ true) × (o.want ≡ SeqWant.Init) × (q ≡ reached o.stays true) × Hands o.who.cell (leave_write (reached o.stays true) h) s g h' s'
EndedAs o made h s (Finished.Read t q) g h' s' = (made ≡ true) × (o.want ≡ SeqWant.Read) × (q ≡ reached o.stays true) × Downgrades o.who.cell (reached o.stays true) h s g h' s'
EndedAs o made h s (Finished.Write t q) g h' s' = (made ≡ true) × (o.want ≡ SeqWant.Write) × (q ≡ reached o.stays true) × (h' ≡ h) × (s' ≡ s) × (g ≡ Given.Nobody)
EndedAs o made h s (Finished.Failed q) g h' s' = (made ≡ false) × (q ≡ reached o.stays false) × Hands o.who.cell (leave_write (reached o.stays false) h) s g h' s'

module _ (o : SeqSection) (h : Holders) (s : Parking) (r : Finished × Given) (h' : Holders) (s' : Parking) where
  goes : (w : SeqWant) → o.want ≡ w → GoesOn w o.who.cell (reached o.stays true) h s r h' s' → EndedAs o true h s r.0 r.1 h' s'
  goes w e k = grind arith

  pub ended_as : (made : Bool) → Finishes o made h s r h' s' → EndedAs o made h s r.0 r.1 h' s'
  ended_as made k = grind arith

-- a value was made or not
abbrev pub IsMadeAs : Option ℕ → Bool → Type 0
IsMadeAs None b = b ≡ false
IsMadeAs (Some v) b = b ≡ true

-- as the code asks
pub is_made : (o : Option ℕ) (b : Bool) → b ≡ is_some o → IsMadeAs o b
is_made o b e = grind arith

-- the phase that is reached is the one that the changes give
reached_as : (x : CellPlan) (w : Want) (is_open : Bool) (y : Content) (made : Option ℕ) (b : Bool) → is_turn w ≡ false → IsMadeAs made b → reached (stays_in x w is_open y.phase) b ≡ phase_of (content_of_run x.kind is_open made y).phase
reached_as x w is_open y made b e m = grind arith

pub asked_run : (q : Kind) (w : Want) → is_turn w ≡ false → initializes (run_as q w) ≡ true
asked_run q w e = grind arith

module _ {L : Type 0} (held : L → Holders) (place : L → LockerKind) (m : Standing) (v : Rows L) (p c : ℕ) (made : Option ℕ) (s : Section) (is : IsEnding held place m v p c made s) (row : CellRow L) (row_is : row ≡ get_or v.cells.items c row) where
  abbrev n : ℕ
  n = length v.guards.items

  abbrev its : SeqSection
  its = section_of (cell_at m.plans c) c (m.content c).phase s

  here : IsCell held place (seen_at c m) v.parks c row
  here = cell_here held place m v p c s is.inner row row_is

  -- what the sequentializer requires
  module _ (o : OpenRun) (taken : row.run ≡ Some o) where
    same : o ≡ its_row held place m v p c s is.inner row row_is
    same = o_is held place m v p c s is.inner row row_is o taken

    pub end_running : IsRunning o.section row.seq.running (held row.seq.locker) v.parks
    end_running =
        subst (λ (x : OpenRun). IsRunning x.section row.seq.running (held row.seq.locker) v.parks) (sym same)
        (record {
          party = here.runner ∙ ap runner_of (runs_here held place m v p c s is.inner row row_is) ∙ (let t = is.calls in rw t refl);
          asked = asked_run (cell_at m.plans c).kind s.want is.calls;
          known = stays_known (cell_at m.plans c) s.want s.is_open (m.content c).phase here.known;
          locked = write_open held place m v p c s is.inner row row_is;
        })

    pub end_room : (b : Bool) → IsMadeAs made b → b ≡ true → HasFree v.parks
    end_room b is_as so = grind arith

  -- ---- the move

  module _ (v' : Rows L) (row' : CellRow L) (of of' : PartyRow) (of_is : of ≡ get_or v.parties.items p of) (o : OpenRun) (taken : row.run ≡ Some o) (cells : v'.cells.items ≡ set v.cells.items c row') (guards : v'.guards ≡ v.guards) (exit : v'.exit ≡ v.exit) (parties : v'.parties.items ≡ set v.parties.items p of')
      (of'_is : of' ≡ record { waiting = of.waiting; innermost = o.run.outer }) (plan : row'.plan ≡ row.plan) (calm : row'.waiting ≡ row.waiting) (run : row'.run ≡ None) (running : row'.seq.running ≡ None) (b : Bool) (made_is : IsMadeAs made b) (r : Finished × Given)
      (finishes : Finishes o.section b (held row.seq.locker) v.parks r (held row'.seq.locker) v'.parks) (stands : FinishedStands o.section.who.cell r.0 (held row'.seq.locker) v'.parks) (reads : open_reads (held row'.seq.locker) v'.parks o.section.who.cell ≡ reads_finished r.0) (k : Left held place o.section.who.cell row.seq.locker row'.seq.locker v.parks v'.parks) where
    abbrev made_as : Content
    made_as = content_of_run (cell_at m.plans c).kind s.is_open made (m.content c)

    left_here : Left held place c row.seq.locker row'.seq.locker v.parks v'.parks
    left_here = subst (λ (x : OpenRun). Left held place x.section.who.cell row.seq.locker row'.seq.locker v.parks v'.parks) (same o taken) k

    reads_here : (f : Finished) → r.0 ≡ f → open_reads (held row'.seq.locker) v'.parks c ≡ reads_finished f
    reads_here f e = subst (λ (x : OpenRun). open_reads (held row'.seq.locker) v'.parks x.section.who.cell ≡ reads_finished r.0) (same o taken) reads ∙ ap reads_finished e

    stands_here : (f : Finished) → r.0 ≡ f → FinishedStands c f (held row'.seq.locker) v'.parks
    stands_here f e = subst (λ x. FinishedStands c x (held row'.seq.locker) v'.parks) e (subst (λ (x : OpenRun). FinishedStands x.section.who.cell r.0 (held row'.seq.locker) v'.parks) (same o taken) stands)

    how : (f : Finished) → r.0 ≡ f → EndedAs its b (held row.seq.locker) v.parks f r.1 (held row'.seq.locker) v'.parks
    how f e = subst (λ x. EndedAs its b (held row.seq.locker) v.parks x r.1 (held row'.seq.locker) v'.parks) e (ended_as its (held row.seq.locker) v.parks r (held row'.seq.locker) v'.parks b (subst (λ (x : OpenRun). Finishes x.section b (held row.seq.locker) v.parks r (held row'.seq.locker) v'.parks) (same o taken) finishes))

    phase_is : (d : Bool) → b ≡ d → reached its.stays d ≡ phase_of made_as.phase
    phase_is d e = reached_as (cell_at m.plans c) s.want s.is_open (m.content c) made d is.calls (subst (IsMadeAs made) e made_is)

    made_value : b ≡ true → made ≡ made_as.value
    made_value e = grind arith

    kept_value : b ≡ false → (m.content c).value ≡ made_as.value
    kept_value e = grind arith

    known_made : IsKnown (phase_of made_as.phase)
    known_made = change_known (cell_at m.plans c) (Ran s.is_open made) (m.content c) here.known

    cell_now : (y : Content) (a z : ℕ) → row'.value ≡ y.value → IsKnown (phase_of y.phase) → IsLocked (place row'.seq.locker) (held row'.seq.locker) v'.parks c a z y.phase → IsCell held place (record { plan = cell_at m.plans c; content = y; reads = a; writes = z; run = None }) v'.parks c row'
    cell_now y a z = cell_ended held place m v p c s is.inner row row_is v' row' y a z plan run running left_here.place

    parties_now : (m' : Standing) → m'.sections ≡ without_innermost s.party m.sections → ((q : ℕ) → target_of (wait_of q m'.waits) ≡ target_of (wait_of q m.waits)) → HasParties held place m' v v'
    parties_now = parties_ended held place m v p c s is.inner row row_is v' of of' of_is parties o taken of'_is

    told_as : (q : Phase) → q ≡ phase_of made_as.phase → q ≡ phase_of (content_of_run (cell_at m.plans s.cell).kind s.is_open made (m.content s.cell)).phase
    told_as q e = e ∙ (λ i. phase_of (content_of_run (cell_at m.plans (sym is.inner.at i)).kind s.is_open made (m.content (sym is.inner.at i))).phase)

    abbrev ok : Stands held place n m v
    ok = is.inner.rests.stands

    inside : c < length v.cells.items
    inside = in_cells held place m v p c s is.inner row row_is

    unwritten : count (writes_cell c) m.guards ≡ 0
    unwritten = no_writers held place m v p c s is.inner row row_is

    -- what is seen of the cell then, where nothing was given yet
    seen_gone : seen_at c (run_closed s made Given.Nobody m) ≡ record { plan = cell_at m.plans c; content = made_as; reads = 0; writes = 0; run = None }
    seen_gone = seen_closed held place m v p c s is.inner row row_is (Ran s.is_open made ∷ []) Given.Nobody

    -- as what the section runs, by its own cell
    runs_as : (w : SeqWant) → its.want ≡ w → run_as (cell_at m.plans s.cell).kind s.want ≡ w
    runs_as w e = ap (λ d. run_as (cell_at m.plans d).kind s.want) is.inner.at ∙ e

    -- the phase that is told
    abbrev told_of : Option ℕ → Phase
    told_of x = phase_of (content_of_run (cell_at m.plans s.cell).kind s.is_open x (m.content s.cell)).phase

    -- its lock is given back
    module _ (d : Bool) (d_is : b ≡ d) (hands : Hands c (leave_write (reached its.stays d) (held row.seq.locker)) v.parks r.1 (held row'.seq.locker) v'.parks) (unread : open_reads (held row'.seq.locker) v'.parks c ≡ 0) (closed : IsWriteOpen (held row'.seq.locker) v'.parks c → ⊥) where
      back_stands : row'.value ≡ made_as.value → Stands held place n (run_closed s made r.1 m) v'
      back_stands value =
          moved held place c n n m (run_closed s made r.1 m) v v' row' ok inside cells
          (subst (λ (z : Seen). IsCell held place z v'.parks c row') (sym (seen_closed held place m v p c s is.inner row row_is (Ran s.is_open made ∷ []) r.1))
          (cell_now made_as 0 0 value known_made (locked_write (place row.seq.locker) (place row'.seq.locker) (held row.seq.locker) (held row'.seq.locker) v.parks v'.parks c made_as.phase (reached its.stays d) r.1 hands unread closed left_here.fits (phase_is d d_is) here.locked.limit (parked_few held place n m v ok c inside))))
          (counted_ended held place m v p c s is.inner row row_is row' r.1 calm)
          (keeps_none c (run_closed s made r.1 m) row' unwritten)
          (closed_moved held place m v p c s is.inner row row_is (Ran s.is_open made ∷ []) r.1 m.turns v' left_here guards (exit_kept (length v.cells.items) m m v.exit v'.exit exit refl refl refl ok.exit) (hands_writers c _ v.parks r.1 _ v'.parks hands) (listed_hand c _ v.parks r.1 hands.may) hands.rows)
          (parties_now (run_closed s made r.1 m) refl (λ x. target_given s.cell r.1 m.waits x))

      back_gives : MayGive s.cell (run_closed s made Given.Nobody m) r.1
      back_gives =
          subst (λ z. MayGive z (run_closed s made Given.Nobody m) r.1) (sym is.inner.at)
          (gives_closed held place m v p c s is.inner row row_is (run_closed s made Given.Nobody m) refl refl (ap (λ (z : Seen). z.reads) seen_gone) (ap (λ (z : Seen). z.writes) seen_gone) (reached its.stays d) r.1 _ v'.parks hands)

    -- it failed
    pub ends_failed : (q : Phase) → r.0 ≡ Finished.Failed q → row'.value ≡ row.value → EndsAs held place m v s made (Some (Finished.Failed q, r.1)) v'
    ends_failed q e value =
        let d = how (Finished.Failed q) e in
        record {
          stands = back_stands false d.0 d.2 (reads_here (Finished.Failed q) e) (stands_here (Finished.Failed q) e).0 (value ∙ here.valued ∙ kept_value d.0);
          told = failing made (subst (IsMadeAs made) d.0 made_is) (told_as q (d.1 ∙ phase_is false d.0));
          gave = back_gives false d.0 d.2 (reads_here (Finished.Failed q) e) (stands_here (Finished.Failed q) e).0;
        } where
          failing : (x : Option ℕ) → IsMadeAs x false → q ≡ told_of x → GoesAs (run_as (cell_at m.plans s.cell).kind s.want) x (told_of x) (Finished.Failed q) r.1
          failing x z f = grind arith

    -- its call has what it wants
    pub ends_phase : (q : Phase) → r.0 ≡ Finished.Phase q → row'.value ≡ made → EndsAs held place m v s made (Some (Finished.Phase q, r.1)) v'
    ends_phase q e value =
        let d = how (Finished.Phase q) e in
        record {
          stands = back_stands true d.0 d.3 (reads_here (Finished.Phase q) e) (stands_here (Finished.Phase q) e).0 (value ∙ made_value d.0);
          told = going made (subst (IsMadeAs made) d.0 made_is) (runs_as SeqWant.Init d.1, told_as q (d.2 ∙ phase_is true d.0));
          gave = back_gives true d.0 d.3 (reads_here (Finished.Phase q) e) (stands_here (Finished.Phase q) e).0;
        } where
          going : (x : Option ℕ) → IsMadeAs x true → (run_as (cell_at m.plans s.cell).kind s.want ≡ SeqWant.Init) × (q ≡ told_of x) → GoesAs (run_as (cell_at m.plans s.cell).kind s.want) x (told_of x) (Finished.Phase q) r.1
          going x z f = grind arith

    -- its call reads on
    pub ends_read : (l : ReadTicket) (q : Phase) → r.0 ≡ Finished.Read l q → row'.value ≡ made → EndsAs held place m v s made (Some (Finished.Read l q, r.1)) v'
    ends_read l q e value =
        let d = how (Finished.Read l q) e in
        record {
          stands = moved held place c n n m (guarded (reader n s.party s.cell) (run_closed s made r.1 m)) v v' row' ok inside cells
              (subst (λ (z : Seen). IsCell held place z v'.parks c row') (sym seen)
              (cell_now made_as 1 0 (value ∙ made_value d.0) known_made (locked_down (place row'.seq.locker) (held row.seq.locker) (held row'.seq.locker) v.parks v'.parks c made_as.phase (reached its.stays true) r.1 d.3 (reads_here (Finished.Read l q) e) (stands_here (Finished.Read l q) e).0 left_here.fits (phase_is true d.0) (write_has_no_reader (place row.seq.locker) (held row.seq.locker) v.parks c here.locked.fits (write_open held place m v p c s is.inner row row_is)) (parked_fewer held place n m v ok c inside (end_room o taken b made_is d.0)))))
              (counted_ended held place m v p c s is.inner row row_is row' r.1 calm)
              (keeps_none c (guarded (reader n s.party s.cell) (run_closed s made r.1 m)) row' unwritten)
              (guard_opened held place c n n n m (run_closed s made r.1 m) v v' (reader n s.party s.cell)
              (closed_moved held place m v p c s is.inner row row_is (Ran s.is_open made ∷ []) r.1 m.turns v' left_here guards (exit_kept (length v.cells.items) m m v.exit v'.exit exit refl refl refl ok.exit) (downgrades_writers c _ (held row.seq.locker) v.parks r.1 (held row'.seq.locker) v'.parks d.3) (listed_share c v.parks r.1 d.3.may) d.3.rows)
              refl is.inner.at (omega arith) is.inner.rests.empty is.inner.rests.empty inside)
              (parties_now (guarded (reader n s.party s.cell) (run_closed s made r.1 m)) refl (λ x. target_given s.cell r.1 m.waits x));
          told = going made (subst (IsMadeAs made) d.0 made_is) (runs_as SeqWant.Read d.1, told_as q (d.2 ∙ phase_is true d.0));
          gave = subst (λ z. MayGiveDown z m r.1) (sym is.inner.at) (gives_down held place m v p c s is.inner row row_is (reached its.stays true) r.1 _ v'.parks d.3);
        } where
          seen : seen_at c (guarded (reader n s.party s.cell) (run_closed s made r.1 m)) ≡ record { plan = cell_at m.plans c; content = made_as; reads = 1; writes = 0; run = None }
          seen =
              ap (λ x. seen_at c (guarded (reader n s.party x) (run_closed s made r.1 m))) is.inner.at
              ∙ seen_reader n s.party c (run_closed s made r.1 m)
              ∙ ap (λ (w : Seen). record { plan = w.plan; content = w.content; reads = w.reads + 1; writes = w.writes; run = w.run }) (seen_closed held place m v p c s is.inner row row_is (Ran s.is_open made ∷ []) r.1)

          going : (x : Option ℕ) → IsMadeAs x true → (run_as (cell_at m.plans s.cell).kind s.want ≡ SeqWant.Read) × (q ≡ told_of x) → GoesAs (run_as (cell_at m.plans s.cell).kind s.want) x (told_of x) (Finished.Read l q) r.1
          going x z f = grind arith

    -- its call writes on
    pub ends_write : (l : WriteTicket) (q : Phase) → r.0 ≡ Finished.Write l q → row'.value ≡ row.value → row'.draft ≡ record { phase = q; value = made } → EndsAs held place m v s made (Some (Finished.Write l q, r.1)) v'
    ends_write l q e value draft =
        let d = how (Finished.Write l q) e in
        record {
          stands = moved held place c n n m (guarded (writer_of n s made) gone) v v' row' ok inside cells
              (grind (arith, seen, cell_now, here, left_here, phase_is, reads_here, stands_here))
              (counted_ended held place m v p c s is.inner row row_is row' Given.Nobody calm)
              (keeps_first c gone row' (writer_of n s made) unwritten (draft ∙ drafted (told_as q (d.2 ∙ phase_is true d.0)) (subst (IsMadeAs made) d.0 made_is)))
              (guard_opened held place c n n n m gone v v' (writer_of n s made) (without_moved held place m v p c s is.inner row row_is v' left_here guards exit d.4) refl is.inner.at (omega arith) is.inner.rests.empty is.inner.rests.empty inside)
              (parties_now (guarded (writer_of n s made) gone) refl (λ x. refl));
          told = going made (subst (IsMadeAs made) d.0 made_is) (runs_as SeqWant.Write d.1, told_as q (d.2 ∙ phase_is true d.0), d.5);
          gave = d.5;
        } where
          gone : Standing
          gone = without_it held place m v p c s is.inner row row_is

          seen : seen_at c (guarded (writer_of n s made) gone) ≡ record { plan = cell_at m.plans c; content = m.content c; reads = 0; writes = 1; run = None }
          seen =
              let e : (s.cell == c) ≡ true = (let q = is.inner.at in grind (arith, q)) in
              let more : count (writes_cell c) m.guards + 1 + count (runs_in c) (without_innermost s.party m.sections) ≡ writes_in c gone + 1 = omega arith in
              rw e ((λ i. record { plan = cell_at m.plans c; content = m.content c; reads = reads_in c m; writes = more i; run = run_in c (without_innermost s.party m.sections) }) ∙ ap (λ (w : Seen). record { plan = w.plan; content = w.content; reads = w.reads; writes = w.writes + 1; run = w.run }) (seen_without held place m v p c s is.inner row row_is))

          -- its holder sees what was made
          drafted : q ≡ told_of made → IsMadeAs made true → record { phase = q; value = made } ≡ draft_of (seen_by gone (writer_of n s made))
          drafted f = grind arith

          going : (x : Option ℕ) → IsMadeAs x true → (run_as (cell_at m.plans s.cell).kind s.want ≡ SeqWant.Write) × (q ≡ told_of x) × (r.1 ≡ Given.Nobody) → GoesAs (run_as (cell_at m.plans s.cell).kind s.want) x (told_of x) (Finished.Write l q) r.1
          going x z f = grind arith
