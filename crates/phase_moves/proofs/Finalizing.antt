-- A finalizer ends, and its turn with it.
use Rattle.phase_moves.proofs.Words.{arith, ◌≡◌, ◌∙◌, ℕ, [], ◌∷◌, ◌++◌, length, set, get_or, ap, sym, subst, refl, Bool, true, None, Some, Option, Phase, Holders, phase_of}
use Rattle.phase_moves.proofs.Words.{leave_write, Given, LockerKind, IsWriteOpen, open_reads, Hands, Left, finalizes, Kind, FinishesFinal, finalized_phase, IsFinalSection}
use Rattle.phase_moves.proofs.Words.{Want, cell_at, Content, Ended, content_after, phase_finalized, value_finalized, Section, is_turn, listed_hand, CellRow}
use Rattle.phase_moves.proofs.Words.{OpenRun, PartyRow, Rows, Standing, runner_of, finalized, turn_of, Seen, seen_at, IsCell, IsExit, run_as, IsFinalizing, FinalizesAs}
use Rattle.phase_moves.proofs.Words.{MayGive}
use Rattle.phase_moves.proofs.Innermost.{in_cells, cell_here, runs_here, o_is, its_row, write_open, seen_closed, closed_moved, cell_ended, counted_ended, no_writers}
use Rattle.phase_moves.proofs.Innermost.{parties_ended}
use Rattle.phase_moves.proofs.{Known.change_known, Leaving.parked_few, Lockers.locked_write, Lockers.hands_writers, Drafts.keeps_none, Guards.target_given}
use Rattle.phase_moves.proofs.{Giving.gives_closed, Moved.moved}

pub asked_final : (q : Kind) (w : Want) → is_turn w ≡ true → finalizes (run_as q w) ≡ true
asked_final q w e = grind (arith, e)

module _ {L : Type 0} (held : L → Holders) (place : L → LockerKind) (m : Standing) (v : Rows L) (p c : ℕ) (s : Section) (is : IsFinalizing held place m v p c s) (row : CellRow L) (row_is : row ≡ get_or v.cells.items c row) where
  abbrev n : ℕ
  n = length v.guards.items

  here : IsCell held place (seen_at c m) v.parks c row
  here = cell_here held place m v p c s is.inner row row_is

  -- what the sequentializer requires
  module _ (o : OpenRun) (taken : row.run ≡ Some o) where
    same : o ≡ its_row held place m v p c s is.inner row row_is
    same = o_is held place m v p c s is.inner row row_is o taken

    pub final_running : IsFinalSection o.section (held row.seq.locker) v.parks
    final_running =
        subst (λ (x : OpenRun). IsFinalSection x.section (held row.seq.locker) v.parks) (sym same)
        (record { asked = asked_final (cell_at m.plans c).kind s.want is.turn; locked = write_open held place m v p c s is.inner row row_is })

  -- the move
  module _ (v' : Rows L) (row' : CellRow L) (of of' : PartyRow) (of_is : of ≡ get_or v.parties.items p of) (o : OpenRun) (taken : row.run ≡ Some o) (cells : v'.cells.items ≡ set v.cells.items c row') (guards : v'.guards ≡ v.guards) (parties : v'.parties.items ≡ set v.parties.items p of')
      (of'_is : of' ≡ record { waiting = of.waiting; innermost = o.run.outer }) (plan : row'.plan ≡ row.plan) (calm : row'.waiting ≡ row.waiting) (left : Option ℕ) (value : row'.value ≡ value_finalized row.plan.kind left row.value) (run : row'.run ≡ None) (running : row'.seq.running ≡ row.seq.running) (fine : Bool) (r : Phase × Given)
      (registry : v'.exit.registry ≡ v.exit.registry) (owner : v'.exit.owner ≡ v.exit.owner) (turns : v'.exit.turns.items ≡ v.exit.turns.items ++ record { cell = c; turn = turn_of fine } ∷ [])
      (finishes : FinishesFinal o.section fine (held row.seq.locker) v.parks r (held row'.seq.locker) v'.parks) (closed : IsWriteOpen (held row'.seq.locker) v'.parks o.section.who.cell → ⊥) (reads : open_reads (held row'.seq.locker) v'.parks o.section.who.cell ≡ 0) (k : Left held place o.section.who.cell row.seq.locker row'.seq.locker v.parks v'.parks) where
    at_c : o.section.who.cell ≡ c
    at_c = ap (λ (x : OpenRun). x.section.who.cell) (same o taken)

    left_here : Left held place c row.seq.locker row'.seq.locker v.parks v'.parks
    left_here = subst (λ d. Left held place d row.seq.locker row'.seq.locker v.parks v'.parks) at_c k

    abbrev y : Content
    y = content_after (cell_at m.plans c) (Ended fine left) (m.content c)

    phase_is : finalized_phase (held row.seq.locker).phase fine ≡ phase_of y.phase
    phase_is = ap (λ (q : Phase). finalized_phase q fine) here.locked.phase_is

    exit_now : IsExit (length v.cells.items) (record m { turns = m.turns ++ record { cell = s.cell; turn = turn_of fine } ∷ [] }) v'.exit
    exit_now =
        let t = is.inner.rests.stands.exit in
        record {
          registry_is = registry ∙ t.registry_is;
          owner_is = owner ∙ t.owner_is;
          turns_are = turns ∙ (λ i. t.turns_are i ++ record { cell = sym is.inner.at i; turn = turn_of fine } ∷ []);
          cells_are = t.cells_are;
        }

    -- what is seen of the cell then, where nothing was given yet
    seen_gone : seen_at c (finalized s fine left Given.Nobody m) ≡ record { plan = cell_at m.plans c; content = y; reads = 0; writes = 0; run = None }
    seen_gone = seen_closed held place m v p c s is.inner row row_is (Ended fine left ∷ []) Given.Nobody

    pub finalizes_as : FinalizesAs held place m v s fine left (Some r) v'
    finalizes_as =
        let ok = is.inner.rests.stands in
        let hands = subst (λ d. Hands d (leave_write (finalized_phase (held row.seq.locker).phase fine) (held row.seq.locker)) v.parks r.1 (held row'.seq.locker) v'.parks) at_c finishes.hands in
        record {
          stands = moved held place c n n m (finalized s fine left r.1 m) v v' row' ok (in_cells held place m v p c s is.inner row row_is) cells
              (subst (λ (z : Seen). IsCell held place z v'.parks c row') (sym (seen_closed held place m v p c s is.inner row row_is (Ended fine left ∷ []) r.1))
              (cell_ended held place m v p c s is.inner row row_is v' row' y 0 0 plan run (running ∙ here.runner ∙ ap runner_of (runs_here held place m v p c s is.inner row row_is) ∙ (let t = is.turn in rw t refl)) left_here.place (value ∙ (λ i. value_finalized (here.planned i).kind left (here.valued i))) (change_known (cell_at m.plans c) (Ended fine left) (m.content c) here.known)
              (locked_write (place row.seq.locker) (place row'.seq.locker) (held row.seq.locker) (held row'.seq.locker) v.parks v'.parks c y.phase (finalized_phase (held row.seq.locker).phase fine) r.1 hands (subst (λ d. open_reads (held row'.seq.locker) v'.parks d ≡ 0) at_c reads) (subst (λ d. IsWriteOpen (held row'.seq.locker) v'.parks d → ⊥) at_c closed) left_here.fits phase_is here.locked.limit (parked_few held place n m v is.inner.rests.stands c (in_cells held place m v p c s is.inner row row_is)))))
              (counted_ended held place m v p c s is.inner row row_is row' r.1 calm)
              (keeps_none c (finalized s fine left r.1 m) row' (no_writers held place m v p c s is.inner row row_is))
              (closed_moved held place m v p c s is.inner row row_is (Ended fine left ∷ []) r.1 _ v' left_here guards exit_now (hands_writers c _ v.parks r.1 _ v'.parks hands) (listed_hand c _ v.parks r.1 hands.may) hands.rows)
              (parties_ended held place m v p c s is.inner row row_is v' of of' of_is parties o taken of'_is (finalized s fine left r.1 m) refl (λ x. target_given s.cell r.1 m.waits x));
          told = finishes.phase ∙ phase_is ∙ (λ i. phase_of (phase_finalized (m.content (sym is.inner.at i)).phase fine));
          gave = subst (λ z. MayGive z (finalized s fine left Given.Nobody m) r.1) (sym is.inner.at)
              (gives_closed held place m v p c s is.inner row row_is (finalized s fine left Given.Nobody m) refl refl (ap (λ (z : Seen). z.reads) seen_gone) (ap (λ (z : Seen). z.writes) seen_gone) (finalized_phase (held row.seq.locker).phase fine) r.1 _ v'.parks hands);
        }
