-- Sections end: by the outcome of a generator, and of a finalizer.
use Rattle.phase_acts.proofs.Words.{◌&&◌, ◌==◌, ◌∙◌, ◌∷◌, ◌≡◌, Act, Answer, answer_back, answer_made, answer_of_made, ap, arith, Bool, Call, Calls, cell_at, cell_concerned}
use Rattle.phase_acts.proofs.Words.{cell_of_section, CellPlan, due_answer, due_finished, due_made, ended, ended_turns, Ends, ends_run, ends_turn, EndsAs, Event, event, false}
use Rattle.phase_acts.proofs.Words.{final_ended, finalized, Finalizes, FinalizesAs, finishes_so, finishing, Form, form_of, found_passes, Given, GivesWrite, guarded, HasStepped}
use Rattle.phase_acts.proofs.Words.{Holders, innermost, is_turn, IsAwake, IsEnded, IsEnding, IsFinalized, IsFinalizing, IsWriter, KeptGuards, KeptWith, Kind, LeavesWrite, length}
use Rattle.phase_acts.proofs.Words.{Line, List, LockerKind, made_failed, made_read, made_shown, made_told, made_write, MayEnd, MayFinalize, MayGive, MayLeaveWrite, no_outcome}
use Rattle.phase_acts.proofs.Words.{None, not, Option, other_waits, outcome, Phase, phase_made, phase_of, Pushes, reader, ReadTicket, refl, refusal, refusal_free, room-running}
use Rattle.phase_acts.proofs.Words.{Rows, run_closed, Running, running_of, RunsBy, Section, sections, Some, Standing, standing, Stands, step_of, subst, sym, takes_none, true}
use Rattle.phase_acts.proofs.Words.{Turns, unwrap_or, Wait, waits, without_innermost, writer_left, writer_of, WriteTicket, ℕ}
use Rattle.phase_locker.specs.declared.ways.Given.TheVariants as given
use Rattle.phase_seq.specs.declared.ask.Want.{Want as SeqWant}
use Rattle.phase_seq.specs.declared.ask.Want.TheVariants as sought
use Rattle.phase_seq.specs.declared.section.Finished.{Finished}
use Rattle.phase_seq.specs.declared.section.Finished.TheVariants as finished
use Rattle.schedule_rules.specs.declared.line.Answer.TheVariants as answer
use Rattle.schedule_rules.specs.declared.line.Refusal.TheVariants as refused
use Rattle.schedule_rules.specs.declared.step.Act.TheVariants as act
use Rattle.schedule_rules.specs.declared.form.Form.TheVariants.{Told, Shown, Held}
use Rattle.phase_moves.specs.declared.rows.GuardRow.TheVariants as guard
use Rattle.phase_moves.specs.Stands.{run_as as sought_as}
use Rattle.phase_acts.proofs.Formed.{back_made, fits, form_fits, read_made, write_made}
use Rattle.phase_acts.proofs.Lines.{refusal_awake, gave_down}
use Rattle.phase_acts.proofs.Stepping.{ended_giving, ended_so, guards_with, opened_found, pushed_reader, pushed_writer, same_guards}

-- ---- the innermost section of a party, by what is told of it

-- this section is there, and this tells it
pub record Tells (m : Standing) (o : Option Section) (t : Running) : Type 0 where
  pub s : Section
  pub is : o ≡ Some s
  pub at : s.cell ≡ t.cell
  pub kind : (cell_at m.plans s.cell).kind ≡ t.kind
  pub wants : s.want ≡ t.want

tells : (m : Standing) (o : Option Section) (t : Running) → Some t ≡ running_of m o → Tells m o t
tells m o t e = grind (arith, e)

none_runs : (m : Standing) (o : Option Section) → None ≡ running_of m o → o ≡ None
none_runs m o e = grind (arith, e)

-- what a party that does not wait is refused by its innermost section
module _ {L : Type 0} {held : L → Holders} {place : L → LockerKind} {cells : List CellPlan} {h : List Event} {old : Rows L} {p : ℕ} {a : Act} (is : IsAwake held place cells h old p a) (r : Option Running) (told : RunsBy held place old p r) where
  runs : (t : Running) → r ≡ Some t → Tells (standing cells h) (innermost p (sections h)) t
  runs t e = tells (standing cells h) (innermost p (sections h)) t (sym e ∙ told (standing cells h) is.next.follows.rests is.next.known.party)

  module _ (ends : Option Section → Option Bool) (why : refusal_free cells h p a ≡ no_outcome (ends (innermost p (sections h)))) where
    pub runs_none : r ≡ None → refusal cells h (step_of p a) ≡ no_outcome (ends None)
    runs_none e = refusal_awake cells h p is.awake a ∙ why ∙ ap (λ o. no_outcome (ends o)) (none_runs (standing cells h) (innermost p (sections h)) (sym e ∙ told (standing cells h) is.next.follows.rests is.next.known.party))

    runs_one : (t : Running) (e : r ≡ Some t) → refusal cells h (step_of p a) ≡ no_outcome (ends (Some (runs t e).s))
    runs_one t e = refusal_awake cells h p is.awake a ∙ why ∙ ap (λ o. no_outcome (ends o)) (runs t e).is

-- ---- a finalizer ends by its own outcome, which concerns the cell of its section

module _ (cells : List CellPlan) (h : List Event) (p : ℕ) (left : Option ℕ) where
  pub turn_refusal : (fine : Bool) → refusal_free cells h p (finishing fine left) ≡ no_outcome (ends_turn cells fine left (innermost p (sections h)))
  turn_refusal fine = grind (arith)

  turn_concerned : (fine : Bool) → cell_concerned cells h (step_of p (finishing fine left)) ≡ cell_of_section (innermost p (sections h))
  turn_concerned fine = grind (arith)

  turn_due : (ws : List Wait) (fine : Bool) → due_answer cells h (step_of p (finishing fine left)) ws false ≡ due_finished cells h fine (innermost p (sections h))
  turn_due ws fine = grind (arith)

module _ {L : Type 0} {held : L → Holders} {place : L → LockerKind} {cells : List CellPlan} {h : List Event} {old : Rows L} {p : ℕ} (fine : Bool) (left : Option ℕ) (is : IsAwake held place cells h old p (finishing fine left)) (r : Option Running) (told : RunsBy held place old p r) (t : Running) (e : r ≡ Some t) where
  abbrev f : Tells (standing cells h) (innermost p (sections h)) t
  f = runs is r told t e

  refused_as : refusal cells h (step_of p (finishing fine left)) ≡ no_outcome (Some (is_turn t.want && finishes_so t.kind fine left))
  refused_as = runs_one is r told (ends_turn cells fine left) (turn_refusal cells h p left fine) t e ∙ (λ i. no_outcome (Some (is_turn (f.wants i) && finishes_so (f.kind i) fine left)))

  pub finish_no_outcome : (k : Call) → t.want ≡ Calls k → refusal cells h (step_of p (finishing fine left)) ≡ Some refused.NoOutcome
  finish_no_outcome k w = refused_as ∙ ap (λ u. no_outcome (Some (is_turn u && finishes_so t.kind fine left))) w

  module _ (w : t.want ≡ Turns) where
    -- whether it may end so, by what is read off the rows
    pub ends_so : (b : Bool) → b ≡ finishes_so t.kind fine left → (c : Bool) → b ≡ c → refusal cells h (step_of p (finishing fine left)) ≡ no_outcome (Some c)
    ends_so b so c is_so = refused_as ∙ (λ i. no_outcome (Some (is_turn (w i) && (sym so ∙ is_so) i)))

    finalizing : IsFinalizing held place (standing cells h) old p t.cell f.s
    finalizing = record { inner = record { rests = is.next.follows.rests; party = is.next.known.party; found = f.is; at = f.at }; turn = ap is_turn (f.wants ∙ w) }

    pub may_finalize : MayFinalize held place old p t.cell
    may_finalize =
        let few = room-running cells h is.next.follows.legal p f.s f.is (ap is_turn (f.wants ∙ w)) in
        let room = is.next.follows.turns in
        let are : length old.exit.turns.items ≡ length (ended_turns h) = ap (λ ts. length ts) is.next.follows.rests.stands.exit.turns_are in
        record { m = standing cells h; s = f.s; is = finalizing; room = omega (arith, few, room, are) }

    module _ (mid : Rows L) (o : Option (Phase × Given)) (finalizes : Finalizes held place old p t.cell fine left o mid) where
      pub never_none_final : o ≡ None → ⊥
      never_none_final q = subst (λ x. FinalizesAs held place (standing cells h) old f.s fine left x mid) q (finalizes (standing cells h) f.s finalizing)

      pub finish_ends : (b : Bool) → b ≡ finishes_so t.kind fine left → b ≡ true → (x : Phase × Given) → o ≡ Some x → KeptGuards old mid → (new : Rows L) (line : Line) → line ≡ record { answer = answer.Phase x.0; given = x.1 } → Pushes held place mid guard.Free new → KeptWith 1 mid new
          → HasStepped held place cells h old (step_of p (finishing fine left)) line new
      finish_ends b so fit x q kept new line line_is push last =
          let k : IsFinalized held place (standing cells h) old f.s fine left x.0 x.1 mid = subst (λ z. FinalizesAs held place (standing cells h) old f.s fine left z mid) q (finalizes (standing cells h) f.s finalizing) in
          ended_giving is (ends_so b so true fit) (answer.Phase x.0) x.1 (turn_due cells h p left (other_waits cells h (step_of p (finishing fine left))) fine ∙ ap (due_finished cells h fine) f.is ∙ ap (λ z. answer.Phase z) (sym k.told)) line line_is (guards_with kept last)
          _ mid push (λ d. finalized f.s fine left d (standing cells h)) (λ d. final_ended cells h p is.awake f.s f.is fine left d x.0) k.stands is.next.follows.rests.empty f.s.cell (turn_concerned cells h p left fine ∙ ap cell_of_section f.is) k.gave refl

-- ---- so does a generator

pub run_refusal : (cells : List CellPlan) (h : List Event) (p : ℕ) (made : Option ℕ) → refusal_free cells h p (outcome made) ≡ no_outcome (ends_run (innermost p (sections h)))
run_refusal cells h p made = grind (arith)

-- the run of this call ended so
pub record HasRun {L : Type 0} (held : L → Holders) (place : L → LockerKind) (cells : List CellPlan) (h : List Event) (old mid : Rows L) (p : ℕ) (made : Option ℕ) (q : Kind) (k : Call) (c : ℕ) (x : Finished) (d : Given) : Type 0 where
  pub is : IsAwake held place cells h old p (outcome made)
  pub none : refusal cells h (step_of p (outcome made)) ≡ None
  pub s : Section
  pub found : innermost p (sections h) ≡ Some s
  pub at : s.cell ≡ c
  pub kind : (cell_at cells s.cell).kind ≡ q
  pub wants : s.want ≡ Calls k
  pub ended_as : IsEnded held place (standing cells h) old s made x d mid
  pub kept : KeptGuards old mid

module _ {L : Type 0} {held : L → Holders} {place : L → LockerKind} {cells : List CellPlan} {h : List Event} {old : Rows L} {p : ℕ} (made : Option ℕ) (is : IsAwake held place cells h old p (outcome made)) (r : Option Running) (told : RunsBy held place old p r) (t : Running) (e : r ≡ Some t) where
  abbrev its : Tells (standing cells h) (innermost p (sections h)) t
  its = runs is r told t e

  pub outcome_no_outcome : t.want ≡ Turns → refusal cells h (step_of p (outcome made)) ≡ Some refused.NoOutcome
  outcome_no_outcome w = runs_one is r told ends_run (run_refusal cells h p made) t e ∙ ap (λ u. no_outcome (Some (not (is_turn u)))) (its.wants ∙ w)

  module _ (k : Call) (w : t.want ≡ Calls k) where
    ending : IsEnding held place (standing cells h) old p t.cell made its.s
    ending = record { inner = record { rests = is.next.follows.rests; party = is.next.known.party; found = its.is; at = its.at }; calls = ap is_turn (its.wants ∙ w); awake = λ x q. is.awake }

    pub may_end : MayEnd held place old p t.cell made
    may_end = record { m = standing cells h; s = its.s; is = ending }

    module _ (mid : Rows L) (o : Option (Finished × Given)) (ends : Ends held place old p t.cell made o mid) where
      pub never_none_run : o ≡ None → ⊥
      never_none_run q = subst (λ x. EndsAs held place (standing cells h) old its.s made x mid) q (ends (standing cells h) its.s ending)

      pub has_run : KeptGuards old mid → (f : Finished) (d : Given) → o ≡ Some (f, d) → (x : Finished) → f ≡ x → HasRun held place cells h old mid p made t.kind k t.cell x d
      has_run kept f d q x f_is =
          record {
            is = is;
            none = runs_one is r told ends_run (run_refusal cells h p made) t e ∙ ap (λ u. no_outcome (Some (not (is_turn u)))) (its.wants ∙ w);
            s = its.s;
            found = its.is;
            at = its.at;
            kind = its.kind;
            wants = its.wants ∙ w;
            ended_as = subst (λ z. EndsAs held place (standing cells h) old its.s made z mid) (q ∙ ap (λ z. Some (z, d)) f_is) (ends (standing cells h) its.s ending);
            kept = kept;
          }

-- what stands open as a run goes on to write
abbrev carried : ℕ → ℕ → Section → Standing → Standing
carried n v s m = guarded (writer_of n s (Some v)) (record m { sections = without_innermost s.party m.sections })

module _ {L : Type 0} {held : L → Holders} {place : L → LockerKind} {cells : List CellPlan} {h : List Event} {old mid : Rows L} {p : ℕ} {q : Kind} {k : Call} {c : ℕ} {d : Given} where
  -- it failed
  pub run_fails : (made : Option ℕ) (x : Phase) → HasRun held place cells h old mid p made q k c (finished.Failed x) d → (new : Rows L) (line : Line) → line ≡ record { answer = answer.Failed; given = d } → Pushes held place mid guard.Free new → KeptWith 1 mid new → HasStepped held place cells h old (step_of p (outcome made)) line new
  run_fails (Some v) x r new line line_is push last = absurd r.ended_as.told
  run_fails None x r new line line_is push last =
      ended_giving r.is r.none answer.Failed d refl line line_is (guards_with r.kept last) (length old.guards.items) mid push (λ b. run_closed r.s None b (standing cells h)) (λ b. made_failed cells h p r.is.awake r.s r.found b x) r.ended_as.stands r.is.next.follows.rests.empty r.s.cell (ap cell_of_section r.found) r.ended_as.gave refl

  module _ {v : ℕ} {f : Finished} (r : HasRun held place cells h old mid p (Some v) q k c f d) where
    abbrev s : Section
    s = r.s

    party_of : s.party ≡ p
    party_of = let e = found_passes (λ (x : Section). x.party == p) (sections h) s r.found in grind (arith, e)

    due_is : due_answer cells h (step_of p (act.Made v)) (other_waits cells h (step_of p (act.Made v))) false ≡ answer_made (form_of q k) v (phase_made cells h s)
    due_is = ap (due_made cells h v) r.found ∙ (λ i. answer_of_made (r.kind i) (r.wants i) v (phase_made cells h s))

    -- the form fits as what the section ran
    fits_run : (x : SeqWant) → sought_as (cell_at cells s.cell).kind s.want ≡ x → fits x (form_of q k) ≡ true
    fits_run x e = ap (λ z. fits z (form_of q k)) (sym e ∙ (λ i. sought_as (r.kind i) (r.wants i))) ∙ form_fits q k

    -- its section is given back, and nothing is left open
    given_back : (mid' new : Rows L) → KeptWith 1 old new → (x : Phase) (g : Given) → takes_none (form_of q k) ≡ true → x ≡ phase_of (phase_made cells h s) → Stands held place (length old.guards.items) (run_closed s (Some v) g (standing cells h)) mid' → MayGive s.cell (run_closed s (Some v) given.Nobody (standing cells h)) g → (line : Line) → line ≡ record { answer = answer_back (form_of q k) v x; given = g } → Pushes held place mid' guard.Free new
        → HasStepped held place cells h old (step_of p (act.Made v)) line new
    given_back mid' new last x g unheld x_is stands gave line line_is push = by (form_of q k) unheld refl
      where
        back_by : (a : Answer) → ((b : Given) → standing cells (event p (act.Made v) (record { answer = a; given = b }) ∷ h) ≡ run_closed s (Some v) b (standing cells h)) → waits cells (event p (act.Made v) (record { answer = a; given = given.Nobody }) ∷ h) ≡ other_waits cells h (step_of p (act.Made v)) → answer_back (form_of q k) v x ≡ a
            → HasStepped held place cells h old (step_of p (act.Made v)) line new
        back_by a eq same e =
            ended_giving r.is r.none a g (due_is ∙ back_made (form_of q k) v (phase_made cells h s) x unheld x_is ∙ e) line (line_is ∙ ap (λ z. record { answer = z; given = g }) e) last (length old.guards.items) mid' push (λ b. run_closed s (Some v) b (standing cells h)) eq stands r.is.next.follows.rests.empty s.cell (ap cell_of_section r.found) gave same

        by : (y : Form) → takes_none y ≡ true → answer_back (form_of q k) v x ≡ answer_back y v x → HasStepped held place cells h old (step_of p (act.Made v)) line new
        by (Told tests) u e = back_by (answer.Phase x) (λ b. made_told cells h p r.is.awake s r.found v b x) refl e
        by Shown u e = back_by (answer.Value v) (λ b. made_shown cells h p r.is.awake s r.found v v b) refl e
        by (Held writes falls_back) u e = absurd (cc)

  -- it ends at once
  pub run_ends : (made : Option ℕ) (x : Phase) → HasRun held place cells h old mid p made q k c (finished.Phase x) d → (new : Rows L) (line : Line) → line ≡ record { answer = answer_back (form_of q k) (unwrap_or made 0) x; given = d } → Pushes held place mid guard.Free new → KeptWith 1 mid new → HasStepped held place cells h old (step_of p (outcome made)) line new
  run_ends None x r new line line_is push last = absurd r.ended_as.told
  run_ends (Some v) x r new line line_is push last = let e = r.ended_as in given_back r mid new (guards_with r.kept last) x d (fits_run r sought.Init e.told.0) e.told.1 e.stands e.gave line line_is push

  -- it reads on
  pub run_reads : (made : Option ℕ) (l : ReadTicket) (x : Phase) → HasRun held place cells h old mid p made q k c (finished.Read l x) d → (new : Rows L) (line : Line) → line ≡ record { answer = answer.ReadGuard; given = d } → (t : ReadTicket) → Pushes held place mid (guard.Read p c t) new → KeptWith 1 mid new → HasStepped held place cells h old (step_of p (outcome made)) line new
  run_reads None l x r new line line_is t push last = absurd r.ended_as.told
  run_reads (Some v) l x r new line line_is t push last =
      ended_so r.is r.none answer.ReadGuard d (due_is r ∙ read_made (form_of q k) v (phase_made cells h r.s) (fits_run r sought.Read r.ended_as.told.0)) line line_is (guards_with r.kept last) (guarded (reader (length old.guards.items) r.s.party r.s.cell) (run_closed r.s (Some v) d (standing cells h)))
      (made_read cells h p r.is.awake r.s r.found v d l x ∙ ap (λ i. ended i r.s (Some v) d (finished.Read l x) (standing cells h)) (sym r.is.next.follows.steps))
      (pushed_reader new (same_guards r.kept) (reader (length old.guards.items) r.s.party r.s.cell) p c (sym (party_of r)) (sym r.at) (run_closed r.s (Some v) d (standing cells h)) refl r.ended_as.stands refl t push)
      (gave_down cells h p r.is.awake (act.Made v) answer.ReadGuard r.s.cell (ap cell_of_section r.found) d r.ended_as.gave refl)

  -- it writes on
  pub run_writes : (made : Option ℕ) (l : WriteTicket) (x : Phase) → HasRun held place cells h old mid p made q k c (finished.Write l x) d → takes_none (form_of q k) ≡ false → (new : Rows L) (line : Line) → line ≡ record { answer = answer.WriteGuard; given = d } → (t : WriteTicket) → Pushes held place mid (guard.Write p c t) new → KeptWith 1 mid new → HasStepped held place cells h old (step_of p (outcome made)) line new
  run_writes None l x r holds new line line_is t push last = absurd r.ended_as.told
  run_writes (Some v) l x r holds new line line_is t push last =
      ended_so r.is r.none answer.WriteGuard given.Nobody (due_is r ∙ write_made (form_of q k) v (phase_made cells h r.s) (fits_run r sought.Write r.ended_as.told.0) holds) line (line_is ∙ ap (λ z. record { answer = answer.WriteGuard; given = z }) r.ended_as.gave) (guards_with r.kept last) (carried (length old.guards.items) v r.s (standing cells h))
      (made_write cells h p r.is.awake r.s r.found v l x ∙ ap (λ i. ended i r.s (Some v) given.Nobody (finished.Write l x) (standing cells h)) (sym r.is.next.follows.steps))
      (pushed_writer new (same_guards r.kept) (writer_of (length old.guards.items) r.s (Some v)) p c (sym (party_of r)) (sym r.at) (record (standing cells h) { sections = without_innermost r.s.party (sections h) }) refl r.ended_as.stands refl t push) refl

  -- or its lock is given back at once
  in_hand : {v : ℕ} {l : WriteTicket} {x : Phase} (r : HasRun held place cells h old mid p (Some v) q k c (finished.Write l x) d) → IsWriter held place (length old.guards.items) (carried (length old.guards.items) v r.s (standing cells h)) mid (writer_of (length old.guards.items) r.s (Some v)) c
  in_hand {v = v} r = record { stands = r.ended_as.stands; found = opened_found (length old.guards.items) (writer_of (length old.guards.items) r.s (Some v)) (record (standing cells h) { sections = without_innermost r.s.party (sections h) }) refl; at = r.at; writes = refl }

  pub run_may_leave : (made : Option ℕ) (l : WriteTicket) (x : Phase) → HasRun held place cells h old mid p made q k c (finished.Write l x) d → MayLeaveWrite held place mid c
  run_may_leave None l x r = absurd r.ended_as.told
  run_may_leave (Some v) l x r = record { hand = length old.guards.items; m = carried (length old.guards.items) v r.s (standing cells h); x = writer_of (length old.guards.items) r.s (Some v); is = in_hand r }

  pub run_leaves : (made : Option ℕ) (l : WriteTicket) (x : Phase) → HasRun held place cells h old mid p made q k c (finished.Write l x) d → takes_none (form_of q k) ≡ true → (mid' : Rows L) (g : Given) → LeavesWrite held place mid c g mid' → GivesWrite held place mid c g → KeptGuards mid mid'
      → (new : Rows L) (line : Line) → line ≡ record { answer = answer_back (form_of q k) (unwrap_or made 0) x; given = g } → Pushes held place mid' guard.Free new → KeptWith 1 mid' new → HasStepped held place cells h old (step_of p (outcome made)) line new
  run_leaves None l x r unheld mid' g leaves gives between new line line_is push last = absurd r.ended_as.told
  run_leaves (Some v) l x r unheld mid' g leaves gives between new line line_is push last =
      given_back r mid' new (guards_with r.kept (guards_with between last)) x g unheld r.ended_as.told.1
      (subst (λ z. Stands held place (length old.guards.items) z mid') (writer_left (length old.guards.items) r.s (Some v) g l x (standing cells h)) (leaves (length old.guards.items) (carried (length old.guards.items) v r.s (standing cells h)) (writer_of (length old.guards.items) r.s (Some v)) (in_hand r)))
      (subst (λ z. MayGive r.s.cell z g) (writer_left (length old.guards.items) r.s (Some v) given.Nobody l x (standing cells h)) (gives (length old.guards.items) (carried (length old.guards.items) v r.s (standing cells h)) (writer_of (length old.guards.items) r.s (Some v)) (in_hand r))) line line_is push
