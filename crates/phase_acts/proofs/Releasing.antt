-- A guard is given back.
use Rattle.phase_acts.proofs.Words.{◌∙◌, ◌≡◌, ap, arith, cell_of_guard, CellPlan, Event, Given, GivesRead, GivesWrite, Guard, guard_of, guard_row, GuardRow, guards}
use Rattle.phase_acts.proofs.Words.{HasStepped, Holders, IsAwake, IsNext, IsReader, IsWriter, KeptGuards, KeptWith, LeavesRead, LeavesWrite, left, left_empty}
use Rattle.phase_acts.proofs.Words.{length, Line, List, LockerKind, MayGive, MayLeaveRead, MayLeaveWrite, no_guard, None, numbered, Option, Pushes, read_row, ReadTicket, refl}
use Rattle.phase_acts.proofs.Words.{refusal, release_left, Rests, Rows, Some, Standing, standing, Stands, step_of, subst, sym, TakenAs, Takes, write_row, writes_of}
use Rattle.phase_acts.proofs.Words.{WriteTicket, ℕ}
use Rattle.phase_locker.specs.declared.ways.Given.TheVariants as given
use Rattle.schedule_rules.specs.declared.line.Answer.TheVariants as answer
use Rattle.schedule_rules.specs.declared.line.Refusal.TheVariants as refused
use Rattle.schedule_rules.specs.declared.step.Act.TheVariants as act
use Rattle.phase_moves.specs.declared.rows.GuardRow.TheVariants as guard
use Rattle.phase_acts.proofs.Holding.{found_of}
use Rattle.phase_acts.proofs.Lines.{refusal_awake}
use Rattle.phase_acts.proofs.Stepping.{ended_giving, guards_with, none_with, still_next}

-- the row of no guard tells that there is none
free_none : (o : Option Guard) → guard.Free ≡ guard_row o → o ≡ None
free_none o e = grind (arith, e)

module _ {L : Type 0} {held : L → Holders} {place : L → LockerKind} {old mid : Rows L} {p g : ℕ} {row : GuardRow} (takes : Takes held place old p g row mid) {m : Standing} (r : Rests held place m old) where
  -- the party has no such guard: nothing was done
  pub no_guard_of : row ≡ guard.Free → guard_of g p m.guards ≡ None
  no_guard_of e = free_none (guard_of g p m.guards) (sym e ∙ (takes m r).row_is)

  free_rests : row ≡ guard.Free → KeptWith 0 old mid → Rests held place m mid
  free_rests e kept =
      let same : length mid.guards.items ≡ length old.guards.items = (let k = kept.guards in omega (arith, k)) in
      let t : Stands held place (length old.guards.items) m mid = subst (λ o. TakenAs held place old g o m mid) (no_guard_of e) (takes m r).taken in
      record { stands = subst (λ i. Stands held place i m mid) (sym same) t; empty = ap (λ i. numbered i m.guards) same ∙ r.empty }

  -- the party has a read guard by this number, and it is in hand
  pub has_reader : (q c : ℕ) (l : ReadTicket) → row ≡ guard.Read q c l → (x : Guard) × (guard_of g p m.guards ≡ Some x) × IsReader held place g m mid x c
  has_reader q c l e =
      let f = read_row q c l (guard_of g p m.guards) (sym e ∙ (takes m r).row_is) in
      let t : TakenAs held place old g (Some f.x) m mid = subst (λ o. TakenAs held place old g o m mid) f.is (takes m r).taken in
      (f.x, f.is, record { stands = t.0; found = t.1; at = f.at; reads = f.reads })

  pub may_leave_read : (q c : ℕ) (l : ReadTicket) → row ≡ guard.Read q c l → MayLeaveRead held place mid c
  may_leave_read q c l e = let f = has_reader q c l e in record { hand = g; m = m; x = f.0; is = f.2 }

  -- a write guard
  pub has_writer : (q c : ℕ) (l : WriteTicket) → row ≡ guard.Write q c l → (x : Guard) × (guard_of g p m.guards ≡ Some x) × IsWriter held place g m mid x c
  has_writer q c l e =
      let f = write_row q c l (guard_of g p m.guards) (sym e ∙ (takes m r).row_is) in
      let t : TakenAs held place old g (Some f.x) m mid = subst (λ o. TakenAs held place old g o m mid) f.is (takes m r).taken in
      (f.x, f.is, record { stands = t.0; found = t.1; at = f.at; writes = f.writes })

  pub may_leave_write : (q c : ℕ) (l : WriteTicket) → row ≡ guard.Write q c l → MayLeaveWrite held place mid c
  may_leave_write q c l e = let f = has_writer q c l e in record { hand = g; m = m; x = f.0; is = f.2 }

module _ {L : Type 0} {held : L → Holders} {place : L → LockerKind} {old mid : Rows L} {p g : ℕ} {row : GuardRow} (takes : Takes held place old p g row mid) (kept : KeptWith 0 old mid) {cells : List CellPlan} {h : List Event} (is : IsAwake held place cells h old p (act.Release g)) where
  -- there is no such guard
  pub release_refused : row ≡ guard.Free → refusal cells h (step_of p (act.Release g)) ≡ Some refused.NoGuard
  release_refused e = refusal_awake cells h p is.awake (act.Release g) ∙ ap (λ o. no_guard (writes_of o)) (no_guard_of takes is.next.follows.rests e)

  pub release_next : row ≡ guard.Free → IsNext held place cells h mid (step_of p (act.Release g))
  release_next e = still_next is.next kept (free_rests takes is.next.follows.rests e kept)

  -- it was given back
  module _ (mid' new : Rows L) (d : Given) (line : Line) (line_is : line ≡ record { answer = answer.Done; given = d }) (between : KeptGuards mid mid') (push : Pushes held place mid' guard.Free new) (last : KeptWith 1 mid' new) where
    released : (x : Guard) → guard_of g p (guards h) ≡ Some x → Stands held place g (left x d (standing cells h)) mid' → numbered g (left x d (standing cells h)).guards ≡ None → MayGive x.cell (left x given.Nobody (standing cells h)) d → HasStepped held place cells h old (step_of p (act.Release g)) line new
    released x mine stands empty gave =
        ended_giving is (refusal_awake cells h p is.awake (act.Release g) ∙ ap (λ o. no_guard (writes_of o)) mine) answer.Done d refl line line_is (none_with kept (guards_with between last)) g mid' push
        (λ b. left x b (standing cells h)) (release_left cells h p is.awake g x mine) stands empty x.cell (ap cell_of_guard (found_of g p (guards h) x mine).0) gave refl

    pub released_read : (q c : ℕ) (l : ReadTicket) → row ≡ guard.Read q c l → LeavesRead held place mid c d mid' → GivesRead held place mid c d → HasStepped held place cells h old (step_of p (act.Release g)) line new
    released_read q c l e leaves gives =
        let f = has_reader takes is.next.follows.rests q c l e in
        released f.0 f.1 (leaves g (standing cells h) f.0 f.2) (left_empty held place g (standing cells h) mid f.0 d f.2.stands f.2.found) (gives g (standing cells h) f.0 f.2)

    pub released_write : (q c : ℕ) (l : WriteTicket) → row ≡ guard.Write q c l → LeavesWrite held place mid c d mid' → GivesWrite held place mid c d → HasStepped held place cells h old (step_of p (act.Release g)) line new
    released_write q c l e leaves gives =
        let f = has_writer takes is.next.follows.rests q c l e in
        released f.0 f.1 (leaves g (standing cells h) f.0 f.2) (left_empty held place g (standing cells h) mid f.0 d f.2.stands f.2.found) (gives g (standing cells h) f.0 f.2)
