-- A write guard is given back, and its holder reads on.
use Rattle.phase_acts.proofs.Words.{◌∙◌, ◌≡◌, ◌≢◌, ap, arith, cell_of_guard, CellPlan, downgrade_read, downgraded, Downgrades, Event, false, free_party, Given, GivesDown, Guard}
use Rattle.phase_acts.proofs.Words.{guard_kept, GuardRow, guards, HasFree, HasStepped, Held, Holders, HoldsBy, IsAwake, its_number, KeptGuards, KeptWith, left, length, Line, List}
use Rattle.phase_acts.proofs.Words.{LockerKind, MayDowngrade, no_writer, None, numbered, Option, Pushes, ReadTicket, refl, Rows, Some, Standing, standing, Stands, step_of, sym}
use Rattle.phase_acts.proofs.Words.{Takes, true, without_guard, WriteTicket, ℕ}
use Rattle.schedule_rules.specs.declared.line.Answer.TheVariants as answer
use Rattle.schedule_rules.specs.declared.step.Act.TheVariants as act
use Rattle.phase_moves.specs.declared.rows.GuardRow.TheVariants as guard
use Rattle.phase_acts.proofs.Holding.{found_of, has, has_one}
use Rattle.phase_acts.proofs.Lines.{gave_down}
use Rattle.phase_acts.proofs.Releasing.{has_writer, has_reader, no_guard_of}
use Rattle.phase_acts.proofs.Stepping.{ended_so, guards_with, none_with, pushed_reader, same_guards}

module _ {L : Type 0} {held : L → Holders} {place : L → LockerKind} {old : Rows L} {p g : ℕ} {cells : List CellPlan} {h : List Event} (is : IsAwake held place cells h old p (act.Downgrade g)) (r : Option Held) (by : HoldsBy held place old p g r) (y : Held) (e : r ≡ Some y) (w : y.writes ≡ true) (mid : Rows L) (row : GuardRow) (takes : Takes held place old p g row mid) (kept : KeptWith 0 old mid) where
  abbrev m : Standing
  m = standing cells h

  -- its row is that of a write guard
  pub never_free : row ≡ guard.Free → ⊥
  never_free e' = let n : None ≡ Some _ = sym (no_guard_of takes is.next.follows.rests e') ∙ (has is g r by y e).is in cc

  pub never_reader : (q c : ℕ) (l : ReadTicket) → row ≡ guard.Read q c l → ⊥
  never_reader q c l e' =
      let f = has is g r by y e in
      let k = has_reader takes is.next.follows.rests q c l e' in
      let same : f.x ≡ k.0 = (let z : Some f.x ≡ Some k.0 = sym f.is ∙ k.1 in cc) in
      let n : true ≡ false = sym w ∙ f.writes ∙ ap (λ (x : Guard). x.writes) same ∙ k.2.reads in
      cc

  -- a party that does not wait has a free row
  has_free : Stands held place g m mid → HasFree mid.parks
  has_free t =
      let lt = is.next.known.party in
      let rows = t.sizes.rows in
      let parties = kept.kept.parties in
      free_party p m.waits mid.parks t.waits.shows is.awake (omega (arith, lt, rows, parties))

  module _ (q c : ℕ) (l : WriteTicket) (row_is : row ≡ guard.Write q c l) where
    pub may_downgrade : MayDowngrade held place mid c
    may_downgrade = let k = has_writer takes is.next.follows.rests q c l row_is in record { hand = g; m = m; x = k.0; is = k.2; room = has_free k.2.stands }

    pub read_on : (mid' new : Rows L) (d : Given) → Downgrades held place mid c d mid' → GivesDown held place mid c d → KeptGuards mid mid' → (t : ReadTicket) (line : Line) → line ≡ record { answer = answer.ReadGuard; given = d } → Pushes held place mid' (guard.Read p c t) new → KeptWith 1 mid' new → HasStepped held place cells h old (step_of p (act.Downgrade g)) line new
    read_on mid' new d downs gives between t line line_is push last =
        let k = has_writer takes is.next.follows.rests q c l row_is in
        let x = k.0 in
        let of = found_of g p (guards h) x k.1 in
        let n = length old.guards.items in
        let mid_n : length mid.guards.items ≡ n = (let a = kept.guards in omega (arith, a)) in
        let fresh : numbered n (guards h) ≡ None = is.next.follows.rests.empty in
        let number : x.number ≡ g = its_number g (guards h) x k.2.found in
        let apart : n ≢ x.number = λ z. (let q : Some x ≡ None = sym k.2.found ∙ ap (λ i. numbered i (guards h)) (sym (z ∙ number)) ∙ fresh in cc) in
        let none : numbered n (without_guard x.number (guards h)) ≡ None = guard_kept x.number n (guards h) apart ∙ fresh in
        let stands = downs g n m x k.2 (omega (arith, mid_n)) none in
        ended_so is (has_one is g r by no_writer refl y e true w) answer.ReadGuard d refl line line_is (none_with kept (guards_with between last)) (downgraded n x d m) (downgrade_read cells h p is.awake g x k.1 d ∙ ap (λ i. downgraded i x d m) (sym is.next.follows.steps))
        (pushed_reader new (same_guards between ∙ mid_n) _ p c (sym of.1) (sym k.2.at) (left x d m) refl stands refl t push)
        (gave_down cells h p is.awake (act.Downgrade g) answer.ReadGuard x.cell (ap cell_of_guard of.0) d (gives g m x k.2) refl)
