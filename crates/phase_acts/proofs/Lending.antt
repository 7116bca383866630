-- A value is lent: it is refused as a call is, and where the cell is in use.
use Rattle.phase_acts.proofs.Words.{◌<◌, ◌∙◌, ◌≡◌, ◌≢◌, accepts, answer_at, answer_lent, ap, Bool, cell_at, CellPlan, CellRow, Content, due_answer, Event, false, get_or}
use Rattle.phase_acts.proofs.Words.{HasStepped, Holders, if◌then◌else◌, is_accessible, is_of_other, IsAwake, IsTrue, KeptGuards, KeptWith, Kind, length, lent_at_once, Line, List}
use Rattle.phase_acts.proofs.Words.{LockerKind, names_known_cell, nat_lt, no_call, no_lending, None, numbered, open-accepts, Option, other_waits, pushed_free, Pushes, refl}
use Rattle.phase_acts.proofs.Words.{refusal, refusal_free, refusal_to_lend, refused_stays, registry, replay, Rests, Rows, Standing, standing, step_of, subst, sym, true, Wait, ℕ}
use Rattle.phase_locker.specs.declared.ways.Given.TheVariants as given
use Rattle.lazy_cells.specs.Kinds.{lends_value}
use Rattle.schedule_rules.specs.declared.form.Form.TheVariants.{Shown}
use Rattle.schedule_rules.specs.declared.line.Answer.TheVariants as answer
use Rattle.schedule_rules.specs.declared.line.Refusal.TheVariants as refused
use Rattle.schedule_rules.specs.declared.step.Act.TheVariants as act
use Rattle.phase_moves.specs.declared.lend.Lent.{Lent}
use Rattle.phase_moves.specs.declared.lend.Lent.TheVariants as lent
use Rattle.phase_moves.specs.declared.lend.Loan.{Loan}
use Rattle.phase_moves.specs.declared.rows.GuardRow.TheVariants as guard
use Rattle.phase_moves.specs.Lends.{IsLending, IsLent, Lends, MayLend, answer_due, answer_of, in_use, lending, lent_in, was_used}
use Rattle.phase_acts.proofs.Calling.{below, by_plan, planned}
use Rattle.phase_acts.proofs.Lines.{legal_refused, refusal_awake}
use Rattle.phase_acts.proofs.Stepping.{ended_so, guards_with, stepped}

-- the cell is one of the cells
names_cell : (n c : ℕ) (l : Loan) → IsTrue (names_known_cell n (lending c l)) → IsTrue (nat_lt c n)
names_cell n c l = by l.runs
  where
    by : (b : Bool) → IsTrue (names_known_cell n (if b then act.GetMut c l.made l.left else act.TryGetMut c l.left)) → IsTrue (nat_lt c n)
    by true k = k
    by false k = k

-- a value that is found as it is does not fail
never_failed : (q : Kind) (y : Content) → answer_lent q y ≢ answer.Failed
never_failed q y = by (is_accessible q y.phase)
  where
    by : (b : Bool) → answer_at Shown b y ≢ answer.Failed
    by true e = absurd (cc)
    by false e = absurd (cc)

module _ {L : Type 0} {held : L → Holders} {place : L → LockerKind} {cells : List CellPlan} {h : List Event} {old : Rows L} {p : ℕ} (c : ℕ) (l : Loan) (is : IsAwake held place cells h old p (lending c l)) where
  abbrev m : Standing
  m = standing cells h

  lend_inside : c < length old.cells.items
  lend_inside = below c (length old.cells.items) (names_cell (length old.cells.items) c l is.next.known.cell)

  module _ (row : CellRow L) (row_is : row ≡ get_or old.cells.items c row) where
    -- why it is refused, by what is read off the row
    pub lend_refusal : (a b : Bool) → is_of_other row.plan.place p ≡ a → lends_value row.plan.kind ≡ b → refusal cells h (step_of p (lending c l)) ≡ no_lending (no_call a b) (in_use c m)
    lend_refusal a b o e = refusal_awake cells h p is.awake (lending c l) ∙ by l.runs ∙ ap (λ x. no_lending x (in_use c m)) (by_plan is c row row_is lend_inside lends_value a b o e)
      where
        by : (b : Bool) → refusal_free cells h p (if b then act.GetMut c l.made l.left else act.TryGetMut c l.left) ≡ refusal_to_lend cells h p c
        by true = refl
        by false = refl

    module _ (mine : is_of_other row.plan.place p ≡ false) (has : lends_value row.plan.kind ≡ true) where
      is_lending : IsLending held place (length old.guards.items) m old c
      is_lending = record { stands = is.next.follows.rests.stands; inside = lend_inside; lends = ap (λ (x : CellPlan). lends_value x.kind) (sym (planned is c row row_is lend_inside)) ∙ has }

      pub may_lend : MayLend held place old c
      may_lend = record { hand = length old.guards.items; m = m; is = is_lending }

      module _ (mid new : Rows L) (r : Lent) (lends : Lends held place old c l r mid) (between : KeptGuards old mid) (push : Pushes held place mid guard.Free new) (last : KeptWith 1 mid new) where
        abbrev k : IsLent held place (length old.guards.items) m c l r mid
        k = lends (length old.guards.items) m is_lending

        refusal_used : (b : Bool) → was_used r ≡ b → refusal cells h (step_of p (lending c l)) ≡ no_lending None b
        refusal_used b q = lend_refusal false true mine has ∙ ap (no_lending None) (sym k.used ∙ q)

        rests : Rests held place (lent_in c l r m) new
        rests = pushed_free held place (length old.guards.items) (lent_in c l r m) mid new k.stands (empty r) push
          where
            empty : (z : Lent) → numbered (length old.guards.items) (lent_in c l z m).guards ≡ None
            empty lent.InUse = is.next.follows.rests.empty
            empty z = is.next.follows.rests.empty

        -- it is in use
        used_line : r ≡ lent.InUse → HasStepped held place cells h old (step_of p (lending c l)) (record { answer = answer.Refused refused.InUse; given = given.Nobody }) new
        used_line q =
            stepped is.next _ m (refused_stays cells h p (lending c l) refused.InUse given.Nobody) (subst (λ (z : Lent). Rests held place (lent_in c l z m) new) q rests) (guards_with between last)
            (legal_refused cells h (step_of p (lending c l)) refused.InUse (refusal_used true (ap was_used q)))

        -- it is not
        free_line : was_used r ≡ false → HasStepped held place cells h old (step_of p (lending c l)) (record { answer = answer_of r; given = given.Nobody }) new
        free_line free =
            ended_so is (refusal_used false free) (answer_of r) given.Nobody (due_lending (other_waits cells h (step_of p (lending c l))) ∙ ap (λ o. answer_due (cell_at cells c) l o (replay cells c h)) agrees ∙ k.due free) _ refl (guards_with between last)
            (lent_in c l r m) (lent_at_once cells h p is.awake c l r agrees free fine) rests refl
          where
            agrees : accepts h ≡ (registry cells h).is_open
            agrees = sym (open-accepts cells h is.next.follows.legal)

            as_lent : l.runs ≡ false → answer_due (cell_at cells c) l (registry cells h).is_open (replay cells c h) ≡ answer_lent (cell_at cells c).kind (replay cells c h)
            as_lent runs = rw runs refl

            fine : l.runs ≡ false → answer_of r ≢ answer.Failed
            fine runs failed = never_failed (cell_at cells c).kind (replay cells c h) (sym (as_lent runs) ∙ k.due free ∙ failed)

            due_lending : (ws : List Wait) → due_answer cells h (step_of p (lending c l)) ws false ≡ answer_due (cell_at cells c) l (accepts h) (replay cells c h)
            due_lending ws = by l.runs l.made l.left
              where
                by : (b : Bool) (made : Option ℕ) (left : ℕ) → due_answer cells h (step_of p (lending c (record { runs = b; made = made; left = left }))) ws false ≡ answer_due (cell_at cells c) (record { runs = b; made = made; left = left }) (accepts h) (replay cells c h)
                by true made left = refl
                by false made left = refl

        pub did_lend : (line : Line) → line ≡ record { answer = answer_of r; given = given.Nobody } → HasStepped held place cells h old (step_of p (lending c l)) line new
        did_lend line line_is = subst (λ x. HasStepped held place cells h old (step_of p (lending c l)) x new) (sym line_is) (by r refl)
          where
            by : (z : Lent) → r ≡ z → HasStepped held place cells h old (step_of p (lending c l)) (record { answer = answer_of r; given = given.Nobody }) new
            by lent.InUse q = subst (λ (z : Lent). HasStepped held place cells h old (step_of p (lending c l)) (record { answer = answer_of z; given = given.Nobody }) new) (sym q) (used_line q)
            by z q = free_line (ap was_used q)
