-- A look at what the holder of a guard sees, and a value that it sets.
use Rattle.phase_acts.proofs.Words.{◌∙◌, ◌≡◌, answer_of_value, ap, Bool, CellPlan, due_look, Event, false, Guard, guards, HasStepped, Held, Holders, HoldsBy, if◌then◌else◌, inside}
use Rattle.phase_acts.proofs.Words.{IsAwake, IsLegal, IsOpenWriter, KeptGuards, KeptWith, Line, List, LockerKind, look_stays, MaySet, no_guard, no_writer, numbered, Option, Pushes}
use Rattle.phase_acts.proofs.Words.{put, refl, replay, Rows, seen_by, set_puts, Sets, Some, standing, step_of, sym, true, unwrap_or, ℕ}
use Rattle.phase_locker.specs.declared.ways.Given.TheVariants as given
use Rattle.schedule_rules.specs.declared.line.Answer.TheVariants as answer
use Rattle.schedule_rules.specs.declared.step.Act.TheVariants as act
use Rattle.schedule_rules.proofs.Steady.{guard-shows}
use Rattle.phase_moves.specs.declared.rows.GuardRow.TheVariants as guard
use Rattle.phase_acts.proofs.Holding.{found_of, has, has_one}
use Rattle.phase_acts.proofs.Stepping.{ended_free, guards_with}

module _ (cells : List CellPlan) (h : List Event) (g : ℕ) (x : Guard) (legal : IsLegal cells h) (found : numbered g (guards h) ≡ Some x) where
  -- the holder of a write guard sees what happened in its section on what is published
  sees : (b : Bool) → x.writes ≡ b → (if b then inside cells h x else replay cells x.cell h) ≡ (if b then seen_by (standing cells h) x else replay cells x.cell h)
  sees true w = guard-shows cells h g x legal found w
  sees false w = refl

  due_seen : (v : Option ℕ) → v ≡ (if x.writes then seen_by (standing cells h) x else replay cells x.cell h).value → due_look cells h (numbered g (guards h)) ≡ answer.Value (unwrap_or v 0)
  due_seen v e = ap (due_look cells h) found ∙ ap answer_of_value (sees x.writes refl) ∙ ap (λ (o : Option ℕ). answer.Value (unwrap_or o 0)) (sym e)

module _ {L : Type 0} {held : L → Holders} {place : L → LockerKind} {cells : List CellPlan} {h : List Event} {old : Rows L} {p g : ℕ} where
  pub looked : (is : IsAwake held place cells h old p (act.Look g)) (r : Option Held) (by : HoldsBy held place old p g r) (y : Held) → r ≡ Some y → (new : Rows L) (l : Line) → l ≡ record { answer = answer.Value (unwrap_or y.value 0); given = given.Nobody } → Pushes held place old guard.Free new → KeptWith 1 old new
      → HasStepped held place cells h old (step_of p (act.Look g)) l new
  looked is r by y e new l l_is push kept =
      let f = has is g r by y e in
      let rests = is.next.follows.rests in
      ended_free is (has_one is g r by no_guard refl y e y.writes refl) _ given.Nobody (due_seen cells h g f.x is.next.follows.legal (found_of g p (guards h) f.x f.is).0 y.value f.value) l l_is kept
      _ old push (standing cells h) (look_stays cells h p is.awake g (unwrap_or y.value 0)) rests.stands rests.empty refl

  -- a value is set
  module _ {v : ℕ} (is : IsAwake held place cells h old p (act.Set g v)) (r : Option Held) (by : HoldsBy held place old p g r) (y : Held) (e : r ≡ Some y) (w : y.writes ≡ true) where
    is_open_writer : IsOpenWriter held place (standing cells h) old g (has is g r by y e).x
    is_open_writer = let f = has is g r by y e in record { rests = is.next.follows.rests; found = (found_of g p (guards h) f.x f.is).0; writes = sym f.writes ∙ w }

    pub may_set : MaySet held place old y.cell
    may_set = let f = has is g r by y e in record { m = standing cells h; g = g; x = f.x; is = is_open_writer; at = sym f.at }

    pub did_set : (mid new : Rows L) → Sets held place old y.cell v mid → KeptGuards old mid → (l : Line) → l ≡ record { answer = answer.Done; given = given.Nobody } → Pushes held place mid guard.Free new → KeptWith 1 mid new → HasStepped held place cells h old (step_of p (act.Set g v)) l new
    did_set mid new sets kept l l_is push last =
        let f = has is g r by y e in
        let rests = sets (standing cells h) g f.x is_open_writer (sym f.at) in
        ended_free is (has_one is g r by no_writer refl y e true w) answer.Done given.Nobody refl l l_is (guards_with kept last) _ mid push (put g v (standing cells h)) (set_puts cells h p is.awake g v) rests.stands rests.empty refl
