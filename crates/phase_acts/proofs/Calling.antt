-- A call is refused on a cell of another party, and where cells of its kind do not have it: by the plan in the row of its cell.
use Rattle.phase_acts.proofs.Words.{◌<◌, ◌∙◌, ◌≡◌, Act, ap, arith, Bool, Call, cell_at, CellPlan, CellRow, Event, get_or, Holders, is_of_other, IsAwake, IsTrue, Kind, length, List}
use Rattle.phase_acts.proofs.Words.{LockerKind, nat_lt, no_call, read_at, refusal, Rows, step_of, sym, ℕ}
use Rattle.lazy_cells.specs.Calls.{has_call}
use Rattle.schedule_rules.specs.declared.step.Act.TheVariants as act
use Rattle.phase_acts.proofs.Lines.{refusal_awake}

pub below : (n m : ℕ) → IsTrue (nat_lt n m) → n < m
below n m e = grind (arith, e)

module _ {L : Type 0} {held : L → Holders} {place : L → LockerKind} {cells : List CellPlan} {h : List Event} {old : Rows L} {p : ℕ} {a : Act} (is : IsAwake held place cells h old p a) (c : ℕ) (row : CellRow L) (row_is : row ≡ get_or old.cells.items c row) where
  pub planned : c < length old.cells.items → row.plan ≡ cell_at cells c
  planned inside = (is.next.follows.rests.stands.cell c row (read_at old.cells.items c row inside row_is)).planned

  pub by_plan : c < length old.cells.items → (has : Kind → Bool) (a b : Bool) → is_of_other row.plan.place p ≡ a → has row.plan.kind ≡ b → no_call (is_of_other (cell_at cells c).place p) (has (cell_at cells c).kind) ≡ no_call a b
  by_plan inside has a b o e = λ i. no_call ((ap (λ (x : CellPlan). is_of_other x.place p) (sym (planned inside)) ∙ o) i) ((ap (λ (x : CellPlan). has x.kind) (sym (planned inside)) ∙ e) i)

pub call_refusal : {L : Type 0} {held : L → Holders} {place : L → LockerKind} {cells : List CellPlan} {h : List Event} {old : Rows L} {p c : ℕ} {k : Call} (is : IsAwake held place cells h old p (act.Call c k)) (row : CellRow L) → row ≡ get_or old.cells.items c row → (a b : Bool) → is_of_other row.plan.place p ≡ a → has_call row.plan.kind k ≡ b
    → refusal cells h (step_of p (act.Call c k)) ≡ no_call a b
call_refusal {cells = cells} {h = h} {old = old} {p = p} {c = c} {k = k} is row row_is a b o e = refusal_awake cells h p is.awake (act.Call c k) ∙ by_plan is c row row_is (below c (length old.cells.items) is.next.known.cell) (λ q. has_call q k) a b o e
