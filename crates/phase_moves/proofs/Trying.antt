-- What the code reads of the cell before an attempt.
use Rattle.phase_moves.proofs.Words.{◌≡◌, ◌∙◌, ℕ, get_or, ap, arith, Bool, true, false, None, Some, MatchBool, cases_lt, Holders, LockerKind, Fits, MayCall, MayCallAgain, Ask}
use Rattle.phase_moves.proofs.Words.{MayRegister, CellPlan, is_finalizable, wait_of, CellRow, Target, Rows, Calling, Standing, seen_at, IsCell, IsAttempting, WaitsAt, ask_of}
use Rattle.phase_moves.proofs.Words.{has_want, is_quick}
use Rattle.phase_moves.proofs.{Asked.is_asked, Places.read_at}

module _ {L : Type 0} (held : L → Holders) (place : L → LockerKind) (m : Standing) (v : Rows L) (p : ℕ) (t : Target) (waits : Bool) (is : IsAttempting held place m v p t waits) (row : CellRow L) (row_is : row ≡ get_or v.cells.items t.cell row) where
  here : IsCell held place (seen_at t.cell m) v.parks t.cell row
  here = is.rests.stands.cell t.cell row (read_at v.cells.items t.cell row is.cell row_is)

  pub call_fits : Fits (place row.seq.locker) (held row.seq.locker) v.parks t.cell
  call_fits = here.locked.fits

  -- the cell has what is attempted
  pub may_ask : has_want row.plan.kind t.want ≡ true
  may_ask = ap (λ (x : CellPlan). has_want x.kind t.want) here.planned ∙ is.had

  -- what waits is slow
  pub may_wait : (ask : Ask) → ask_of row.plan t.want ≡ Some ask → waits ≡ true → ask.fast ≡ false
  may_wait ask e w = (is_asked row.plan t.want ask e).fast ∙ ap (λ (x : CellPlan). is_quick x t.want) here.planned ∙ (is.waits_so w).slow

  pub may_call : Calling waits (record { cell = t.cell; party = p }) v.parks
  may_call = by waits is.waited where
    by : (b : Bool) → MatchBool b (WaitsAt t.cell (wait_of p m.waits)) (wait_of p m.waits ≡ None) → MatchBool b (MayCallAgain (record { cell = t.cell; party = p }) v.parks) (MayCall (record { cell = t.cell; party = p }) v.parks)
    by b w = grind arith

  pub may_register : is_finalizable row.plan.kind ≡ true → MayRegister t.cell (held row.seq.locker) v.parks v.exit.registry
  may_register e = grind (arith, here, cases_lt)
