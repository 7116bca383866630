-- What the cells are left with, read off rows that follow a history.
use Rattle.phase_schedule.proofs.Words.{[], ◌<◌, ◌∙◌, ◌∷◌, ◌≡◌, ap, AreFinals, AreKnown, arith, CellPlan, CellRow, Event, final_of, final_of_row, Follows, get_or, Holders, IsKnown}
use Rattle.phase_schedule.proofs.Words.{length, length-map, List, LockerKind, map, refl, Rows, slice_get, slice_get-get_or, Some, subst, suc, sym, zero, ℕ}
use Rattle.schedule_rules.specs.declared.transcript.Final.{Final}
use Rattle.phase_schedule.proofs.Phases.{published_known}
use Rattle.phase_schedule.proofs.Rows.{cell_is}

module _ {L : Type 0} (held : L → Holders) (place : L → LockerKind) (cells : List CellPlan) (h : List Event) (v : Rows L) (f : Follows held place cells h v) where
  one : (c : ℕ) (row : CellRow L) → slice_get v.cells.items c ≡ Some row → final_of_row held row ≡ final_of cells c h
  one c row is = let cell = cell_is held place cells h v f c row is in λ i. record { phase = cell.locked.phase_is i; value = cell.valued i }

  each_at : (y : Final) (rows : List (CellRow L)) (c : ℕ) → c < length rows → ((row : CellRow L) → slice_get rows c ≡ Some row → final_of_row held row ≡ y) → slice_get (map (final_of_row held) rows) c ≡ Some y
  each_at y [] c lt k = absurd (omega (arith, lt))
  each_at y (r ∷ rs) zero lt k = ap (λ z. Some z) (k r refl)
  each_at y (r ∷ rs) (suc c) lt k = each_at y rs c (omega (arith, lt)) k

  -- those of rows that follow a history are those of the history
  pub finals_are : (finals : List Final) → finals ≡ map (final_of_row held) v.cells.items → AreFinals finals cells h
  finals_are finals e =
      record {
        count = ap length e ∙ length-map v.cells.items (final_of_row held) ∙ f.planned;
        each = λ c lt. ap (λ xs. slice_get xs c) e ∙ each_at (final_of cells c h) v.cells.items c (subst (λ n. c < n) (sym f.planned) lt) (one c);
      }

-- those of a history have no other phases
pub finals_known : (cells : List CellPlan) (h : List Event) (finals : List Final) → AreFinals finals cells h → AreKnown finals
finals_known cells h finals are = λ j d lt. known j d lt
  where
    known : (j : ℕ) (d : Final) → j < length finals → IsKnown (get_or finals j d).phase
    known j d lt =
        let there : slice_get finals j ≡ Some (get_or finals j d) = slice_get-get_or finals j d lt in
        let is : slice_get finals j ≡ Some (final_of cells j h) = are.each j (subst (λ n. j < n) are.count lt) in
        let same : final_of cells j h ≡ get_or finals j d = cc in
        subst (λ (x : Final). IsKnown x.phase) same (published_known cells j h)
