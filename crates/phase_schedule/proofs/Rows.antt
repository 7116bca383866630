-- What rows that follow a history tell of its cells.
use Rattle.phase_schedule.proofs.Words.{[], ◌∷◌, ◌≡◌, arith, cell_at, CellPlan, CellRow, Event, Follows, Holders, IsCell, length, List, LockerKind, map, plans_of, refl, Rows}
use Rattle.phase_schedule.proofs.Words.{seen_at, slice_get, Some, standing, suc, ℕ}

module _ {L : Type 0} where
  -- rows of which each is of the plan at its place are of these plans
  planned : (rows : List (CellRow L)) (cells : List CellPlan) → length rows ≡ length cells → ((c : ℕ) (row : CellRow L) → slice_get rows c ≡ Some row → row.plan ≡ cell_at cells c) → map (λ row. row.plan) rows ≡ cells
  planned [] [] e each = refl
  planned (r ∷ rs) (x ∷ xs) e each =
      let head : r.plan ≡ x = each 0 r refl in
      let tail : map (λ row. row.plan) rs ≡ xs = planned rs xs (omega (arith, e)) (λ c row is. each (suc c) row is) in
      λ i. head i ∷ tail i
  planned rows cells e each = absurd (omega (arith, e))

  module _ (held : L → Holders) (place : L → LockerKind) (cells : List CellPlan) (h : List Event) (v : Rows L) (f : Follows held place cells h v) where
    -- the row of a cell
    pub cell_is : (c : ℕ) (row : CellRow L) → slice_get v.cells.items c ≡ Some row → IsCell held place (seen_at c (standing cells h)) v.parks c row
    cell_is c row is = f.rests.stands.cell c row is

    -- the rows are of the cells
    pub plans_are : plans_of v ≡ cells
    plans_are = planned v.cells.items cells f.planned (λ c row is. (cell_is c row is).planned)
