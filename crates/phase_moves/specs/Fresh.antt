-- What stands before the first step of a plan.
use Rattle.std.specs.Prelude.{ℕ, Bool, true, List, [], ◌≡◌, ◌≤◌, ◌<◌, length, slice_get, vec_capacity}
use Rattle.std.specs.declared.option.Option.TheVariants.{None, Some}
use Rattle.phase_bits.specs.declared.holders.Holders.{Holders}
use Rattle.phase_bits.specs.Number.{phase_of}
use Rattle.phase_bits.specs.Records.{unheld}
use Rattle.phase_locker.specs.declared.ways.LockerKind.{LockerKind}
use Rattle.schedule_rules.specs.declared.plan.CellPlan.{CellPlan}
use Rattle.schedule_rules.specs.declared.plan.Plan.{Plan}
use Rattle.schedule_rules.specs.Changes.{opening_content}
use Rattle.schedule_rules.specs.Kinds.{cell_at}
use Rattle.phase_moves.specs.declared.rows.CellRow.{CellRow}
use Rattle.phase_moves.specs.declared.rows.PartyRow.{PartyRow}
use Rattle.phase_moves.specs.declared.rows.Rows.{Rows}
use Rattle.phase_moves.specs.Stands.{kind_at}
use Rattle.phase_moves.specs.Histories.{standing}
use Rattle.phase_moves.specs.Moves.{Rests}

-- lockers can be made for the places of all cells
abbrev pub TakesPlaces : (LockerKind → Bool) → List CellPlan → Type 0
TakesPlaces takes cells = (c : ℕ) → c < length cells → takes (kind_at (cell_at cells c).place) ≡ true

-- the row of a party that does not wait, and runs nothing
abbrev pub idle_party : PartyRow
idle_party = record { waiting = None; innermost = None }

module _ {L : Type 0} (held : L → Holders) (place : L → LockerKind) where
  -- the row of a cell with this plan before its first section: its locker is nobody's
  pub record IsFreshCell (x : CellPlan) (row : CellRow L) : Type 0 where
    pub planned : row.plan ≡ x
    pub valued : row.value ≡ (opening_content x).value
    pub runs : row.run ≡ None
    pub calm : row.waiting ≡ 0
    pub runner : row.seq.running ≡ None
    pub free : held row.seq.locker ≡ unheld (phase_of 0)
    pub placed : place row.seq.locker ≡ kind_at x.place

  -- a row for each cell
  pub record AreFreshCells (cells : List CellPlan) (rows : List (CellRow L)) : Type 0 where
    pub count : length rows ≡ length cells
    pub each : (c : ℕ) (row : CellRow L) → slice_get rows c ≡ Some row → IsFreshCell (cell_at cells c) row

  -- the rows of a plan before the first step, with room for so many steps, and for a turn of each cell
  pub record AreFresh (plan : Plan) (count : ℕ) (v : Rows L) : Type 0 where
    pub rests : Rests held place (standing plan.cells.items []) v
    pub cells : length v.cells.items ≡ length plan.cells.items
    pub parties : length v.parties.items ≡ plan.parties
    pub guards : v.guards.items ≡ []
    pub guard_room : vec_capacity v.guards ≡ count
    pub turn_room : length plan.cells.items ≤ vec_capacity v.exit.turns
