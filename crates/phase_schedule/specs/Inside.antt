-- The fields of an engine, and what they stand for.
use Rattle.std.specs.Prelude.{List, ◌≡◌, ◌≤◌, length, map, vec_capacity}
use Rattle.phase_bits.specs.declared.holders.Holders.{Holders}
use Rattle.phase_locker.specs.declared.ways.LockerKind.{LockerKind}
use Rattle.schedule_rules.specs.declared.plan.CellPlan.{CellPlan}
use Rattle.phase_moves.specs.declared.rows.Rows.{Rows}
use Rattle.phase_schedule.specs.Standing.{Standing, history}
use Rattle.phase_schedule.specs.Progress.{Frame, HasMade}
use Rattle.phase_schedule.specs.declared.engine.Engine.TheInside.{Inside}

-- the cells of the plan that the rows were made for
abbrev pub plans_of : {L : Type 0} → Rows L → List CellPlan
plans_of rows = map (λ row. row.plan) rows.cells.items

module _ {L : Type 0} (held : L → Holders) (place : L → LockerKind) where
  -- what a contract sees of an engine with these fields
  abbrev pub standing_of : Inside L → Standing
  standing_of e =
      record {
        parties = length e.progress.machine.rows.parties.items;
        cells = plans_of e.progress.machine.rows;
        count = vec_capacity e.progress.machine.rows.guards;
        steps = e.steps.items;
        lines = e.lines.items;
      }

  -- what it is of
  abbrev pub frame_of : Inside L → Frame
  frame_of e = record { parties = (standing_of e).parties; cells = (standing_of e).cells; count = (standing_of e).count }

  -- the steps that it keeps were made with these lines, and it has room for the others
  pub record IsStanding (e : Inside L) : Type 0 where
    pub made : HasMade held place (frame_of e) (history (standing_of e)) e.progress
    pub told : length e.lines.items ≡ length e.steps.items
    pub step_room : (standing_of e).count ≤ vec_capacity e.steps
    pub line_room : (standing_of e).count ≤ vec_capacity e.lines
