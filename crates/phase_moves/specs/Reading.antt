-- What is read off the rows.
use Rattle.std.specs.Prelude.{ℕ, Bool, true, false, ◌≡◌, ◌==◌, ◌<◌, length, slice_get, if◌then◌else◌}
use Rattle.std.specs.declared.option.Option.{Option}
use Rattle.std.specs.declared.option.Option.TheVariants.{None, Some}
use Rattle.phase_bits.specs.declared.holders.Holders.{Holders}
use Rattle.phase_locker.specs.declared.ways.LockerKind.{LockerKind}
use Rattle.lazy_cells.specs.declared.kind.Kind.{Kind}
use Rattle.schedule_rules.specs.Guards.{Guard, guard_of}
use Rattle.schedule_rules.specs.Kinds.{cell_at}
use Rattle.schedule_rules.specs.Sections.{Section, innermost}
use Rattle.schedule_rules.specs.Waits.{wait_of}
use Rattle.phase_moves.specs.declared.look_up.Held.{Held}
use Rattle.phase_moves.specs.declared.look_up.Running.{Running}
use Rattle.phase_moves.specs.declared.rows.CellRow.{CellRow}
use Rattle.phase_moves.specs.declared.rows.GuardRow.{GuardRow}
use Rattle.phase_moves.specs.declared.rows.GuardRow.TheVariants as guard
use Rattle.phase_moves.specs.declared.rows.OpenRun.{OpenRun}
use Rattle.phase_moves.specs.declared.rows.Rows.{Rows}
use Rattle.phase_moves.specs.declared.rows.Target.{Target}
use Rattle.phase_moves.specs.Standing.{Standing, seen_by}
use Rattle.phase_moves.specs.Stands.{Stands, target_of}
use Rattle.phase_moves.specs.Moves.{Rests}

-- ---- of single rows

-- the row is that of a guard of the party
abbrev pub is_row_of : ℕ → GuardRow → Bool
is_row_of p guard.Free = false
is_row_of p (guard.Read q c lock) = q == p
is_row_of p (guard.Write q c lock) = q == p

-- the published value
abbrev pub value_kept : {L : Type 0} → Option (CellRow L) → Option ℕ
value_kept None = None
value_kept (Some row) = row.value

-- the value that the holder of a write guard sees
abbrev pub value_drafted : {L : Type 0} → Option (CellRow L) → Option ℕ
value_drafted None = None
value_drafted (Some row) = row.draft.value

-- what runs in a cell of this kind
abbrev pub running_kept : Kind → ℕ → Option OpenRun → Option Running
running_kept q c None = None
running_kept q c (Some o) = Some (record { cell = c; kind = q; want = o.run.want })

abbrev pub run_kept : {L : Type 0} → ℕ → Option (CellRow L) → Option Running
run_kept c None = None
run_kept c (Some row) = running_kept row.plan.kind c row.run

-- what the party sees by a guard, where that is its own
abbrev pub shown_by : {L : Type 0} → Rows L → ℕ → GuardRow → Option Held
shown_by v p guard.Free = None
shown_by v p (guard.Read q c lock) = if q == p then Some (record { cell = c; writes = false; value = value_kept (slice_get v.cells.items c) }) else None
shown_by v p (guard.Write q c lock) = if q == p then Some (record { cell = c; writes = true; value = value_drafted (slice_get v.cells.items c) }) else None

-- ---- of what stands open

-- the section, by its cell, of this kind, and what opened it
abbrev pub running_of : Standing → Option Section → Option Running
running_of m None = None
running_of m (Some s) = Some (record { cell = s.cell; kind = (cell_at m.plans s.cell).kind; want = s.want })

-- what the holder of the guard sees
abbrev pub held_of : Standing → Option Guard → Option Held
held_of m None = None
held_of m (Some x) = Some (record { cell = x.cell; writes = x.writes; value = (if x.writes then seen_by m x else m.content x.cell).value })

module _ {L : Type 0} (held : L → Holders) (place : L → LockerKind) where
  abbrev pub AwaitsBy : Rows L → ℕ → Option Target → Type 0
  AwaitsBy v p r = (hand : ℕ) (m : Standing) → Stands held place hand m v → p < length v.parties.items → r ≡ target_of (wait_of p m.waits)

  abbrev pub RunsBy : Rows L → ℕ → Option Running → Type 0
  RunsBy v p r = (m : Standing) → Rests held place m v → p < length v.parties.items → r ≡ running_of m (innermost p m.sections)

  abbrev pub HoldsBy : Rows L → ℕ → ℕ → Option Held → Type 0
  HoldsBy v p g r = (m : Standing) → Rests held place m v → r ≡ held_of m (guard_of g p m.guards)
