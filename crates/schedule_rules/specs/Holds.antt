-- Who holds a cell, which locks that bars, and what a waiting call keeps.
use Rattle.std.specs.Prelude.{ℕ, Bool, true, false, not, List, ◌==◌, ◌+◌, ◌&&◌, ◌||◌, nat_lt, if◌then◌else◌}
use Rattle.std.specs.declared.option.Option.{Option}
use Rattle.std.specs.declared.option.Option.TheVariants.{None, Some}
use Rattle.phase_bits.specs.Records.{most_readers}
use Rattle.phase_locker.specs.declared.tickets.LockNature.{LockNature}
use Rattle.phase_locker.specs.declared.tickets.LockNature.TheVariants as nature
use Rattle.phase_locker.specs.declared.ways.How.{How}
use Rattle.phase_locker.specs.declared.ways.How.TheVariants as how
use Rattle.schedule_rules.specs.declared.plan.CellPlan.{CellPlan}
use Rattle.schedule_rules.specs.History.{Event, count}
use Rattle.schedule_rules.specs.Sections.{runs_in, sections}
use Rattle.schedule_rules.specs.Guards.{Guard, guards}
use Rattle.schedule_rules.specs.Waits.{Wait, waits_at, shares_read, shares_write, drains_on, is_drain, waits}

-- a read guard of the cell
abbrev pub reads_cell : ℕ → Guard → Bool
reads_cell c x = if x.writes then false else (x.cell == c)

-- a write guard of the cell
abbrev pub writes_cell : ℕ → Guard → Bool
writes_cell c x = if x.writes then (x.cell == c) else false

-- the open read guards of a cell
abbrev pub read_guards : ℕ → List Event → ℕ
read_guards c h = count (reads_cell c) (guards h)

-- the write holds of a cell: its open write guards, and its sections that run
abbrev pub write_holds : ℕ → List Event → ℕ
write_holds c h = count (writes_cell c) (guards h) + count (runs_in c) (sections h)

-- ---- over the calls that wait, or some of them

-- open read guards and read shares
abbrev pub readers_with : ℕ → List Event → List Wait → ℕ
readers_with c h ws = read_guards c h + count (shares_read c) ws

-- write holds and write shares
abbrev pub writers_with : ℕ → List Event → List Wait → ℕ
writers_with c h ws = write_holds c h + count (shares_write c) ws

-- the drains of the cell
abbrev pub drains_with : ℕ → List Wait → ℕ
drains_with c ws = count (drains_on c) ws

-- no hold, share or drain of the cell stands
abbrev pub is_free_with : ℕ → List Event → List Wait → Bool
is_free_with c h ws = readers_with c h ws + writers_with c h ws + drains_with c ws == 0

-- what stands on a cell against a lock: how many read it, whether something holds it to write, and whether a call
-- drains it
pub record Holding : Type 0 where
  pub readers : ℕ
  pub written : Bool
  pub drained : Bool

-- what stands on the cell
abbrev pub holding_with : ℕ → List Event → List Wait → Holding
holding_with c h ws =
    record { readers = readers_with c h ws; written = nat_lt 0 (writers_with c h ws); drained = nat_lt 0 (drains_with c ws) }

module _ (cells : List CellPlan) where
  -- the readers of a cell
  abbrev pub readers : ℕ → List Event → ℕ
  readers c h = readers_with c h (waits cells h)

  -- the write holds and shares of a cell
  abbrev pub writers : ℕ → List Event → ℕ
  writers c h = writers_with c h (waits cells h)

  -- the drains of a cell
  abbrev pub drains : ℕ → List Event → ℕ
  drains c h = drains_with c (waits cells h)

  -- nothing stands on the cell
  abbrev pub is_free : ℕ → List Event → Bool
  is_free c h = is_free_with c h (waits cells h)

  -- a guard of the cell is open, a section of it goes on, or a call waits at it
  abbrev pub is_in_use : ℕ → List Event → Bool
  is_in_use c h = not (read_guards c h + write_holds c h + count (waits_at c) (waits cells h) == 0)

  -- what stands on the cell
  abbrev pub holding : ℕ → List Event → Holding
  holding c h = holding_with c h (waits cells h)

-- a lock of this nature is barred
abbrev pub is_barred : LockNature → Holding → Bool
is_barred nature.None o = false
is_barred nature.Read o = o.written || ((o.drained && (o.readers == 0)) || (o.readers == most_readers))
is_barred nature.Write o = o.written || (o.drained || nat_lt 0 o.readers)

-- the lock is one to write
abbrev pub wants_to_write : LockNature → Bool
wants_to_write nature.None = false
wants_to_write nature.Read = false
wants_to_write nature.Write = true

-- readers alone bar the lock, and it is one to write
abbrev pub is_barred_by_readers : LockNature → Holding → Bool
is_barred_by_readers n o = wants_to_write n && (nat_lt 0 o.readers && (not o.written && not o.drained))

-- what is kept, by the way of waiting and whether the call was woken: a share of the nature that is wanted, and a drain
-- that wants to write and has no reader beside it
abbrev pub keeps_way : How → Bool → LockNature → ℕ → Bool
keeps_way how.ParkedRead woken nature.Read readers = woken
keeps_way how.ParkedWrite woken nature.Write readers = woken
keeps_way how.Drain woken nature.Write readers = readers == 0
keeps_way _ woken n readers = false

-- the waiting call keeps its share or its drain
abbrev pub keeps : Option Wait → LockNature → ℕ → Bool
keeps None n readers = false
keeps (Some w) n readers = keeps_way w.way w.woken n readers

-- the waiting call has a share or a drain
abbrev pub has_own : Option Wait → Bool
has_own None = false
has_own (Some w) = w.woken || is_drain w.way
