-- The record of a cell's holders after a history.
use Rattle.std.specs.Prelude.{ℕ, Bool, List, ◌||◌, nat_lt}
use Rattle.std.specs.List.{list_any}
use Rattle.phase_bits.specs.declared.holders.Holders.{Holders}
use Rattle.phase_bits.specs.Number.{phase_of}
use Rattle.schedule_rules.specs.declared.plan.CellPlan.{CellPlan}
use Rattle.schedule_rules.specs.History.{Event}
use Rattle.schedule_rules.specs.Replay.{phase_at}
use Rattle.schedule_rules.specs.Waits.{Wait, parks_to_read, parks_to_write, waits}
use Rattle.schedule_rules.specs.Holds.{readers_with, writers_with, drains_with}

-- a write hold, a write share or a drain of the cell stands, where these calls wait
abbrev pub is_locked_with : ℕ → List Event → List Wait → Bool
is_locked_with c h ws = nat_lt 0 (writers_with c h ws) || nat_lt 0 (drains_with c ws)

module _ (cells : List CellPlan) where
  -- the record of the cell's holders, where these calls wait
  abbrev pub core_with : ℕ → List Event → List Wait → Holders
  core_with c h ws =
      record {
        phase = phase_of (phase_at cells c h);
        readers = readers_with c h ws;
        locked = is_locked_with c h ws;
        read_waiters = list_any (parks_to_read c) ws;
        write_waiters = list_any (parks_to_write c) ws;
      }

  -- the record of the cell's holders
  abbrev pub core : ℕ → List Event → Holders
  core c h = core_with c h (waits cells h)
