use Rattle.schedule_rules.proofs.Words.{ℕ, arith, List, ◌≡◌, Bool, true, refl, false, ◌<◌, ◌&&◌, not, ◌||◌, ◌==◌, nat_lt, LockNature, CellPlan, Event, Wait, waits, is_barred}
use Rattle.schedule_rules.proofs.Words.{holding_with, readers_with, writers_with, drains_with}
use Rattle.phase_bits.specs.Records.{most_readers, bars_read, bars_write}
use Rattle.schedule_rules.specs.Core.{core_with}
use Rattle.schedule_rules.proofs.Causes.{kept_is_answered}
use Rattle.schedule_rules.proofs.laws.records_bar_what_rules_bar.Goals as goal

-- a lock to write is barred by whatever stands
bars_to_write : (written drained : Bool) (n : ℕ) → (written || (drained || nat_lt 0 n)) ≡ ((written || drained) || not (n == 0))
bars_to_write true drained n = refl
bars_to_write false true n = refl
bars_to_write false false n = grind arith

-- beside a write hold there is no reader
bars_to_read : (w d n m : ℕ) → (0 < w → n ≡ 0) → (nat_lt 0 w || ((nat_lt 0 d && (n == 0)) || (n == m))) ≡ (((nat_lt 0 w || nat_lt 0 d) && (n == 0)) || (n == m))
bars_to_read w d n m alone = grind arith

module _ (cells : List CellPlan) (h : List Event) (c : ℕ) (ws : List Wait) where
  bars_read-core : (0 < writers_with c h ws → readers_with c h ws ≡ 0) → is_barred LockNature.Read (holding_with c h ws) ≡ bars_read (core_with cells c h ws)
  bars_read-core alone = bars_to_read (writers_with c h ws) (drains_with c ws) (readers_with c h ws) most_readers alone

  bars_write-core : is_barred LockNature.Write (holding_with c h ws) ≡ bars_write (core_with cells c h ws)
  bars_write-core = bars_to_write (nat_lt 0 (writers_with c h ws)) (nat_lt 0 (drains_with c ws)) (readers_with c h ws)

pub returns-clause-reads : goal.returns-clause-reads
returns-clause-reads g = λ cells h c x. bars_read-core cells h c (waits cells h) x.no_reader

pub returns-clause-writes : goal.returns-clause-writes
returns-clause-writes g = λ cells h c. bars_write-core cells h c (waits cells h)

pub returns-clause-reads_with : goal.returns-clause-reads_with
returns-clause-reads_with g = bars_read-core

pub returns-clause-writes_with : goal.returns-clause-writes_with
returns-clause-writes_with g = bars_write-core

pub returns-clause-kept : goal.returns-clause-kept
returns-clause-kept g = kept_is_answered
