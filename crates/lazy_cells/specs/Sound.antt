-- What is kept of a locked cell of some kind. `hard` says whether a finalizer takes the value out of reach, `primed` whether
-- it is there from the start.
use Rattle.std.specs.Prelude.{◌≡◌, Bool, true, false, ◌||◌}
use Rattle.phase_bits.specs.Flags.{has, initialized}
use Rattle.phase_bits.specs.Number.{number}
use Rattle.lazy_cells.specs.Kinds.{is_finalized, is_within_reach}
use Rattle.lazy_cells.specs.Cells.{is_there}
use Rattle.lazy_cells.specs.Locked.{Locked, bars_write}

-- the value is there exactly where the cell is primed, or the value is in reach at the phase that is published next;
-- while a ticket is open it is there;
-- a cell that is not initialized was not finalized;
-- where nobody writes, and where the cell is initialized, the phase that is published next is the cell's own
pub record IsSound {T G P : Type 0} (hard primed : Bool) (c : Locked T G P) : Type 0 where
  pub there : is_there c.value ≡ primed || is_within_reach hard c.next
  pub held : bars_write c ≡ true → is_there c.value ≡ true
  pub fresh : has (number c.next) initialized ≡ false → is_finalized c.next ≡ false
  pub shown : c.writing ≡ false → c.next ≡ c.phase
  pub same : has (number c.phase) initialized ≡ true → c.next ≡ c.phase
