-- The log of an exit.
use Rattle.std.specs.Prelude.{ℕ, List}
use Rattle.exit_registry.specs.declared.turns.Turned.{Turned}

-- the turns in order, and the number of cells that the log was made for
pub record LogBook : Type 0 where
  pub turns : List Turned
  pub cells : ℕ
