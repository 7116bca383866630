-- The exit: each cell whose turn is still to come has it once, in order.
use Rattle.std.specs.Prelude.{◌≡◌, ℕ, true, false, List, [], map, Some, slice_get}
use Rattle.exit_registry.specs.declared.turns.Turn.{Turn}
use Rattle.exit_registry.specs.declared.turns.Turned.{Turned}
use Rattle.exit_registry.specs.Registry.{Registry}
use Rattle.exit_registry.specs.Turns.{Meanings, Answers, left_by, is_still}

-- no cell has a turn to come, and none can be registered any more
abbrev pub closed : Registry → Registry
closed r = record { pending = []; left = []; known = r.known; is_open = false }

-- the cells that had a turn, in order
abbrev pub cells_of_turns : List Turned → List ℕ
cells_of_turns ts = map (λ t. t.cell) ts

-- an object had a turn that ended so
pub record HasTurned {X : Type 0} (meanings : X → Meanings) (turn : Turn) (old new : X) : Type 0 where
  pub answers : Answers (meanings old) turn
  pub leaves : meanings new ≡ left_by turn (meanings old)
  pub still : is_still turn ≡ true → new ≡ old

-- the object of this cell had a turn that ended so
pub record HasTurnedAt {X : Type 0} (meanings : X → Meanings) (t : Turned) (old new : List X) : Type 0 where
  pub before : X
  pub after : X
  pub was : slice_get old t.cell ≡ Some before
  pub is : slice_get new t.cell ≡ Some after
  pub turned : HasTurned meanings t.turn before after
