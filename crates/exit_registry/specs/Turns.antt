-- What a turn may answer, and what it leaves.
use Rattle.std.specs.Prelude.{◌≡◌, Bool, true, false}
use Rattle.exit_registry.specs.declared.turns.Turn.{Turn}
use Rattle.exit_registry.specs.declared.turns.Turn.TheVariants.{Skipped, Done, Failed, Busy}

-- what is seen of an object that has a turn: it is initialized, it is held, its finalizer succeeded, its finalizer failed
pub record Meanings : Type 0 where
  pub initialized : Bool
  pub held : Bool
  pub finalized : Bool
  pub failed : Bool

-- an object with these meanings may answer this turn
abbrev pub Answers : Meanings → Turn → Type 0
Answers m Skipped = m.initialized ≡ false
Answers m Busy = (m.initialized ≡ true) × (m.held ≡ true)
Answers m Done = (m.initialized ≡ true) × (m.held ≡ false)
Answers m Failed = (m.initialized ≡ true) × (m.held ≡ false)

-- the meanings after this turn
abbrev pub left_by : Turn → Meanings → Meanings
left_by Skipped m = m
left_by Busy m = m
left_by Done m = record m { finalized = true }
left_by Failed m = record m { failed = true }

-- the turn runs no finalizer
abbrev pub is_still : Turn → Bool
is_still Skipped = true
is_still Busy = true
is_still Done = false
is_still Failed = false
