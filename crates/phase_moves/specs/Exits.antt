-- What the moves of the exit require and do.
use Rattle.std.specs.Prelude.{ℕ, [], ◌≡◌, ◌<◌, length}
use Rattle.std.specs.declared.option.Option.{Option}
use Rattle.std.specs.declared.option.Option.TheVariants.{Some}
use Rattle.phase_bits.specs.declared.holders.Holders.{Holders}
use Rattle.exit_registry.specs.declared.registry.Look.{Look}
use Rattle.exit_registry.specs.declared.turns.Turn.TheVariants as turn
use Rattle.exit_registry.specs.Registry.{first_of, look_at}
use Rattle.phase_locker.specs.declared.ways.LockerKind.{LockerKind}
use Rattle.phase_moves.specs.declared.rows.Rows.{Rows}
use Rattle.phase_moves.specs.Standing.{Standing, owned, turn_taken, round_looked, turn_ended}
use Rattle.phase_moves.specs.Stands.{Stands}

module _ {L : Type 0} (held : L → Holders) (place : L → LockerKind) where
  abbrev pub Owns : Rows L → ℕ → Rows L → Type 0
  Owns old p new = (hand : ℕ) (m : Standing) → Stands held place hand m old → Stands held place hand (owned p m) new

  -- the first cell that is left, which is one of the cells
  pub record IsTurn (hand : ℕ) (m : Standing) (old : Rows L) (o : Option ℕ) (new : Rows L) : Type 0 where
    pub first : o ≡ first_of m.registry.left
    pub inside : (c : ℕ) → o ≡ Some c → c < length old.cells.items
    pub stands : Stands held place hand (turn_taken m) new

  abbrev pub TakesTurn : Rows L → Option ℕ → Rows L → Type 0
  TakesTurn old o new = (hand : ℕ) (m : Standing) → Stands held place hand m old → IsTurn hand m old o new

  pub record MayLook (v : Rows L) : Type 0 where
    pub hand : ℕ
    pub m : Standing
    pub stands : Stands held place hand m v
    pub none_left : m.registry.left ≡ []

  abbrev pub Looks : Rows L → Look → Rows L → Type 0
  Looks old o new = (hand : ℕ) (m : Standing) → Stands held place hand m old → (o ≡ look_at m.registry.pending) × Stands held place hand (round_looked m) new

  abbrev pub Skips : Rows L → ℕ → Rows L → Type 0
  Skips old c new = (hand : ℕ) (m : Standing) → Stands held place hand m old → Stands held place hand (turn_ended c turn.Skipped m) new
