-- What an attempt of a step requires and does, to the end of the step.
use Rattle.std.specs.Prelude.{ℕ, Bool, ◌≡◌, ◌<◌, length, vec_capacity}
use Rattle.phase_bits.specs.declared.holders.Holders.{Holders}
use Rattle.phase_locker.specs.declared.ways.Given.{Given}
use Rattle.phase_locker.specs.declared.ways.LockerKind.{LockerKind}
use Rattle.schedule_rules.specs.declared.line.Line.{Line}
use Rattle.schedule_rules.specs.declared.step.Want.TheVariants.{Turns}
use Rattle.phase_moves.specs.declared.rows.Rows.{Rows}
use Rattle.phase_moves.specs.declared.rows.Taken.{Taken}
use Rattle.phase_moves.specs.declared.rows.Target.{Target}
use Rattle.phase_moves.specs.Meets.{IsMet}
use Rattle.phase_moves.specs.Standing.{Standing}
use Rattle.phase_moves.specs.Tries.{IsAttempting, TellsPhase, phase_asked}
use Rattle.phase_acts.specs.Settles.{IsSettled}

-- what was taken and given, and how that was met
pub record IsTaking (m : Standing) (p : ℕ) (t : Target) (b : Taken) (g : Given) : Type 0 where
  pub told : TellsPhase (phase_asked t.cell t.want m) b
  pub met : IsMet p t b g m

module _ {L : Type 0} (held : L → Holders) (place : L → LockerKind) where
  -- a party attempts this; there is room for a turn that ends
  pub record IsTrying (m : Standing) (v : Rows L) (p : ℕ) (t : Target) (waits : Bool) : Type 0 where
    pub attempting : IsAttempting held place m v p t waits
    pub turns : t.want ≡ Turns → length v.exit.turns.items < vec_capacity v.exit.turns

  pub record MayTry (v : Rows L) (p : ℕ) (t : Target) (waits : Bool) : Type 0 where
    pub m : Standing
    pub is : IsTrying m v p t waits
    pub room : length v.guards.items < vec_capacity v.guards

  -- it was made so at step n
  pub record IsTried (n : ℕ) (m : Standing) (p : ℕ) (t : Target) (l : Line) (new : Rows L) : Type 0 where
    pub taken : Taken
    pub first : Given
    pub taking : IsTaking m p t taken first
    pub settled : IsSettled held place n m p t taken first l new

  abbrev pub Tries : Rows L → ℕ → Target → Bool → Line → Rows L → Type 0
  Tries old p t waits l new = (m : Standing) → IsTrying m old p t waits → IsTried (length old.guards.items) m p t l new
