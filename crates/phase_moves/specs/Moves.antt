-- What each move on guards requires and does. A move says what it does of everything that may have stood open: so a
-- caller chooses that where it is proved, and not where it calls.
use Rattle.std.specs.Prelude.{ℕ, true, false, ◌≡◌, ◌≤◌, ◌+◌, length, vec_capacity}
use Rattle.std.specs.declared.option.Option.{Option}
use Rattle.std.specs.declared.option.Option.TheVariants.{None, Some}
use Rattle.phase_bits.specs.declared.holders.Holders.{Holders}
use Rattle.phase_bits.specs.Records.{most_readers}
use Rattle.phase_locker.specs.declared.ways.LockerKind.{LockerKind}
use Rattle.phase_locker.specs.declared.ways.Given.{Given}
use Rattle.phase_locker.specs.declared.tickets.ReadTicket.{ReadTicket}
use Rattle.phase_locker.specs.Rows.{HasFree}
use Rattle.schedule_rules.specs.Guards.{Guard, numbered, guard_of, without_guard}
use Rattle.schedule_rules.specs.History.{count}
use Rattle.schedule_rules.specs.Waits.{shares_read}
use Rattle.phase_moves.specs.declared.rows.GuardRow.{GuardRow}
use Rattle.phase_moves.specs.declared.rows.Rows.{Rows}
use Rattle.phase_moves.specs.Standing.{Standing, left, downgraded, cloned, put, reads_in}
use Rattle.phase_moves.specs.Stands.{Stands, guard_row}

-- the readers of the cell are at their limit: its read guards and its read shares
abbrev pub IsFull : ℕ → Standing → Type 0
IsFull c m = reads_in c m + count (shares_read c) m.waits ≡ most_readers

-- there are as many cells and parties as before, and as much room for turns
pub record Kept {L : Type 0} (old new : Rows L) : Type 0 where
  pub cells : length new.cells.items ≡ length old.cells.items
  pub parties : length new.parties.items ≡ length old.parties.items
  pub turns : vec_capacity new.exit.turns ≡ vec_capacity old.exit.turns

-- so it is, and the rows of guards stay
pub record KeptGuards {L : Type 0} (old new : Rows L) : Type 0 where
  pub kept : Kept old new
  pub guards : new.guards ≡ old.guards

-- so it is, and there are so many rows of guards more
pub record KeptWith {L : Type 0} (n : ℕ) (old new : Rows L) : Type 0 where
  pub kept : Kept old new
  pub guards : length new.guards.items ≡ length old.guards.items + n
  pub room : vec_capacity new.guards ≡ vec_capacity old.guards

module _ {L : Type 0} (held : L → Holders) (place : L → LockerKind) where
  -- the lock in hand is that of this read guard, on the cell
  pub record IsReader (hand : ℕ) (m : Standing) (v : Rows L) (x : Guard) (c : ℕ) : Type 0 where
    pub stands : Stands held place hand m v
    pub found : numbered hand m.guards ≡ Some x
    pub at : x.cell ≡ c
    pub reads : x.writes ≡ false

  -- the lock in hand is that of this write guard, on the cell
  pub record IsWriter (hand : ℕ) (m : Standing) (v : Rows L) (x : Guard) (c : ℕ) : Type 0 where
    pub stands : Stands held place hand m v
    pub found : numbered hand m.guards ≡ Some x
    pub at : x.cell ≡ c
    pub writes : x.writes ≡ true

  -- ---- it is given back

  pub record MayLeaveRead (v : Rows L) (c : ℕ) : Type 0 where
    pub hand : ℕ
    pub m : Standing
    pub x : Guard
    pub is : IsReader hand m v x c

  abbrev pub LeavesRead : Rows L → ℕ → Given → Rows L → Type 0
  LeavesRead old c g new = (hand : ℕ) (m : Standing) (x : Guard) → IsReader hand m old x c → Stands held place hand (left x g m) new

  pub record MayLeaveWrite (v : Rows L) (c : ℕ) : Type 0 where
    pub hand : ℕ
    pub m : Standing
    pub x : Guard
    pub is : IsWriter hand m v x c

  abbrev pub LeavesWrite : Rows L → ℕ → Given → Rows L → Type 0
  LeavesWrite old c g new = (hand : ℕ) (m : Standing) (x : Guard) → IsWriter hand m old x c → Stands held place hand (left x g m) new

  -- ---- the rows of guards

  -- no guard is in hand
  pub record Rests (m : Standing) (v : Rows L) : Type 0 where
    pub stands : Stands held place (length v.guards.items) m v
    pub empty : numbered (length v.guards.items) m.guards ≡ None

  -- the row of the step, which the guard in hand is that of, is pushed
  abbrev pub Pushes : Rows L → GuardRow → Rows L → Type 0
  Pushes old row new =
      (m : Standing) → Stands held place (length old.guards.items) m old → row ≡ guard_row (numbered (length old.guards.items) m.guards)
      → Rests m new

  -- the guard that a party has by this number is taken into the hand
  abbrev pub TakenAs : Rows L → ℕ → Option Guard → Standing → Rows L → Type 0
  TakenAs old g None m new = Stands held place (length old.guards.items) m new
  TakenAs old g (Some x) m new = Stands held place g m new × (numbered g m.guards ≡ Some x)

  pub record IsTaken (old : Rows L) (p g : ℕ) (row : GuardRow) (new : Rows L) (m : Standing) : Type 0 where
    pub row_is : row ≡ guard_row (guard_of g p m.guards)
    pub taken : TakenAs old g (guard_of g p m.guards) m new

  abbrev pub Takes : Rows L → ℕ → ℕ → GuardRow → Rows L → Type 0
  Takes old p g row new = (m : Standing) → Rests m old → IsTaken old p g row new m

  -- ---- a guard more

  -- the write guard in hand is given back, and a read guard is opened at step n
  pub record MayDowngrade (v : Rows L) (c : ℕ) : Type 0 where
    pub hand : ℕ
    pub m : Standing
    pub x : Guard
    pub is : IsWriter hand m v x c
    pub room : HasFree v.parks

  abbrev pub Downgrades : Rows L → ℕ → Given → Rows L → Type 0
  Downgrades old c g new =
      (hand n : ℕ) (m : Standing) (x : Guard) → IsWriter hand m old x c → length old.guards.items ≤ n → numbered n (without_guard x.number m.guards) ≡ None
      → Stands held place n (downgraded n x g m) new

  -- a read guard of this number is open
  pub record IsOpenReader (m : Standing) (v : Rows L) (g : ℕ) (x : Guard) : Type 0 where
    pub rests : Rests m v
    pub found : numbered g m.guards ≡ Some x
    pub reads : x.writes ≡ false

  pub record MayClone (v : Rows L) (g c : ℕ) : Type 0 where
    pub m : Standing
    pub x : Guard
    pub is : IsOpenReader m v g x
    pub at : x.cell ≡ c

  -- one more is opened, or the readers of its cell are at their limit
  abbrev pub ClonesAs : Rows L → Standing → Guard → Option ReadTicket → Rows L → Type 0
  ClonesAs old m x None new = Stands held place (length old.guards.items) m new × IsFull x.cell m
  ClonesAs old m x (Some t) new = Stands held place (length old.guards.items) (cloned (length old.guards.items) x m) new

  abbrev pub Clones : Rows L → ℕ → ℕ → Option ReadTicket → Rows L → Type 0
  Clones old g c result new = (m : Standing) (x : Guard) → IsOpenReader m old g x → x.cell ≡ c → ClonesAs old m x result new

  -- ---- a value is set

  -- a write guard of this number is open
  pub record IsOpenWriter (m : Standing) (v : Rows L) (g : ℕ) (x : Guard) : Type 0 where
    pub rests : Rests m v
    pub found : numbered g m.guards ≡ Some x
    pub writes : x.writes ≡ true

  pub record MaySet (v : Rows L) (c : ℕ) : Type 0 where
    pub m : Standing
    pub g : ℕ
    pub x : Guard
    pub is : IsOpenWriter m v g x
    pub at : x.cell ≡ c

  abbrev pub Sets : Rows L → ℕ → ℕ → Rows L → Type 0
  Sets old c value new = (m : Standing) (g : ℕ) (x : Guard) → IsOpenWriter m old g x → x.cell ≡ c → Rests (put g value m) new
