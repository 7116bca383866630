-- Cells that a program starts before it uses them.
use Rattle.std.specs.Prelude.{◌≡◌, ℕ, ◌<◌, ◌==◌, Bool, true, false, Option, Some, None, Result, Ok, Err}
use Rattle.std.specs.Option.{ForSome}
use Rattle.phase_bits.specs.declared.phase.Phase.{Phase}
use Rattle.phase_bits.specs.Flags.{has, initialized, initialization_panicked}
use Rattle.phase_bits.specs.Number.{number}
use Rattle.exit_registry.specs.Registry.{Registry, cells_of, is_known}
use Rattle.phase_seq.specs.declared.init_error.InitError.{InitError}
use Rattle.phase_seq.specs.declared.init_error.InitError.TheVariants.{Access, Failed, Cyclic, Borrowed}
use Rattle.lazy_cells.specs.Kinds.{is_within_reach}
use Rattle.lazy_cells.specs.Cells.{Cell}
use Rattle.lazy_cells.specs.Locked.{Locked, bars_write}
use Rattle.lazy_cells.specs.Access.{reached}

-- what is seen of such a cell: its phase; whether the value is in reach; whether a ticket is open, and whether it is a write
-- ticket; and its number, where it is registered for the exit
pub record Standing : Type 0 where
  pub phase : Phase
  pub in_reach : Bool
  pub held : Bool
  pub writing : Bool
  pub cell : Option ℕ

-- a plain cell, whose marker gives this number
abbrev pub standing_plain : {T G P : Type 0} → (P → Option ℕ) → Cell T G P → Standing
standing_plain cell c = record { phase = c.phase; in_reach = is_within_reach false c.phase; held = false; writing = false; cell = cell c.marker }

-- a locked cell, which a finalizer takes the value of out of reach or not
abbrev pub standing_locked : {T G P : Type 0} → Bool → (P → Option ℕ) → Locked T G P → Standing
standing_locked hard cell c = record { phase = c.phase; in_reach = is_within_reach hard c.phase; held = bars_write c; writing = c.writing; cell = cell c.marker }

-- ---- what a start needs

-- the cell with this number may be registered, where it is not yet
pub record MayBeNew (s : Standing) (m : Registry) (c : ℕ) : Type 0 where
  pub inside : c < cells_of m
  pub unknown : number s.phase ≡ 0 → s.writing ≡ false → is_known m c ≡ false

-- a cell that is registered for the exit may be started beside this registry
pub record MayStart (s : Standing) (m : Registry) : Type 0 where
  pub may : ForSome s.cell (MayBeNew s m)

-- ---- what a start does

-- a run failed, and the phase says so
pub record IsFailed (p : Phase) : Type 0 where
  pub panicked : has (number p) initialization_panicked ≡ true
  pub lacks : has (number p) initialized ≡ false

-- the answer. Ok comes where the value is in reach, with the phase; Borrowed where a ticket is open, and nothing changes;
-- Failed where the run failed; Access with the phase afterwards, at which the value is not in reach
abbrev pub Answers : Standing → Result Phase InitError → Standing → Type 0
Answers old (Ok p) new = (p ≡ new.phase) × (new.in_reach ≡ true) × (old.held ≡ false)
Answers old (Err (Access e)) new = (e.phase ≡ new.phase) × (new.in_reach ≡ false) × (old.held ≡ false)
Answers old (Err Failed) new = IsFailed new.phase × (old.held ≡ false)
Answers old (Err Borrowed) new = (new ≡ old) × (old.held ≡ true)
Answers old (Err Cyclic) new = ⊥

-- this is the cell's own number
abbrev pub is_own : Option ℕ → ℕ → Bool
is_own None c = false
is_own (Some d) c = d == c

-- the registry knows what it knew, and at most the cell's own number more
pub record KnowsMore (own : Option ℕ) (m m' : Registry) : Type 0 where
  pub cells : cells_of m' ≡ cells_of m
  pub kept : (c : ℕ) → is_known m c ≡ true → is_known m' c ≡ true
  pub others : (c : ℕ) → is_own own c ≡ false → is_known m' c ≡ is_known m c

-- a start opens no ticket and gives none back, and the number stays
pub record Starts (old : Standing) (r : Result Phase InitError) (new : Standing) (m m' : Registry) : Type 0 where
  pub answers : Answers old r new
  pub held : new.held ≡ old.held
  pub writing : new.writing ≡ old.writing
  pub cell : new.cell ≡ old.cell
  pub registry : KnowsMore old.cell m m'

-- the answer of `init`, where the value is in reach
abbrev pub accessed : Result Phase InitError → Result Phase InitError
accessed (Ok p) = reached false p p
accessed (Err e) = Err e

-- ---- a cell that is handed over

-- the cell, in an Err where it is not initialized
abbrev pub started_where : {C : Type 0} → Bool → C → Result C C
started_where true c = Ok c
started_where false c = Err c

-- the start of a cell that is handed over, and handed back where it fails
abbrev pub StartsOwn : {C : Type 0} → (C → Standing) → C → Result C (C × InitError) → Registry → Registry → Type 0
StartsOwn st old (Ok new) m m' = Starts (st old) (Ok (st new).phase) (st new) m m'
StartsOwn st old (Err (new, e)) m m' = Starts (st old) (Err e) (st new) m m'

-- this is so of the cell that is left
abbrev pub IsLeft : {C : Type 0} → (C → Type 0) → Result C (C × InitError) → Type 0
IsLeft P (Ok new) = P new
IsLeft P (Err (new, e)) = P new
