-- What is given to the parked calls of a cell, and what record and rows then are.
use Rattle.std.specs.Prelude.{◌≡◌, ℕ, true, false, length, Some}
use Rattle.phase_bits.specs.declared.phase.Phase.{Phase}
use Rattle.phase_bits.specs.declared.holders.Holders.{Holders}
use Rattle.phase_bits.specs.Records.{downgrade, give_writer, give_readers}
use Rattle.phase_locker.specs.declared.ways.Given.{Given}
use Rattle.phase_locker.specs.declared.ways.Given.TheVariants.{Nobody, Writer, Readers}
use Rattle.phase_locker.specs.declared.ways.Waiting.TheVariants.{Free}
use Rattle.phase_locker.specs.Rows.{Rows, row_of, readers_of, writers_of, is_empty, first_of, occurs, rows_to_readers, rows_to_writer}
use Rattle.phase_locker.specs.Fits.{flagged, IsIdle, NobodyParked}

-- this may be given: the lock to a parked writer, or to the parked readers, where no hold, share or claim is left
abbrev pub MayHand : ℕ → Holders → Rows → Given → Type 0
MayHand c h s Nobody = Unit {0}
MayHand c h s (Writer p) = IsIdle h × (occurs p (writers_of s c) ≡ 1)
MayHand c h s Readers = IsIdle h × (is_empty (readers_of s c) ≡ false)

-- nothing may be given only where a hold, a share or a claim is left, or nobody is parked
abbrev pub MustHand : ℕ → Holders → Rows → Given → Type 0
MustHand c h s Nobody = h.locked ≡ false → h.readers ≡ 0 → NobodyParked s c
MustHand c h s (Writer p) = Unit {0}
MustHand c h s Readers = Unit {0}

-- the rows after this is given
abbrev pub rows_handed : ℕ → Given → Rows → Rows
rows_handed c Nobody s = s
rows_handed c (Writer p) s = rows_to_writer c p s
rows_handed c Readers s = rows_to_readers c s

-- the record after this is given
abbrev pub held_handed : ℕ → Given → Rows → Holders → Holders
held_handed c Nobody s h = h
held_handed c (Writer p) s h = give_writer h
held_handed c Readers s h = give_readers (length (readers_of s c)) h

-- a hand-over, after a move that left this record and these rows
pub record Hands (c : ℕ) (h : Holders) (s : Rows) (g : Given) (h' : Holders) (s' : Rows) : Type 0 where
  pub may : MayHand c h s g
  pub must : MustHand c h s g
  pub rows : s' ≡ rows_handed c g s
  pub held : h' ≡ flagged c s' (held_handed c g s h)

-- this may be given beside a read hold: the lock to the parked readers
abbrev pub MayShare : ℕ → Rows → Given → Type 0
MayShare c s Nobody = Unit {0}
MayShare c s (Writer p) = ⊥
MayShare c s Readers = is_empty (readers_of s c) ≡ false

-- a hand-over beside a read hold, after a move that left this record and these rows
pub record HandsBeside (c : ℕ) (h : Holders) (s : Rows) (g : Given) (h' : Holders) (s' : Rows) : Type 0 where
  pub may : MayShare c s g
  pub rows : s' ≡ rows_handed c g s
  pub held : h' ≡ flagged c s' (held_handed c g s h)

-- a write hold becomes a read hold
abbrev pub Downgrades : ℕ → Phase → Holders → Rows → Given → Holders → Rows → Type 0
Downgrades c q h s g h' s' = HandsBeside c (downgrade q h) s g h' s'

-- a party that does not wait is given nothing
abbrev pub StayFree : Rows → Rows → Type 0
StayFree old new = (p : ℕ) → (row_of old p).waiting ≡ Free → (row_of new p).waiting ≡ Free

-- ---- what a locker chooses

-- the parked readers come first, else the writer that has been parked for longest
abbrev pub ReadersFirst : ℕ → Rows → Given → Type 0
ReadersFirst c s Nobody = Unit {0}
ReadersFirst c s (Writer p) = (is_empty (readers_of s c) ≡ true) × (first_of (writers_of s c) ≡ Some p)
ReadersFirst c s Readers = Unit {0}

-- nothing is given
abbrev pub GivesNothing : ℕ → Rows → Given → Type 0
GivesNothing c s g = g ≡ Nobody
