-- A locked cell of one party, and what its calls do.
use Rattle.std.specs.Prelude.{◌≡◌, ℕ, ◌+◌, ◌-◌, ◌<◌, ◌==◌, Bool, true, false, not, ◌&&◌, ◌||◌, if◌then◌else◌, MatchBool, Option, Result, Ok, Err}
use Rattle.phase_bits.specs.declared.phase.Phase.{Phase}
use Rattle.phase_bits.specs.Number.{number}
use Rattle.phase_bits.specs.Records.{most_readers}
use Rattle.exit_registry.specs.Registry.{Registry, cells_of, is_known}
use Rattle.phase_seq.specs.declared.generator.InitFault.{InitFault}
use Rattle.phase_seq.specs.declared.tolerance.Tolerance.{Tolerance}
use Rattle.phase_seq.specs.Asks.{shall_init}
use Rattle.phase_seq.specs.Phases.{unregistered}
use Rattle.phase_seq.specs.Direct.{reached_by, Came}
use Rattle.lazy_cells.specs.Cells.{value_by}

-- what is seen of a locked cell: its phase and its value; how many read tickets are open, and whether a write ticket is;
-- the phase that the release of the write ticket will publish, which is the cell's own where none is open; its generator,
-- and the marker of its kind
pub record Locked (T G P : Type 0) : Type 0 where
  pub phase : Phase
  pub value : Option T
  pub readers : ℕ
  pub writing : Bool
  pub next : Phase
  pub generator : G
  pub marker : P

-- a new cell with this value
abbrev pub new_cell : {T G P : Type 0} → Option T → G → P → Locked T G P
new_cell v g m = record { phase = unregistered; value = v; readers = 0; writing = false; next = unregistered; generator = g; marker = m }

-- a call that wants to read is barred: somebody writes, or the readers are at the limit
abbrev pub bars_read : {T G P : Type 0} → Locked T G P → Bool
bars_read c = c.writing || (c.readers == most_readers)

-- a call that wants to write is barred: a ticket is open
abbrev pub bars_write : {T G P : Type 0} → Locked T G P → Bool
bars_write c = c.writing || not (c.readers == 0)

-- ---- moves

-- the phase is published, and a read ticket opened
abbrev pub reads : {T G P : Type 0} → Phase → Locked T G P → Locked T G P
reads p c = record c { phase = p; next = p; writing = false; readers = c.readers + 1 }

-- a write ticket is opened, whose release will publish the phase
abbrev pub writes : {T G P : Type 0} → Phase → Locked T G P → Locked T G P
writes p c = record c { writing = true; next = p }

-- the phase is published, and no write ticket is open
abbrev pub rests : {T G P : Type 0} → Phase → Locked T G P → Locked T G P
rests p c = record c { phase = p; next = p; writing = false }

-- a read ticket is given back
abbrev pub releases : {T G P : Type 0} → Locked T G P → Locked T G P
releases c = record c { readers = c.readers - 1 }

-- the write ticket is given back
abbrev pub publishes : {T G P : Type 0} → Locked T G P → Locked T G P
publishes c = rests c.next c

-- the write ticket becomes a read ticket
abbrev pub downgrades : {T G P : Type 0} → Locked T G P → Locked T G P
downgrades c = reads c.next c

-- ---- how a call comes in

-- it is barred; or the generator failed, and this phase is reached; or it has its lock, at this phase
pub data Entry : Type 0 where
  Barred : Entry
  Fails : Phase → Entry
  Enters : Phase → Entry

-- a call that takes the cell as it is
abbrev pub tried : {T G P : Type 0} → (Locked T G P → Bool) → Locked T G P → Entry
tried bars c = if bars c then Barred else Enters c.phase

-- a run, by what came of it, reached this phase
abbrev pub entry_by : {T : Type 0} → Phase → Result (Option T) InitFault → Entry
entry_by p (Ok v) = Enters p
entry_by p (Err e) = Fails p

-- the cell takes the value that a run made, and what it left of the generator
abbrev pub made_by : {T G P : Type 0} → Result (Option T) InitFault → G → Locked T G P → Locked T G P
made_by ran left c = record c { value = value_by ran c.value; generator = left }

-- a run was due, beside these flags: the generator ran, or did not, since the cell is refused
pub record HasRun {T G P : Type 0} (attempts : G → Result T InitFault → G → Type 0) (stays : Option Phase) (old : Locked T G P) (e : Entry) (made : Locked T G P) : Type 0 where
  pub ran : Result (Option T) InitFault
  pub left : G
  pub came : Came attempts stays old.generator ran left
  pub entry : e ≡ entry_by (reached_by stays ran) ran
  pub takes : made ≡ made_by ran left old

-- nothing is run, and the call comes in so
pub record HasNone {T G P : Type 0} (due : Entry) (old : Locked T G P) (e : Entry) (made : Locked T G P) : Type 0 where
  pub entry : e ≡ due
  pub same : made ≡ old

-- a call that asks for a run where one is due, for which it writes; where none is due it is barred so
abbrev pub Comes : {T G P : Type 0} → (G → Result T InitFault → G → Type 0) → Tolerance → Option Phase → (Locked T G P → Bool) → Locked T G P → Entry → Locked T G P → Type 0
Comes attempts t stays bars old e made =
    MatchBool (shall_init t old.phase)
    (MatchBool (bars_write old) (HasNone Barred old e made) (HasRun attempts stays old e made))
    (HasNone (tried bars old) old e made)

-- ---- calls

-- a call, by what is answered and left for each way of coming in
pub record Calls {T G P A : Type 0} (attempts : G → Result T InitFault → G → Type 0) (t : Tolerance) (stays : Option Phase) (bars : Locked T G P → Bool) (say : Entry → A) (leave : Entry → Locked T G P → Locked T G P) (old : Locked T G P) (r : A) (new : Locked T G P) : Type 0 where
  pub entry : Entry
  pub made : Locked T G P
  pub comes : Comes attempts t stays bars old entry made
  pub answer : r ≡ say entry
  pub left : new ≡ leave entry made

-- a call of the cell as it is
pub record Tries {T G P A : Type 0} (bars : Locked T G P → Bool) (say : Entry → A) (leave : Entry → Locked T G P → Locked T G P) (old : Locked T G P) (r : A) (new : Locked T G P) : Type 0 where
  pub answer : r ≡ say (tried bars old)
  pub left : new ≡ leave (tried bars old) old

-- the cell may be registered where it is not yet: while its phase is empty and no write ticket is open it is not known
pub record MayEnlist {T G P : Type 0} (cell : ℕ) (c : Locked T G P) (m : Registry) : Type 0 where
  pub inside : cell < cells_of m
  pub unknown : number c.phase ≡ 0 → c.writing ≡ false → is_known m cell ≡ false

-- a call is admitted, and asks for a run
abbrev pub is_due : {T G P : Type 0} → Tolerance → Locked T G P → Bool
is_due t c = not (bars_write c) && shall_init t c.phase
