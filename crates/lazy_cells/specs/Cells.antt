-- A cell of one party, and what its calls do.
use Rattle.std.specs.Prelude.{◌≡◌, ℕ, ◌<◌, Bool, true, false, MatchBool, Option, Some, None, Result, Ok, Err}
use Rattle.std.specs.Borrow.{Bor, MutBor}
use Rattle.phase_bits.specs.declared.phase.Phase.{Phase}
use Rattle.phase_bits.specs.declared.holders.Holders.{Holders}
use Rattle.phase_bits.specs.declared.access_error.AccessError.{AccessError}
use Rattle.phase_bits.specs.Flags.{has, initialized}
use Rattle.phase_bits.specs.Number.{number}
use Rattle.exit_registry.specs.Registry.{Registry, cells_of, is_known}
use Rattle.phase_locker.specs.Fits.{IsIdle}
use Rattle.phase_seq.specs.declared.generator.InitFault.{InitFault}
use Rattle.phase_seq.specs.declared.init_error.InitError.{InitError}
use Rattle.phase_seq.specs.declared.init_error.InitError.TheVariants.{Access, Failed}
use Rattle.phase_seq.specs.declared.tolerance.Tolerance.{Tolerance}
use Rattle.phase_seq.specs.Asks.{shall_init}
use Rattle.phase_seq.specs.Direct.{reached_by, Came}

-- what is seen of a cell: its phase, its value, its generator, and the marker of its kind
pub record Cell (T G P : Type 0) : Type 0 where
  pub phase : Phase
  pub value : Option T
  pub generator : G
  pub marker : P

-- the value is there
abbrev pub is_there : {T : Type 0} → Option T → Bool
is_there None = false
is_there (Some v) = true

-- what is kept of a plain cell: nobody holds it, and its value is there exactly where its phase says so
pub record IsKept {T : Type 0} (h : Holders) (body : Option T) : Type 0 where
  pub idle : IsIdle h
  pub there : is_there body ≡ has (number h.phase) initialized

-- a cell of this phase may be registered under this number: while its phase is empty it is not known
pub record MayBeRegistered (c : ℕ) (p : Phase) (m : Registry) : Type 0 where
  pub inside : c < cells_of m
  pub unknown : number p ≡ 0 → is_known m c ≡ false

-- ---- what a call shows

-- the value, or why it can't be reached
abbrev pub shown : {T : Type 0} → Phase → Option T → Result T InitError
shown p (Some v) = Ok v
shown p None = Err (Access (record { phase = p }))

-- the same, of a call that runs nothing
abbrev pub looked : {T : Type 0} → Phase → Option T → Result T AccessError
looked p (Some v) = Ok v
looked p None = Err (record { phase = p })

-- what a reference shows
abbrev pub seen : {T E : Type 0} → Result (Bor T) E → Result T E
seen (Ok r) = Ok r.now
seen (Err e) = Err e

abbrev pub seen_mut : {T E : Type 0} → Result (MutBor T) E → Result T E
seen_mut (Ok r) = Ok r.now
seen_mut (Err e) = Err e

-- ---- a call that asks for a run

-- the value after a run: that which was made, or the one that was there
abbrev pub value_by : {T : Type 0} → Result (Option T) InitFault → Option T → Option T
value_by (Ok None) old = old
value_by (Ok (Some v)) old = Some v
value_by (Err e) old = old

-- what is said after a run, or where none is due: `get` shows the value
abbrev pub say_value : {T G P : Type 0} → Result (Option T) InitFault → Cell T G P → Result T InitError
say_value (Ok o) c = shown c.phase c.value
say_value (Err e) c = Err Failed

-- `init` says the phase
abbrev pub say_phase : {T G P : Type 0} → Result (Option T) InitFault → Cell T G P → Result Phase InitError
say_phase (Ok o) c = Ok c.phase
say_phase (Err e) c = Err Failed

-- a run was due, beside these flags: the generator ran, or did not, since the cell is refused
pub record HasRun {T G P A : Type 0} (attempts : G → Result T InitFault → G → Type 0) (say : Result (Option T) InitFault → Cell T G P → A) (stays : Option Phase) (old : Cell T G P) (r : A) (new : Cell T G P) : Type 0 where
  pub ran : Result (Option T) InitFault
  pub came : Came attempts stays old.generator ran new.generator
  pub phase : new.phase ≡ reached_by stays ran
  pub value : new.value ≡ value_by ran old.value
  pub marker : new.marker ≡ old.marker
  pub answer : r ≡ say ran new

-- nothing changes
pub record HasNone {T G P A : Type 0} (say : Result (Option T) InitFault → Cell T G P → A) (old : Cell T G P) (r : A) (new : Cell T G P) : Type 0 where
  pub same : new ≡ old
  pub answer : r ≡ say (Ok None) old

-- a call that asks for a run where one is due
abbrev pub Asks : {T G P A : Type 0} → (G → Result T InitFault → G → Type 0) → (Result (Option T) InitFault → Cell T G P → A) → Tolerance → Option Phase → Cell T G P → A → Cell T G P → Type 0
Asks attempts say t stays old r new = MatchBool (shall_init t old.phase) (HasRun attempts say stays old r new) (HasNone say old r new)

-- the value that was shown
abbrev pub value_shown : {T E : Type 0} → Result T E → Option T
value_shown (Ok v) = Some v
value_shown (Err e) = None

-- a cell whose value was lent ends with what was then written, and besides as the call left it, with the value that it
-- showed
pub record EndsWith {T G P : Type 0} (attempts : G → Result T InitFault → G → Type 0) (t : Tolerance) (stays : Option Phase) (old : Cell T G P) (r : Result T InitError) (w : T) (n : Cell T G P) : Type 0 where
  pub asks : Asks attempts say_value t stays old r (record n { value = value_shown r })
  pub written : n.value ≡ Some w
