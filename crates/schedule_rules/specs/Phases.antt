-- When a run of a generator comes, and the phases that runs and finalizers reach.
use Rattle.std.specs.Prelude.{ℕ, Bool, true, false, not, ◌==◌, ◌&&◌, ◌||◌, is_some, if◌then◌else◌}
use Rattle.phase_seq.specs.declared.tolerance.Tolerance.{Tolerance}
use Rattle.phase_seq.specs.Phases.{flags_reached, flags_staying, flags_refused, flags_generate, flags_finalized}
use Rattle.std.specs.declared.option.Option.{Option}
use Rattle.phase_bits.specs.Number.{phase_of}
use Rattle.lazy_cells.specs.declared.kind.Kind.{Kind}
use Rattle.lazy_cells.specs.Kinds.{is_finalizable, is_hard, is_primed, is_accessible as is_accessible_at}

-- the value of a cell of this kind may be accessed
abbrev pub is_accessible : Kind → ℕ → Bool
is_accessible k p = is_accessible_at k (phase_of p)

-- a run that is asked at this phase tries to register its cell for the exit
abbrev pub tries_registration : Kind → ℕ → Bool
tries_registration k p = is_finalizable k && (p == 0)

-- the flags that stay beside those of a run: those of registration, on a kind that is registered. The registry is open
-- or closed
abbrev pub flags_kept : Kind → Bool → ℕ → ℕ
flags_kept k is_open p = if is_finalizable k then flags_staying is_open p else 0

-- a run that is asked at this phase runs the generator: of a kind that is registered, the cell is registered, or puts up
-- with not being it
abbrev pub runs_generator : Kind → Tolerance → Bool → ℕ → Bool
runs_generator k t is_open p = if is_finalizable k then flags_generate t.leak (flags_kept k is_open p) else true

-- how a run that is asked ended
pub data Outcome : Type 0 where
  Success : Outcome
  Failure : Outcome
  NoRun : Outcome  -- no generator ran

-- the phase that it reaches from this phase, by whether the registry was open
abbrev pub phase_reached : Kind → Bool → ℕ → Outcome → ℕ
phase_reached k is_open p Success = flags_reached (flags_kept k is_open p) true
phase_reached k is_open p Failure = flags_reached (flags_kept k is_open p) false
phase_reached k is_open p NoRun = flags_refused

-- the value that a finalizer leaves: a hard kind keeps no other than the one that it left
abbrev pub value_finalized : Kind → Option ℕ → Option ℕ → Option ℕ
value_finalized k left v = if is_hard k then left else v

-- a finalizer of this kind leaves a value
abbrev pub leaves_value : Kind → Bool
leaves_value k = is_hard k && is_primed k

-- a finalizer of this kind may fail. One that drops the value does not
abbrev pub may_fail : Kind → Bool
may_fail k = not (is_hard k) || is_primed k

-- a finalizer of this kind may end so: it succeeds or fails, and leaves a value or none
abbrev pub finishes_so : Kind → Bool → Option ℕ → Bool
finishes_so k fine left = (if leaves_value k then is_some left else not (is_some left)) && (fine || may_fail k)

-- the phase that a finalizer reaches, which succeeds or fails
abbrev pub phase_finalized : ℕ → Bool → ℕ
phase_finalized p fine = flags_finalized p fine
