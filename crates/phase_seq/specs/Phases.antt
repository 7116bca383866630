-- The phases that runs and finalizers reach.
use Rattle.std.specs.Prelude.{ℕ, ◌==◌, Bool, ◌||◌, if◌then◌else◌}
use Rattle.std.specs.Int.RustNames.{bit_or}
pub use Rattle.phase_bits.specs.Flags.{registered, registration_refused, finalized_flag, finalization_panicked}
use Rattle.phase_bits.specs.Flags.{has, without_flags, initialized, initialization_panicked, initialization_skiped}
use Rattle.phase_bits.specs.Number.{number, phase_of}
use Rattle.phase_bits.specs.declared.phase.Phase.{Phase}

-- the flags that a run may set
abbrev pub initialization_flags : ℕ
initialization_flags = bit_or initialized (bit_or initialization_panicked initialization_skiped)

-- the flags that a run sets
abbrev pub outcome : Bool → ℕ
outcome made = if made then initialized else bit_or initialization_panicked initialization_skiped

-- the flags after a run, beside those that stay
abbrev pub flags_reached : ℕ → Bool → ℕ
flags_reached stays made = bit_or stays (outcome made)

-- the phase that a run reaches beside the flags that stay
abbrev pub reached : Phase → Bool → Phase
reached stays made = phase_of (flags_reached (number stays) made)

-- the flag that a finalizer sets
abbrev pub final_outcome : Bool → ℕ
final_outcome fine = if fine then finalized_flag else finalization_panicked

-- the flags after a finalizer
abbrev pub flags_finalized : ℕ → Bool → ℕ
flags_finalized p fine = bit_or p (final_outcome fine)

-- the phase that a finalizer reaches
abbrev pub finalized : Phase → Bool → Phase
finalized p fine = phase_of (flags_finalized (number p) fine)

-- no flag stays on a cell without a registry
abbrev pub unregistered : Phase
unregistered = phase_of 0

-- the flag that registration sets where the registry is open, and where it is closed
abbrev pub registration : Bool → ℕ
registration is_open = if is_open then registered else registration_refused

-- the flags that stay beside those of a run, on a cell with these: those of the registration, which is tried where there
-- are none, in a registry that is open or closed
abbrev pub flags_staying : Bool → ℕ → ℕ
flags_staying is_open p = if p == 0 then registration is_open else without_flags p initialization_flags

-- the same, of a cell of this phase
abbrev pub staying : Bool → Phase → Phase
staying is_open p = phase_of (flags_staying is_open (number p))

-- the flags of a cell that could not be registered, and that no generator runs for
abbrev pub flags_refused : ℕ
flags_refused = bit_or registration_refused initialization_skiped

-- the phase of such a cell
abbrev pub refused : Phase
refused = phase_of flags_refused

-- the generator of a cell whose flags stay so runs: the cell is registered, or puts up with not being it
abbrev pub flags_generate : Bool → ℕ → Bool
flags_generate leak stays = has stays registered || leak

-- the same, of a phase
abbrev pub may_generate : Bool → Phase → Bool
may_generate leak stays = flags_generate leak (number stays)
