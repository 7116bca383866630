-- What a call asks of a cell.
use Rattle.std.specs.Prelude.{◌==◌, Bool, true, false, ◌&&◌, not, if◌then◌else◌}
use Rattle.phase_bits.specs.Flags.{has, initialized}
use Rattle.phase_bits.specs.Number.{number}
use Rattle.phase_bits.specs.declared.phase.Phase.{Phase}
use Rattle.phase_locker.specs.declared.tickets.LockNature.{LockNature}
use Rattle.phase_locker.specs.declared.tickets.LockNature.TheVariants as nature
use Rattle.phase_seq.specs.declared.tolerance.Tolerance.{Tolerance}
use Rattle.phase_seq.specs.declared.ask.Want.{Want}
use Rattle.phase_seq.specs.declared.ask.Want.TheVariants.{Init, Read, Write, ReadOnly, WriteOnly, Finalize}
use Rattle.phase_seq.specs.declared.ask.Ask.{Ask}

-- a run of the generator is due at this phase: with retry the value is not there, without it nothing was tried
abbrev pub shall_init : Tolerance → Phase → Bool
shall_init t p = if t.retry then not (has (number p) initialized) else (number p == 0)

-- a call with this want asks for a run where one is due
abbrev pub initializes : Want → Bool
initializes Init = true
initializes Read = true
initializes Write = true
initializes ReadOnly = false
initializes WriteOnly = false
initializes Finalize = false

-- a call with this want finalizes
abbrev pub finalizes : Want → Bool
finalizes Init = false
finalizes Read = false
finalizes Write = false
finalizes ReadOnly = false
finalizes WriteOnly = false
finalizes Finalize = true

-- the call asks for a run at this phase
abbrev pub asks_run : Ask → Phase → Bool
asks_run a p = initializes a.want && shall_init a.tol p

-- the call asks for the finalizer at this phase
abbrev pub asks_final : Ask → Phase → Bool
asks_final a p = finalizes a.want && has (number p) initialized

-- the nature of lock that is wanted where a run is due or not, and the value is there or not
abbrev pub nature_where : Want → Bool → Bool → LockNature
nature_where Init due there = if due then nature.Write else nature.None
nature_where Read due there = if due then nature.Write else nature.Read
nature_where Write due there = nature.Write
nature_where ReadOnly due there = nature.Read
nature_where WriteOnly due there = nature.Write
nature_where Finalize due there = if there then nature.Write else nature.None

-- the nature of lock that the call wants at this phase
abbrev pub nature_of : Ask → Phase → LockNature
nature_of a p = nature_where a.want (shall_init a.tol p) (has (number p) initialized)

-- by which nature a parked call is woken
abbrev pub wake_of : Want → LockNature
wake_of Init = nature.Read
wake_of Read = nature.Read
wake_of Write = nature.Write
wake_of ReadOnly = nature.Read
wake_of WriteOnly = nature.Write
wake_of Finalize = nature.Write
