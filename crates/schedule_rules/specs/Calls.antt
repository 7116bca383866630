-- What is asked of the sequentializer, by the call table of the lazies. The lock that it wants at a phase, whether it asks for a run
-- there, and as what it is woken, are the sequentializer's own rules of what is asked.
use Rattle.std.specs.Prelude.{ℕ, Bool, false}
use Rattle.std.specs.declared.option.Option.{Option}
use Rattle.std.specs.declared.option.Option.TheVariants.{None, Some}
use Rattle.phase_bits.specs.Number.{phase_of}
use Rattle.phase_locker.specs.declared.tickets.LockNature.{LockNature}
use Rattle.phase_locker.specs.declared.tickets.LockNature.TheVariants as nature
use Rattle.phase_locker.specs.declared.ways.How.{How}
use Rattle.phase_locker.specs.declared.ways.How.TheVariants as how
use Rattle.phase_seq.specs.declared.tolerance.Tolerance.{Tolerance}
use Rattle.phase_seq.specs.declared.ask.Want.{Want as Sought}
use Rattle.phase_seq.specs.declared.ask.Want.TheVariants as sought
use Rattle.phase_seq.specs.declared.ask.Ask.{Ask}
use Rattle.phase_seq.specs.Asks.{initializes as run_sought, asks_run, nature_of, wake_of}
use Rattle.lazy_cells.specs.declared.kind.Kind.{Kind}
use Rattle.lazy_cells.specs.Calls.{seeks as call_seeks, is_fast as is_fast_call, asking}
use Rattle.schedule_rules.specs.declared.step.Want.{Want}
use Rattle.schedule_rules.specs.declared.step.Want.TheVariants.{Calls, Turns}

-- what is sought of a cell of this kind: nothing, where it is looked at as it is
abbrev pub seeks : Kind → Want → Option Sought
seeks q (Calls k) = call_seeks q k
seeks q Turns = Some sought.Finalize

-- it does not wait
abbrev pub is_fast : Want → Bool
is_fast (Calls k) = is_fast_call k
is_fast Turns = false

-- what is asked of a cell of this kind that puts up with this
abbrev pub ask_of : Kind → Tolerance → Want → Option Ask
ask_of q t w = asking (seeks q w) (is_fast w) t

-- ---- the sequentializer's rules of what is asked

-- what is sought asks for a run where one is due
abbrev pub seeks_run : Option Sought → Bool
seeks_run None = false
seeks_run (Some s) = run_sought s

-- the call asks for a run where one is due
abbrev pub initializes : Kind → Want → Bool
initializes q w = seeks_run (seeks q w)

-- a run is asked at this phase
abbrev pub run_asked : Option Ask → ℕ → Bool
run_asked None p = false
run_asked (Some a) p = asks_run a (phase_of p)

-- the same of whatever is attempted at a cell of this kind that puts up with this
abbrev pub asks : Kind → Tolerance → Want → ℕ → Bool
asks q t w p = run_asked (ask_of q t w) p

-- the lock that is wanted at this phase
abbrev pub lock_asked : Option Ask → ℕ → LockNature
lock_asked None p = nature.None
lock_asked (Some a) p = nature_of a (phase_of p)

-- the same of whatever is attempted at a cell of this kind that puts up with this
abbrev pub lock_wanted : Kind → Tolerance → Want → ℕ → LockNature
lock_wanted q t w p = lock_asked (ask_of q t w) p

-- as what a parked call is woken that seeks this
abbrev pub woken_as : Option Sought → LockNature
woken_as None = nature.None
woken_as (Some s) = wake_of s

-- the same of whatever is attempted
abbrev pub wakes_as : Kind → Want → LockNature
wakes_as q w = woken_as (seeks q w)

-- a call parks to be woken so. None does not occur: what wants no lock is not barred
abbrev pub way_of_nature : LockNature → How
way_of_nature nature.None = how.ParkedRead
way_of_nature nature.Read = how.ParkedRead
way_of_nature nature.Write = how.ParkedWrite
