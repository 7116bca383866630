-- What the calls on a locked cell answer and leave. `hard` says whether a finalizer takes the value out of reach.
use Rattle.std.specs.Prelude.{◌≡◌, ◌<◌, Bool, true, false, if◌then◌else◌, Option, Some, None, Result, Ok, Err}
use Rattle.phase_bits.specs.declared.phase.Phase.{Phase}
use Rattle.phase_bits.specs.declared.access_error.AccessError.{AccessError}
use Rattle.phase_locker.specs.declared.tickets.ReadTicket.{ReadTicket}
use Rattle.phase_locker.specs.declared.tickets.WriteTicket.{WriteTicket}
use Rattle.phase_locker.specs.Natures.{read_ticket, write_ticket}
use Rattle.phase_seq.specs.declared.generator.InitFault.{InitFault}
use Rattle.phase_seq.specs.declared.init_error.InitError.{InitError}
use Rattle.phase_seq.specs.declared.init_error.InitError.TheVariants.{Access, Failed, Cyclic, Borrowed}
use Rattle.phase_seq.specs.declared.tolerance.Tolerance.{Tolerance}
use Rattle.phase_seq.specs.Direct.{unless_borrowed}
use Rattle.lazy_cells.specs.Kinds.{is_within_reach}
use Rattle.lazy_cells.specs.Cells.{value_shown}
use Rattle.lazy_cells.specs.Locked.{Locked, bars_write, reads, writes, rests, Entry, Barred, Fails, Enters, Calls}

-- ---- what is answered

-- this, where the value is in reach at the phase, and else why it is not
abbrev pub reached : {A : Type 0} → Bool → A → Phase → Result A InitError
reached hard a p = if is_within_reach hard p then Ok a else Err (Access (record { phase = p }))

-- a read guard
abbrev pub say_read : Bool → Entry → Result ReadTicket InitError
say_read hard Barred = Err Borrowed
say_read hard (Fails p) = Err Failed
say_read hard (Enters p) = reached hard read_ticket p

-- a write guard
abbrev pub say_write : Bool → Entry → Result WriteTicket InitError
say_write hard Barred = Err Borrowed
say_write hard (Fails p) = Err Failed
say_write hard (Enters p) = reached hard write_ticket p

-- the phase
abbrev pub say_init : Bool → Entry → Result Phase InitError
say_init hard Barred = Err Borrowed
say_init hard (Fails p) = Err Failed
say_init hard (Enters p) = reached hard p p

-- a read guard, or an Err of one
abbrev pub say_primed_read : Bool → Entry → Result (Result ReadTicket ReadTicket) InitError
say_primed_read hard Barred = Err Borrowed
say_primed_read hard (Fails p) = Err Failed
say_primed_read hard (Enters p) = Ok (if is_within_reach hard p then Ok read_ticket else Err read_ticket)

-- a write guard, or an Err of a read guard
abbrev pub say_primed_write : Bool → Entry → Result (Result WriteTicket ReadTicket) InitError
say_primed_write hard Barred = Err Borrowed
say_primed_write hard (Fails p) = Err Failed
say_primed_write hard (Enters p) = Ok (if is_within_reach hard p then Ok write_ticket else Err read_ticket)

-- the same of a call that runs nothing and answers nothing where it is barred: the guard, or why the value is not in reach
abbrev pub unless_barred : {A : Type 0} → Result A InitError → Option (Result A AccessError)
unless_barred (Ok a) = Some (Ok a)
unless_barred (Err (Access e)) = Some (Err e)
unless_barred (Err Failed) = None
unless_barred (Err Cyclic) = None
unless_barred (Err Borrowed) = None

-- ---- the calls that do not wait: nothing where they are barred

abbrev pub say_fast_read : Bool → Entry → Option (Result ReadTicket InitError)
say_fast_read hard e = unless_borrowed (say_read hard e)

abbrev pub say_fast_write : Bool → Entry → Option (Result WriteTicket InitError)
say_fast_write hard e = unless_borrowed (say_write hard e)

abbrev pub say_fast_try_read : Bool → Entry → Option (Result ReadTicket AccessError)
say_fast_try_read hard e = unless_barred (say_read hard e)

abbrev pub say_fast_try_write : Bool → Entry → Option (Result WriteTicket AccessError)
say_fast_try_write hard e = unless_barred (say_write hard e)

-- ---- what is left

-- a read ticket is open, where the value is in reach
abbrev pub left_read : {T G P : Type 0} → Bool → Entry → Locked T G P → Locked T G P
left_read hard Barred c = c
left_read hard (Fails p) c = rests p c
left_read hard (Enters p) c = if is_within_reach hard p then reads p c else rests p c

-- a write ticket is
abbrev pub left_write : {T G P : Type 0} → Bool → Entry → Locked T G P → Locked T G P
left_write hard Barred c = c
left_write hard (Fails p) c = rests p c
left_write hard (Enters p) c = if is_within_reach hard p then writes p c else rests p c

-- nothing is
abbrev pub left_init : {T G P : Type 0} → Entry → Locked T G P → Locked T G P
left_init Barred c = c
left_init (Fails p) c = rests p c
left_init (Enters p) c = rests p c

-- a read ticket is, in reach or not
abbrev pub left_primed_read : {T G P : Type 0} → Entry → Locked T G P → Locked T G P
left_primed_read Barred c = c
left_primed_read (Fails p) c = rests p c
left_primed_read (Enters p) c = reads p c

-- a write ticket is where the value is in reach, else a read ticket
abbrev pub left_primed_write : {T G P : Type 0} → Bool → Entry → Locked T G P → Locked T G P
left_primed_write hard Barred c = c
left_primed_write hard (Fails p) c = rests p c
left_primed_write hard (Enters p) c = if is_within_reach hard p then writes p c else reads p c

-- ---- which ticket an answer opens

-- a write ticket, or a read ticket in an Err
abbrev pub OpensEither : {T G P : Type 0} → Result (Result WriteTicket ReadTicket) InitError → Locked T G P → Type 0
OpensEither (Ok (Ok t)) c = c.writing ≡ true
OpensEither (Ok (Err t)) c = 0 < c.readers
OpensEither (Err e) c = Unit {0}

-- ---- the value lent to the owner of a cell of which no ticket is open

-- the value, where the cell is initialized
abbrev pub lent : {T : Type 0} → Result Phase InitError → Option T → Result T InitError
lent (Ok p) (Some v) = Ok v
lent (Ok p) None = Err (Access (record { phase = p }))
lent (Err e) o = Err e

-- the cell is initialized, and this shown
pub record Shows {T G P : Type 0} (attempts : G → Result T InitFault → G → Type 0) (t : Tolerance) (stays : Option Phase) (old : Locked T G P) (r : Result T InitError) (new : Locked T G P) : Type 0 where
  pub told : Result Phase InitError
  pub calls : Calls attempts t stays bars_write (say_init false) left_init old told new
  pub shown : r ≡ lent told new.value

-- a cell whose value was lent ends with what was then written, and besides as the call left it, with the value that it
-- showed
pub record EndsWith {T G P : Type 0} (attempts : G → Result T InitFault → G → Type 0) (t : Tolerance) (stays : Option Phase) (old : Locked T G P) (r : Result T InitError) (w : T) (n : Locked T G P) : Type 0 where
  pub shows : Shows attempts t stays old r (record n { value = value_shown r })
  pub written : n.value ≡ Some w
