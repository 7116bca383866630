-- What is kept of the locker of a locked cell, and how its calls come in.
use Rattle.std.specs.Prelude.{◌≡◌, Bool, true, if◌then◌else◌, Option, Some, None, Result, Ok, Err}
use Rattle.std.specs.Option.{ForSome}
use Rattle.phase_bits.specs.declared.phase.Phase.{Phase}
use Rattle.phase_bits.specs.declared.holders.Holders.{Holders}
use Rattle.phase_bits.specs.Number.{IsKnown}
use Rattle.phase_locker.specs.declared.tickets.ReadTicket.{ReadTicket}
use Rattle.phase_locker.specs.declared.tickets.WriteTicket.{WriteTicket}
use Rattle.phase_locker.specs.Natures.{read_ticket, write_ticket}
use Rattle.phase_seq.specs.declared.init_error.InitError.{InitError}
use Rattle.phase_seq.specs.declared.init_error.InitError.TheVariants.{Failed, Borrowed}
use Rattle.lazy_cells.specs.Cells.{is_there}
use Rattle.lazy_cells.specs.Kinds.{is_within_reach}
use Rattle.lazy_cells.specs.Locked.{Locked, reads, writes, rests, publishes, Entry, Barred, Fails, Enters}
use Rattle.lazy_cells.specs.Access.{reached}

-- the phase that is published next by a cell with this phase
abbrev pub next_of : Phase → Option Phase → Phase
next_of p None = p
next_of p (Some q) = q

-- a writer is alone, and a phase is to be published exactly where there is one
pub record IsGuarded (h : Holders) (next : Option Phase) : Type 0 where
  pub alone : h.locked ≡ true → h.readers ≡ 0
  pub due : h.locked ≡ is_there next
  pub known : ForSome next IsKnown

-- the cell of this record
abbrev pub cell_of : {T G P : Type 0} → Holders → Option Phase → Option T → G → P → Locked T G P
cell_of h next v g m = record { phase = h.phase; value = v; readers = h.readers; writing = h.locked; next = next_of h.phase next; generator = g; marker = m }

-- a lock and the phase at which it is held
abbrev pub with_lock : {K : Type 0} → K → Entry → Result (K × Phase) InitError
with_lock t Barred = Err Borrowed
with_lock t (Fails p) = Err Failed
with_lock t (Enters p) = Ok (t, p)

abbrev pub to_read : Entry → Result (ReadTicket × Phase) InitError
to_read = with_lock read_ticket

abbrev pub to_write : Entry → Result (WriteTicket × Phase) InitError
to_write = with_lock write_ticket

-- the cell that the call is in, to read or to write
abbrev pub in_to_read : {T G P : Type 0} → Entry → Locked T G P → Locked T G P
in_to_read Barred c = c
in_to_read (Fails p) c = rests p c
in_to_read (Enters p) c = reads p c

abbrev pub in_to_write : {T G P : Type 0} → Entry → Locked T G P → Locked T G P
in_to_write Barred c = c
in_to_write (Fails p) c = rests p c
in_to_write (Enters p) c = writes p c

-- ---- what is kept of a lock. `hard` says whether a finalizer takes the value out of reach

-- the ticket, where the value is in reach
abbrev pub kept : {K : Type 0} → Bool → Result (K × Phase) InitError → Result K InitError
kept hard (Ok d) = reached hard d.0 d.1
kept hard (Err e) = Err e

-- the phase alone
abbrev pub kept_phase : {K : Type 0} → Bool → Result (K × Phase) InitError → Result Phase InitError
kept_phase hard (Ok d) = reached hard d.1 d.1
kept_phase hard (Err e) = Err e

-- the ticket, in an Err where the value is not in reach
abbrev pub kept_primed : Bool → Result (ReadTicket × Phase) InitError → Result (Result ReadTicket ReadTicket) InitError
kept_primed hard (Ok d) = Ok (if is_within_reach hard d.1 then Ok d.0 else Err d.0)
kept_primed hard (Err e) = Err e

-- the ticket, or a read ticket in an Err where the value is not in reach
abbrev pub kept_primed_write : Bool → Result (WriteTicket × Phase) InitError → Result (Result WriteTicket ReadTicket) InitError
kept_primed_write hard (Ok d) = Ok (if is_within_reach hard d.1 then Ok d.0 else Err read_ticket)
kept_primed_write hard (Err e) = Err e

-- the cell, which this is done to where the value is not in reach
abbrev pub left_kept : {T G P K : Type 0} → (Locked T G P → Locked T G P) → Bool → Result (K × Phase) InitError → Locked T G P → Locked T G P
left_kept back hard (Ok d) c = if is_within_reach hard d.1 then c else back c
left_kept back hard (Err e) c = c

-- the cell, whose write ticket is given back
abbrev pub left_published : {T G P K : Type 0} → Result (K × Phase) InitError → Locked T G P → Locked T G P
left_published (Ok d) c = publishes c
left_published (Err e) c = c
