-- What a call wants, by a rule that its caller gives, and what it then gets.
use Rattle.std.specs.Prelude.{◌≡◌, Bool, false, Option, Some, None as Nothing, if◌then◌else◌}
use Rattle.phase_bits.specs.declared.phase.Phase.{Phase}
use Rattle.phase_bits.specs.declared.holders.Holders.{Holders}
use Rattle.phase_bits.specs.Number.{IsKnown}
use Rattle.phase_bits.specs.Records.{bars_read, bars_write, admit_read, admit_write}
use Rattle.phase_locker.specs.declared.tickets.LockNature.{LockNature}
use Rattle.phase_locker.specs.declared.tickets.LockNature.TheVariants.{Read, Write, None}
use Rattle.phase_locker.specs.declared.tickets.LockResult.{LockResult}
use Rattle.phase_locker.specs.declared.tickets.LockResult.TheVariants.{Read as GotRead, Write as GotWrite, None as GotNone}
use Rattle.phase_locker.specs.declared.tickets.ReadTicket.{ReadTicket}
use Rattle.phase_locker.specs.declared.tickets.WriteTicket.{WriteTicket}

-- the rule may be called on every phase without a bit above the flags
abbrev pub MayJudge : (Phase → Type 0) → Type 0
MayJudge pre = (p : Phase) → IsKnown p → pre p

-- on every phase without a bit above the flags, the promise of the rule allows one nature
abbrev pub IsRule : (Phase → LockNature → Type 0) → Type 0
IsRule post = (p : Phase) → IsKnown p → (n m : LockNature) → post p n → post p m → m ≡ n

-- the record bars a call of this nature
abbrev pub bars : Holders → LockNature → Bool
bars h Read = bars_read h
bars h Write = bars_write h
bars h None = false

-- the record after a call of this nature is admitted
abbrev pub admitted : Holders → LockNature → Holders
admitted h Read = admit_read h
admitted h Write = admit_write h
admitted h None = h

-- a ticket to read: each is like any other
abbrev pub read_ticket : ReadTicket
read_ticket = record { held = tt }

-- a ticket to write
abbrev pub write_ticket : WriteTicket
write_ticket = record { held = tt }

-- what an admitted call of this nature gets
abbrev pub got : LockNature → Phase → LockResult ReadTicket WriteTicket
got Read p = GotRead read_ticket
got Write p = GotWrite write_ticket
got None p = GotNone p

-- a call that does not wait: it gets nothing exactly where the nature that its rule gives is barred. A phase that it gets
-- has no bit above the eight flags
pub record Tries (post : Phase → LockNature → Type 0) (h : Holders) (result : Option (LockResult ReadTicket WriteTicket)) (h' : Holders) : Type 0 where
  pub nature : LockNature
  pub allowed : post h.phase nature
  pub answer : result ≡ (if bars h nature then Nothing else Some (got nature h.phase))
  pub held : h' ≡ (if bars h nature then h else admitted h nature)
  pub known : IsKnown h.phase
