-- How a party stands after its call, by what the locker gave.
use Rattle.std.proofs.Common.{◌≡◌, ℕ, ◌+◌, Bool, true, false, ◌&&◌, if◌then◌else◌, Option, Some, None, refl, arith, sym, ◌∙◌, ap}
use Rattle.phase_bits.specs.declared.phase.Phase.{Phase}
use Rattle.phase_bits.specs.declared.holders.Holders.{Holders}
use Rattle.phase_bits.specs.Number.{IsKnown}
use Rattle.phase_locker.specs.declared.tickets.LockNature.{LockNature}
use Rattle.phase_locker.specs.declared.tickets.LockNature.TheVariants as nature
use Rattle.phase_locker.specs.declared.tickets.LockResult.{LockResult}
use Rattle.phase_locker.specs.declared.tickets.LockResult.TheVariants as got
use Rattle.phase_locker.specs.declared.tickets.ReadTicket.{ReadTicket}
use Rattle.phase_locker.specs.declared.tickets.WriteTicket.{WriteTicket}
use Rattle.phase_locker.specs.declared.tickets.Attempt.{Attempt}
use Rattle.phase_locker.specs.declared.tickets.Attempt.TheVariants as attempt
use Rattle.phase_locker.specs.declared.ways.Who.{Who}
use Rattle.phase_locker.specs.declared.ways.LockerKind.{LockerKind}
use Rattle.phase_locker.specs.Natures.{bars, admitted, got as got_by, Tries}
use Rattle.phase_locker.specs.Rows.{Rows}
use Rattle.phase_locker.specs.Fits.{Fits, IsWriteOpen, open_reads}
use Rattle.phase_locker.specs.Stands.{IsOpen, Stands, Opens, reads_got, reads_opened, is_write, opens_write as attempt_writes}
use Rattle.phase_locker.proofs.Judging.{unheld}
use Rattle.phase_locker.proofs.Standing.{admitted_reads, admitted_writes}
use Rattle.phase_locker.proofs.Opening.{admitted_only}
use Rattle.phase_seq.specs.declared.ask.Want.{Want}
use Rattle.phase_seq.specs.declared.ask.Ask.{Ask}
use Rattle.phase_seq.specs.declared.section.Begun.{Begun}
use Rattle.phase_seq.specs.declared.section.Begun.TheVariants as begun
use Rattle.phase_seq.specs.Asks.{initializes, finalizes, asks_run}
use Rattle.phase_seq.specs.Phases.{unregistered}
use Rattle.phase_seq.specs.Begins.{section_by, begun_of, begun_by, begun_tried, running_after}
use Rattle.phase_seq.specs.Stands.{BegunStands, IsFree, reads_begun, begins_write}

both_left : (a b : Bool) → (a && b) ≡ true → a ≡ true
both_left true b e = refl
both_left false b e = cc

-- ---- what was got

-- what is begun with the lock to write
abbrev written : Bool → Bool → Who → Want → WriteTicket → Phase → Begun
written run final who want t p = if run then begun.Run (section_by who want unregistered t) else (if final then begun.Final (section_by who want p t) else begun.Write t p)

write_stands : (run final : Bool) (who : Who) (want : Want) (t : WriteTicket) (p : Phase) (running : Option ℕ) (h : Holders) (s : Rows) → (run ≡ true → initializes want ≡ true) → (final ≡ true → finalizes want ≡ true) → IsKnown p → IsFree who s → IsWriteOpen h s who.cell →
    BegunStands who (written run final who want t p) (running_after (written run final who want t p) running) h s
write_stands true final who want t p running h s asked ends known free held = (free, refl, record { party = refl; asked = asked refl; known = record { below = omega arith }; locked = held })
write_stands false true who want t p running h s asked ends known free held = (free, refl, record { asked = ends refl; locked = held })
write_stands false false who want t p running h s asked ends known free held = (free, held, known)

pub begun_of_stands : (who : Who) (ask : Ask) (p : Phase) (g : LockResult ReadTicket WriteTicket) (running : Option ℕ) (h : Holders) (s : Rows) → IsKnown p → IsFree who s → IsOpen g h s who.cell → BegunStands who (begun_of who ask p g) (running_after (begun_of who ask p g) running) h s
begun_of_stands who ask p (got.None q) running h s known free held = (free, held)
begun_of_stands who ask p (got.Read t) running h s known free held = (free, held, known)
begun_of_stands who ask p (got.Write t) running h s known free held = write_stands (asks_run ask p) (finalizes ask.want) who ask.want t p running h s (both_left _ _) (λ e. e) known free held

write_reads : (run final : Bool) (who : Who) (want : Want) (t : WriteTicket) (p : Phase) → reads_begun (written run final who want t p) ≡ 0
write_reads true final who want t p = refl
write_reads false true who want t p = refl
write_reads false false who want t p = refl

pub begun_of_reads : (who : Who) (ask : Ask) (p : Phase) (g : LockResult ReadTicket WriteTicket) → reads_begun (begun_of who ask p g) ≡ reads_got g
begun_of_reads who ask p (got.None q) = refl
begun_of_reads who ask p (got.Read t) = refl
begun_of_reads who ask p (got.Write t) = write_reads (asks_run ask p) (finalizes ask.want) who ask.want t p

write_writes : (run final : Bool) (who : Who) (want : Want) (t : WriteTicket) (p : Phase) → begins_write (written run final who want t p) ≡ true
write_writes true final who want t p = refl
write_writes false true who want t p = refl
write_writes false false who want t p = refl

pub begun_of_writes : (who : Who) (ask : Ask) (p : Phase) (g : LockResult ReadTicket WriteTicket) → begins_write (begun_of who ask p g) ≡ is_write g
begun_of_writes who ask p (got.None q) = refl
begun_of_writes who ask p (got.Read t) = refl
begun_of_writes who ask p (got.Write t) = write_writes (asks_run ask p) (finalizes ask.want) who ask.want t p

-- ---- an attempt

pub begun_by_stands : (who : Who) (ask : Ask) (p : Phase) (a : Attempt) (running : Option ℕ) (h : Holders) (s : Rows) → IsKnown p → Stands who a h s → BegunStands who (begun_by who ask p a) (running_after (begun_by who ask p a) running) h s
begun_by_stands who ask p (attempt.Wait how) running h s known stands = stands
begun_by_stands who ask p (attempt.Got g) running h s known stands = begun_of_stands who ask p g running h s known stands.0 stands.1

begun_by_reads : (who : Who) (ask : Ask) (p : Phase) (a : Attempt) → reads_begun (begun_by who ask p a) ≡ reads_opened a
begun_by_reads who ask p (attempt.Wait how) = refl
begun_by_reads who ask p (attempt.Got g) = begun_of_reads who ask p g

begun_by_writes : (who : Who) (ask : Ask) (p : Phase) (a : Attempt) → begins_write (begun_by who ask p a) ≡ attempt_writes a
begun_by_writes who ask p (attempt.Wait how) = refl
begun_by_writes who ask p (attempt.Got g) = begun_of_writes who ask p g

pub begun_by_opens : (who : Who) (ask : Ask) (p : Phase) (a : Attempt) (h : Holders) (s : Rows) (h' : Holders) (s' : Rows) → Opens who.cell (reads_opened a) (attempt_writes a) h s h' s' → Opens who.cell (reads_begun (begun_by who ask p a)) (begins_write (begun_by who ask p a)) h s h' s'
begun_by_opens who ask p a h s h' s' opens = rw (begun_by_reads who ask p a, begun_by_writes who ask p a) opens

-- ---- a call that does not wait

admitted_is_open : (n : LockNature) (k : LockerKind) (c : ℕ) (h : Holders) (s : Rows) → Fits k h s c → IsKnown h.phase → bars h n ≡ false → IsOpen (got_by n h.phase) (admitted h n) s c
admitted_is_open nature.Read k c h s fits known free = omega (arith, fits.shared)
admitted_is_open nature.Write k c h s fits known free = record { locked = refl; unclaimed = fits.locked (unheld h free).0 }
admitted_is_open nature.None k c h s fits known free = known

tried_at : (barred : Bool) (n : LockNature) (k : LockerKind) (who : Who) (ask : Ask) (running : Option ℕ) (h : Holders) (s : Rows) → bars h n ≡ barred → Fits k h s who.cell → IsKnown h.phase → IsFree who s →
    BegunStands who (begun_tried who ask h.phase (if barred then None else Some (got_by n h.phase))) (running_after (begun_tried who ask h.phase (if barred then None else Some (got_by n h.phase))) running) (if barred then h else admitted h n) s
tried_at true n k who ask running h s e fits known free = free
tried_at false n k who ask running h s e fits known free = begun_of_stands who ask h.phase (got_by n h.phase) running (admitted h n) s known free (admitted_is_open n k who.cell h s fits known e)

pub tried_stands : (k : LockerKind) (who : Who) (ask : Ask) (running : Option ℕ) (post : Phase → LockNature → Type 0) (h : Holders) (s : Rows) (g : Option (LockResult ReadTicket WriteTicket)) (h' : Holders) → Fits k h s who.cell → IsFree who s → Tries post h g h' →
    BegunStands who (begun_tried who ask h.phase g) (running_after (begun_tried who ask h.phase g) running) h' s
tried_stands k who ask running post h s g h' fits free tries = rw (tries.answer, tries.held) (tried_at (bars h tries.nature) tries.nature k who ask running h s refl fits tries.known free)

opens_at : (barred : Bool) (n : LockNature) (k : LockerKind) (who : Who) (ask : Ask) (h : Holders) (s : Rows) → bars h n ≡ barred → Fits k h s who.cell →
    Opens who.cell (reads_begun (begun_tried who ask h.phase (if barred then None else Some (got_by n h.phase)))) (begins_write (begun_tried who ask h.phase (if barred then None else Some (got_by n h.phase)))) h s (if barred then h else admitted h n) s
opens_at true n k who ask h s e fits = record { reads = omega arith; writes = λ held. held; only = λ none held. held }
opens_at false n k who ask h s e fits = record {
  reads = admitted_reads n k who.cell h s fits ∙ ap (λ m. open_reads h s who.cell + m) (sym (begun_of_reads who ask h.phase (got_by n h.phase)));
  writes = admitted_writes n k who.cell h s fits e;
  only = λ none held. admitted_only n who.cell h s (sym (begun_of_writes who ask h.phase (got_by n h.phase)) ∙ none) held;
}

pub tried_opens : (k : LockerKind) (who : Who) (ask : Ask) (post : Phase → LockNature → Type 0) (h : Holders) (s : Rows) (g : Option (LockResult ReadTicket WriteTicket)) (h' : Holders) → Fits k h s who.cell → Tries post h g h' →
    Opens who.cell (reads_begun (begun_tried who ask h.phase g)) (begins_write (begun_tried who ask h.phase g)) h s h' s
tried_opens k who ask post h s g h' fits tries = rw (tries.answer, tries.held) (opens_at (bars h tries.nature) tries.nature k who ask h s refl fits)
