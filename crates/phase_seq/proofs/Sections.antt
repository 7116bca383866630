-- An open section stays open while others call.
use Rattle.std.proofs.Common.{◌≡◌, ℕ, ◌<◌, Bool, true, false, ◌&&◌, not, if◌then◌else◌, Option, length, inl, inr, refl, sym, ◌∙◌}
use Rattle.phase_bits.specs.Flags.{has, initialized}
use Rattle.phase_bits.specs.Number.{number}
use Rattle.phase_bits.specs.declared.phase.Phase.{Phase}
use Rattle.phase_bits.specs.declared.holders.Holders.{Holders}
use Rattle.phase_locker.specs.declared.tickets.LockNature.{LockNature}
use Rattle.phase_locker.specs.declared.tickets.LockResult.{LockResult}
use Rattle.phase_locker.specs.declared.tickets.ReadTicket.{ReadTicket}
use Rattle.phase_locker.specs.declared.tickets.WriteTicket.{WriteTicket}
use Rattle.phase_locker.specs.declared.tickets.Attempt.{Attempt}
use Rattle.phase_locker.specs.declared.ways.Who.{Who}
use Rattle.phase_locker.specs.declared.ways.Given.{Given}
use Rattle.phase_locker.specs.declared.ways.LockerKind.{LockerKind}
use Rattle.phase_locker.specs.Natures.{bars, admitted, Tries}
use Rattle.phase_locker.specs.Rows.{Rows, row_of, freed}
use Rattle.phase_locker.specs.Fits.{Fits, IsWriteOpen}
use Rattle.phase_locker.specs.Attempts.{Judged, Again, keeps, given_up}
use Rattle.phase_locker.proofs.Judging.{by_bool}
use Rattle.phase_locker.proofs.Standing.{admitted_writes, left_writes, kept_writes, hands_writes}
use Rattle.phase_seq.specs.declared.ask.Want.{Want}
use Rattle.phase_seq.specs.declared.ask.Want.TheVariants as want
use Rattle.phase_seq.specs.declared.ask.Ask.{Ask}
use Rattle.phase_seq.specs.declared.section.Section.{Section}
use Rattle.phase_seq.specs.declared.section.Begun.{Begun}
use Rattle.phase_seq.specs.declared.section.Begun.TheVariants as begun
use Rattle.phase_seq.specs.Asks.{shall_init, initializes, asks_run, nature_where, nature_of}
use Rattle.phase_seq.specs.Begins.{begun_by, running_after}
use Rattle.phase_seq.specs.Exactly.{is_run, is_barred}
use Rattle.phase_seq.specs.Stands.{IsRunning}
use Rattle.phase_seq.proofs.Exactness.{both_false, run_of}

-- a locked record bars each call that asks for a run
locked_where : (w : Want) (due there : Bool) (h : Holders) → h.locked ≡ true → (not (bars h (nature_where w due there)) && (initializes w && due)) ≡ false
locked_where want.Init true there h e = rw e
locked_where want.Init false there h e = refl
locked_where want.Read true there h e = rw e
locked_where want.Read false there h e = both_false _
locked_where want.Write due there h e = rw e
locked_where want.ReadOnly due there h e = both_false _
locked_where want.WriteOnly due there h e = both_false _
locked_where want.Finalize due there h e = both_false _

locked_bars : (ask : Ask) (p : Phase) (h : Holders) → h.locked ≡ true → (not (bars h (nature_of ask p)) && asks_run ask p) ≡ false
locked_bars ask p h e = locked_where ask.want (shall_init ask.tol p) (has (number p) initialized) h e

-- who runs stays, but for an answer to run
unmoved : (b : Begun) (running : Option ℕ) → is_run b ≡ false → running_after b running ≡ running
unmoved (begun.Wait how) running e = refl
unmoved begun.Missed running e = refl
unmoved begun.Cyclic running e = refl
unmoved (begun.Nothing p) running e = refl
unmoved (begun.Read t p) running e = refl
unmoved (begun.Write t p) running e = refl
unmoved (begun.Final section) running e = refl
unmoved (begun.Run section) running e = cc

-- ---- a call of a party that does not wait

not_run : (b cyclic both : Bool) → b ≡ (not cyclic && both) → both ≡ false → b ≡ false
not_run b cyclic both e f = e ∙ rw f (both_false (not cyclic))

-- an open section stays where the lock to write stays open, and no run was begun
pub section_stays : (o : Section) (b : Begun) (running running' : Option ℕ) (h h' : Holders) (s s' : Rows) → is_run b ≡ false → running' ≡ running_after b running → (IsWriteOpen h s o.who.cell → IsWriteOpen h' s' o.who.cell) → IsRunning o running h s → IsRunning o running' h' s'
section_stays o b running running' h h' s s' none after writes was = record { party = after ∙ unmoved b running none ∙ was.party; asked = was.asked; known = was.known; locked = writes was.locked }

pub begun_apart : (b : Begun) (ask : Ask) (cyclic : Bool) (h : Holders) (s : Rows) (c : ℕ) → is_run b ≡ (not cyclic && (not (is_barred ask h) && asks_run ask h.phase)) → IsWriteOpen h s c → is_run b ≡ false
begun_apart b ask cyclic h s c runs held = not_run (is_run b) cyclic _ runs (locked_bars ask h.phase h held.locked)

tried_held : (barred : Bool) (n : LockNature) (k : LockerKind) (c : ℕ) (h : Holders) (s : Rows) → Fits k h s c → bars h n ≡ barred → IsWriteOpen h s c → IsWriteOpen (if barred then h else admitted h n) s c
tried_held true n k c h s fits e held = held
tried_held false n k c h s fits e held = admitted_writes n k c h s fits e held

pub tried_writes : (post : Phase → LockNature → Type 0) (k : LockerKind) (c : ℕ) (h : Holders) (s : Rows) (g : Option (LockResult ReadTicket WriteTicket)) (h' : Holders) → Fits k h s c → Tries post h g h' → IsWriteOpen h s c → IsWriteOpen h' s c
tried_writes post k c h s g h' fits tries held = rw tries.held (tried_held (bars h tries.nature) tries.nature k c h s fits refl held)

-- ---- a call of a party that waits

run_waits : (who : Who) (ask : Ask) (p : Phase) (a : Attempt) (h : Holders) (s : Rows) (k : LockerKind) (fresh : Bool) (wake : LockNature) (h' : Holders) (s' : Rows) → Judged k fresh who wake (nature_of ask p) h s a h' s' → h.locked ≡ true → is_run (begun_by who ask p a) ≡ false
run_waits who ask p a h s k fresh wake h' s' judged e =
    elim (by_bool (bars h (nature_of ask p)) judged) as (λ x. is_run (begun_by who ask p a) ≡ false) [
      | inl j ↦ rw j.1.answer
      | inr j ↦ rw j.1.answer (run_of who ask p h.phase ∙ rw j.0 at (locked_bars ask p h e))
    ]

pub again_apart : (post : Phase → LockNature → Type 0) (k : LockerKind) (who : Who) (ask : Ask) (wake : LockNature) (h : Holders) (s : Rows) (r : Attempt × Given) (h' : Holders) (s' : Rows) → ((n : LockNature) → post h.phase n → n ≡ nature_of ask h.phase) →
    who.party < length s.rows → (row_of s who.party).cell ≡ who.cell → Fits k h s who.cell → Again post k who wake h s r h' s' → IsWriteOpen h s who.cell → is_run (begun_by who ask h.phase r.0) ≡ false
again_apart post k who ask wake h s r h' s' ruled inside here fits again held =
    elim (by_bool (keeps (row_of s who.party).waiting again.nature h) again.steps) as (λ x. is_run (begun_by who ask h.phase r.0) ≡ false) [
      | inl j ↦ absurd (kept_writes (row_of s who.party).waiting again.nature k h s who.cell who.party inside (rw (sym here) refl) fits j.0 held)
      | inr j ↦
          let e : again.nature ≡ nature_of ask h.phase = ruled again.nature again.allowed in
          let before : IsWriteOpen (given_up (row_of s who.party).waiting h) (freed who.party s) who.cell = rw here (left_writes (row_of s who.party).waiting k h s who.cell who.party inside (rw (sym here) refl) fits held) in
          let between : IsWriteOpen j.1.between j.1.rows who.cell = hands_writes r.1 who.cell _ _ j.1.between j.1.rows j.1.hands before in
          run_waits who ask h.phase r.0 j.1.between j.1.rows k _ wake h' s' (rw e at j.1.judged) between.locked
    ]
