-- Only a call that gets the lock to write opens a write hold.
use Rattle.std.proofs.Common.{inl, inr, ◌≡◌, ℕ, ◌<◌, Bool, true, false, length, refl, arith, ◌∙◌, sym}
use Rattle.phase_bits.specs.declared.holders.Holders.{Holders}
use Rattle.phase_bits.specs.Records.{leave_read}
use Rattle.phase_locker.specs.declared.ways.Waiting.{Waiting}
use Rattle.phase_locker.specs.declared.ways.Waiting.TheVariants as way
use Rattle.phase_locker.specs.declared.ways.Who.{Who}
use Rattle.phase_locker.specs.declared.ways.How.{How}
use Rattle.phase_locker.specs.declared.ways.How.TheVariants.{Spin, ParkedRead, ParkedWrite, Drain}
use Rattle.phase_locker.specs.declared.ways.Given.{Given}
use Rattle.phase_locker.specs.declared.ways.Given.TheVariants.{Nobody, Writer, Readers}
use Rattle.phase_locker.specs.declared.ways.LockerKind.{LockerKind}
use Rattle.phase_locker.specs.declared.tickets.LockNature.{LockNature}
use Rattle.phase_locker.specs.declared.tickets.LockNature.TheVariants as nature
use Rattle.phase_locker.specs.declared.tickets.Attempt.{Attempt}
use Rattle.phase_locker.specs.declared.tickets.Attempt.TheVariants.{Got}
use Rattle.phase_locker.specs.Natures.{bars, admitted, got}
use Rattle.phase_locker.specs.Rows.{Rows, free_row, row_of, claims_at, left, freed, IsSound}
use Rattle.phase_locker.specs.Fits.{Fits, open_reads, IsWriteOpen, flagged}
use Rattle.phase_locker.specs.Gifts.{Hands}
use Rattle.phase_locker.specs.Attempts.{Judged, rows_waiting, held_waiting, keeps, given_up}
use Rattle.phase_locker.specs.Stands.{Opens, is_write, opens_write, reads_opened}
use Rattle.phase_locker.proofs.Counts.{count-set, free_is, drain_is}
use Rattle.phase_locker.proofs.Judging.{by_bool, same_row}
use Rattle.phase_locker.proofs.Keeping.{freed_size}
use Rattle.phase_locker.proofs.Leaving.{write_has_no_reader}
use Rattle.phase_locker.proofs.Standing.{Between, judged_reads, judged_writes, again_reads, again_writes, keeps_reads, keeps_writes, handed_closed}

-- the waiter flags say nothing of a write hold
pub unflagged_writes : (c : ℕ) (h : Holders) (s : Rows) → IsWriteOpen (flagged c s h) s c → IsWriteOpen h s c
unflagged_writes c h s held = record { locked = held.locked; unclaimed = held.unclaimed }

-- ---- a judged call

waiting_only : (how : How) (w : Who) (h : Holders) (s : Rows) → w.party < length s.rows → (row_of s w.party).waiting ≡ way.Free → IsWriteOpen (held_waiting how h) (rows_waiting how w s) w.cell → IsWriteOpen h s w.cell
waiting_only Spin w h s inside free held = record { locked = held.locked; unclaimed = sym (same_row (claims_at w.cell) s.rows w.party (record { waiting = way.Spin; cell = w.cell }) inside (free_is w.cell _ free).1 refl) ∙ held.unclaimed }
waiting_only ParkedRead w h s inside free held = record { locked = held.locked; unclaimed = sym (same_row (claims_at w.cell) s.rows w.party (record { waiting = way.ParkedRead; cell = w.cell }) inside (free_is w.cell _ free).1 refl) ∙ held.unclaimed }
waiting_only ParkedWrite w h s inside free held = record { locked = held.locked; unclaimed = sym (same_row (claims_at w.cell) s.rows w.party (record { waiting = way.ParkedWrite; cell = w.cell }) inside (free_is w.cell _ free).1 refl) ∙ held.unclaimed }
waiting_only Drain w h s inside free held =
    let claim = rw ((free_is w.cell (row_of s w.party) free).1, (drain_is w.cell).1) at (count-set (claims_at w.cell) s.rows w.party (record { waiting = way.Drain; cell = w.cell }) inside) in
    absurd (omega (arith, claim, held.unclaimed))

pub admitted_only : (n : LockNature) (c : ℕ) (h : Holders) (s : Rows) → is_write (got n h.phase) ≡ false → IsWriteOpen (admitted h n) s c → IsWriteOpen h s c
admitted_only nature.Read c h s no_write held = record { locked = held.locked; unclaimed = held.unclaimed }
admitted_only nature.Write c h s no_write held = cc
admitted_only nature.None c h s no_write held = held

judged_only : (k : LockerKind) (fresh : Bool) (w : Who) (wake n : LockNature) (h : Holders) (s : Rows) (a : Attempt) (h' : Holders) (s' : Rows) → w.party < length s.rows → (row_of s w.party).waiting ≡ way.Free → Judged k fresh w wake n h s a h' s' → opens_write a ≡ false → IsWriteOpen h' s' w.cell → IsWriteOpen h s w.cell
judged_only k fresh w wake n h s a h' s' inside free judged no_write held =
    elim (by_bool (bars h n) judged) as (λ x. IsWriteOpen h s w.cell) [
      | inl j ↦ waiting_only j.1.how w h s inside free (unflagged_writes w.cell _ _ (rw (j.1.held, j.1.rows) at held))
      | inr j ↦ admitted_only n w.cell h s (rw j.1.answer at no_write) (unflagged_writes w.cell _ _ (rw (j.1.held, j.1.rows) at held))
    ]

pub judged_opens : (k : LockerKind) (fresh : Bool) (w : Who) (wake n : LockNature) (h : Holders) (s : Rows) (a : Attempt) (h' : Holders) (s' : Rows) → w.party < length s.rows → (row_of s w.party).waiting ≡ way.Free → Fits k h s w.cell → Judged k fresh w wake n h s a h' s' → Opens w.cell (reads_opened a) (opens_write a) h s h' s'
judged_opens k fresh w wake n h s a h' s' inside free fits judged = record {
  reads = judged_reads k fresh w wake n h s a h' s' inside free fits judged;
  writes = judged_writes k fresh w wake n h s a h' s' inside free fits judged;
  only = judged_only k fresh w wake n h s a h' s' inside free judged;
}

-- ---- a call that keeps what it has

kept_only : (v : Waiting) (n : LockNature) (h : Holders) (s : Rows) (c p : ℕ) → p < length s.rows → row_of s p ≡ record { waiting = v; cell = c } → keeps v n h ≡ true → is_write (got n h.phase) ≡ false → IsWriteOpen h (left v c p s) c → IsWriteOpen h s c
kept_only way.ShareRead nature.Read h s c p inside row keep no_write held = record { locked = held.locked; unclaimed = sym (same_row (claims_at c) s.rows p free_row inside (rw row refl) refl) ∙ held.unclaimed }
kept_only way.ShareWrite nature.Write h s c p inside row keep no_write held = cc
kept_only way.Drain nature.Write h s c p inside row keep no_write held = cc
kept_only v n h s c p inside row keep no_write held = absurd (cc)

pub keeps_opens : (w : Who) (n : LockNature) (k : LockerKind) (h : Holders) (s : Rows) (a : Attempt) (h' : Holders) (s' : Rows) → w.party < length s.rows → (row_of s w.party).cell ≡ w.cell → Fits k h s w.cell → keeps (row_of s w.party).waiting n h ≡ true →
    a ≡ Got (got n h.phase) → s' ≡ freed w.party s → h' ≡ flagged w.cell s' h → Opens w.cell (reads_opened a) (opens_write a) h s h' s'
keeps_opens w n k h s a h' s' inside here fits keep ea es eh = record {
  reads = keeps_reads w n k h s a h' s' inside here fits keep ea es eh;
  writes = keeps_writes w n k h s h' s' inside here fits keep;
  only = λ no_write held.
      let was = unflagged_writes w.cell h _ (rw (eh, es) at held) in
      kept_only (row_of s w.party).waiting n h s w.cell w.party inside (rw (sym here) refl) keep (rw ea at no_write) (rw here at was);
}

-- ---- a call that gives up what it has

left_only : (v : Waiting) (h : Holders) (s : Rows) (c p : ℕ) → p < length s.rows → row_of s p ≡ record { waiting = v; cell = c } → IsWriteOpen (given_up v h) (left v c p s) c → IsWriteOpen h s c
left_only way.ShareRead h s c p inside row held = record { locked = held.locked; unclaimed = sym (same_row (claims_at c) s.rows p free_row inside (rw row refl) refl) ∙ held.unclaimed }
left_only way.ShareWrite h s c p inside row held = let a = held.locked in cc
left_only way.Drain h s c p inside row held = let a = held.locked in cc
left_only way.Free h s c p inside row held = record { locked = held.locked; unclaimed = sym (same_row (claims_at c) s.rows p free_row inside (rw row refl) refl) ∙ held.unclaimed }
left_only way.Spin h s c p inside row held = record { locked = held.locked; unclaimed = sym (same_row (claims_at c) s.rows p free_row inside (rw row refl) refl) ∙ held.unclaimed }
left_only way.ParkedRead h s c p inside row held = record { locked = held.locked; unclaimed = sym (same_row (claims_at c) s.rows p free_row inside (rw row refl) refl) ∙ held.unclaimed }
left_only way.ParkedWrite h s c p inside row held = record { locked = held.locked; unclaimed = sym (same_row (claims_at c) s.rows p free_row inside (rw row refl) refl) ∙ held.unclaimed }

-- a hand-over opens none
pub hands_only : (g : Given) (c : ℕ) (h : Holders) (s : Rows) (h' : Holders) (s' : Rows) → c < length s.readers → IsSound s → Hands c h s g h' s' → IsWriteOpen h' s' c → IsWriteOpen h s c
hands_only Nobody c h s h' s' inside sound hands held = unflagged_writes c h s (rw (hands.held, hands.rows) at held)
hands_only (Writer p) c h s h' s' inside sound hands held = absurd (handed_closed (Writer p) c h s inside sound hands.may hands.may.0.locked (rw (hands.held, hands.rows) at held))
hands_only Readers c h s h' s' inside sound hands held = absurd (handed_closed Readers c h s inside sound hands.may hands.may.0.locked (rw (hands.held, hands.rows) at held))

pub between_only : (w : Who) (h h₁ : Holders) (s s₁ : Rows) (g : Given) (h₂ : Holders) (s₂ : Rows) → w.cell < length s.readers → w.party < length s.rows → (row_of s w.party).cell ≡ w.cell →
    h₁ ≡ given_up (row_of s w.party).waiting h → s₁ ≡ freed w.party s → IsSound s₁ → Hands w.cell h₁ s₁ g h₂ s₂ → IsWriteOpen h₂ s₂ w.cell → IsWriteOpen h s w.cell
between_only w h h₁ s s₁ g h₂ s₂ inside party here eh es sound hands held =
    let size : (length s₁.rows ≡ length s.rows) × (length s₁.readers ≡ length s.readers) = rw es (freed_size w.party s) in
    let was = hands_only g w.cell h₁ s₁ h₂ s₂ (omega (arith, inside, size.1)) sound hands held in
    left_only (row_of s w.party).waiting h s w.cell w.party party (rw (sym here) refl) (rw (eh, es, here) at was)

pub again_opens : (k : LockerKind) (fresh : Bool) (w : Who) (wake n : LockNature) (h : Holders) (s : Rows) (h₂ : Holders) (s₂ : Rows) (a : Attempt) (h₃ : Holders) (s₃ : Rows) → Between k w h s h₂ s₂ → (IsWriteOpen h₂ s₂ w.cell → IsWriteOpen h s w.cell) → Judged k fresh w wake n h₂ s₂ a h₃ s₃ → Opens w.cell (reads_opened a) (opens_write a) h s h₃ s₃
again_opens k fresh w wake n h s h₂ s₂ a h₃ s₃ b only judged = record {
  reads = again_reads k fresh w wake n h s h₂ s₂ a h₃ s₃ b judged;
  writes = again_writes k fresh w wake n h s h₂ s₂ a h₃ s₃ b judged;
  only = λ no_write held. only (judged_only k fresh w wake n h₂ s₂ a h₃ s₃ b.party b.free judged no_write held);
}

-- ---- a read hold that is given back

-- no write hold was open beside it
pub released_none : (k : LockerKind) (h h₁ : Holders) (s : Rows) (c : ℕ) (g : Given) (h' : Holders) (s' : Rows) → h₁ ≡ leave_read h → c < length s.readers → IsSound s → Fits k h s c → 0 < open_reads h s c → Hands c h₁ s g h' s' → IsWriteOpen h' s' c → ⊥
released_none k h h₁ s c g h' s' eh inside sound fits more hands held =
    let was = rw eh at (hands_only g c h₁ s h' s' inside sound hands held) in
    let before : IsWriteOpen h s c = record { locked = was.locked; unclaimed = was.unclaimed } in
    omega (arith, more, write_has_no_reader k h s c fits before)
