-- A lock that was got is open, its party waits no longer, and other read holds stay open.
use Rattle.std.proofs.Common.{inl, inr, ◌≡◌, ℕ, ◌+◌, ◌-◌, ◌<◌, Bool, true, false, length, refl, arith, ◌∙◌, sym, ap}
use Rattle.std.proofs.lemmas.List.{get_or-set_same}
use Rattle.phase_bits.specs.declared.holders.Holders.{Holders}
use Rattle.phase_bits.specs.declared.phase.Phase.{Phase}
use Rattle.phase_bits.specs.Number.{IsKnown}
use Rattle.phase_bits.specs.Records.{leave_read, leave_write, downgrade}
use Rattle.phase_locker.specs.declared.ways.Waiting.{Waiting}
use Rattle.phase_locker.specs.declared.ways.Waiting.TheVariants as way
use Rattle.phase_locker.specs.declared.ways.Who.{Who}
use Rattle.phase_locker.specs.declared.ways.How.{How}
use Rattle.phase_locker.specs.declared.ways.How.TheVariants.{Spin, ParkedRead, ParkedWrite, Drain}
use Rattle.phase_locker.specs.declared.ways.Given.{Given}
use Rattle.phase_locker.specs.declared.ways.Given.TheVariants.{Nobody, Writer, Readers}
use Rattle.phase_locker.specs.declared.ways.LockerKind.{LockerKind}
use Rattle.phase_locker.specs.declared.tickets.LockNature.{LockNature}
use Rattle.phase_locker.specs.declared.tickets.LockNature.TheVariants as nature
use Rattle.phase_locker.specs.declared.tickets.Attempt.{Attempt}
use Rattle.phase_locker.specs.declared.tickets.Attempt.TheVariants.{Got}
use Rattle.phase_locker.specs.Natures.{bars, admitted, got}
use Rattle.phase_locker.specs.Rows.{Rows, free_row, row_of, readers_of, claims, shares_at, claims_at, left, freed, IsSound, SameSize}
use Rattle.phase_locker.specs.Fits.{Fits, open_reads, IsWriteOpen, flagged}
use Rattle.phase_locker.specs.Gifts.{Hands, MayHand, rows_handed, held_handed, StayFree}
use Rattle.phase_locker.specs.Attempts.{Judged, MayWait, rows_waiting, held_waiting, keeps, given_up}
use Rattle.phase_locker.specs.Stands.{IsOpen, Stands, way_of, reads_got, reads_opened}
use Rattle.phase_locker.proofs.Counts.{count-set, free_is, write_is, share_is, claim_is, drain_is, is_one-if, write_inside, shares-shared}
use Rattle.phase_locker.proofs.Holding.{all_read, hands_fit}
use Rattle.phase_locker.proofs.Judging.{by_bool, same_row, unheld, beside}
use Rattle.phase_locker.proofs.Keeping.{count_left, freed_free, freed_size, gives_up_freed}
use Rattle.phase_locker.proofs.Leaving.{write_has_no_reader}

-- ---- a judged call

-- the row of a call that began to wait
pub waiting_here : (how : How) (w : Who) (s : Rows) → w.party < length s.rows → row_of (rows_waiting how w s) w.party ≡ record { waiting = way_of how; cell = w.cell }
waiting_here Spin w s inside = get_or-set_same s.rows w.party _ free_row inside
waiting_here ParkedRead w s inside = get_or-set_same s.rows w.party _ free_row inside
waiting_here ParkedWrite w s inside = get_or-set_same s.rows w.party _ free_row inside
waiting_here Drain w s inside = get_or-set_same s.rows w.party _ free_row inside

-- it changes no share, and no reader
pub waiting_reads : (how : How) (w : Who) (h : Holders) (s : Rows) → w.party < length s.rows → (row_of s w.party).waiting ≡ way.Free → open_reads (held_waiting how h) (rows_waiting how w s) w.cell ≡ open_reads h s w.cell
waiting_reads Spin w h s inside free = ap (λ n. h.readers - n) (same_row (shares_at w.cell) s.rows w.party (record { waiting = way.Spin; cell = w.cell }) inside (free_is w.cell _ free).0 refl)
waiting_reads ParkedRead w h s inside free = ap (λ n. h.readers - n) (same_row (shares_at w.cell) s.rows w.party (record { waiting = way.ParkedRead; cell = w.cell }) inside (free_is w.cell _ free).0 refl)
waiting_reads ParkedWrite w h s inside free = ap (λ n. h.readers - n) (same_row (shares_at w.cell) s.rows w.party (record { waiting = way.ParkedWrite; cell = w.cell }) inside (free_is w.cell _ free).0 refl)
waiting_reads Drain w h s inside free = ap (λ n. h.readers - n) (same_row (shares_at w.cell) s.rows w.party (record { waiting = way.Drain; cell = w.cell }) inside (free_is w.cell _ free).0 refl)

-- an admitted call
pub admitted_open : (n : LockNature) (k : LockerKind) (c : ℕ) (h : Holders) (s : Rows) → Fits k h s c → IsKnown h.phase → bars h n ≡ false → IsOpen (got n h.phase) (flagged c s (admitted h n)) s c
admitted_open nature.Read k c h s fits known free = omega (arith, fits.shared)
admitted_open nature.Write k c h s fits known free = record { locked = refl; unclaimed = fits.locked (unheld h free).0 }
admitted_open nature.None k c h s fits known free = known

pub admitted_reads : (n : LockNature) (k : LockerKind) (c : ℕ) (h : Holders) (s : Rows) → Fits k h s c → open_reads (admitted h n) s c ≡ open_reads h s c + reads_got (got n h.phase)
admitted_reads nature.Read k c h s fits = omega (arith, fits.shared)
admitted_reads nature.Write k c h s fits = omega arith
admitted_reads nature.None k c h s fits = omega arith

pub judged_stands : (k : LockerKind) (fresh : Bool) (w : Who) (wake n : LockNature) (h : Holders) (s : Rows) (a : Attempt) (h' : Holders) (s' : Rows) → w.party < length s.rows → (row_of s w.party).waiting ≡ way.Free → Fits k h s w.cell → IsKnown h.phase → Judged k fresh w wake n h s a h' s' → Stands w a h' s'
judged_stands k fresh w wake n h s a h' s' inside free fits known judged =
    elim (by_bool (bars h n) judged) as (λ x. Stands w a h' s') [
      | inl j ↦ rw (j.1.answer, j.1.rows) (waiting_here j.1.how w s inside)
      | inr j ↦ rw (j.1.answer, j.1.held, j.1.rows) (free, admitted_open n k w.cell h s fits known j.0)
    ]

pub judged_reads : (k : LockerKind) (fresh : Bool) (w : Who) (wake n : LockNature) (h : Holders) (s : Rows) (a : Attempt) (h' : Holders) (s' : Rows) → w.party < length s.rows → (row_of s w.party).waiting ≡ way.Free → Fits k h s w.cell → Judged k fresh w wake n h s a h' s' → open_reads h' s' w.cell ≡ open_reads h s w.cell + reads_opened a
judged_reads k fresh w wake n h s a h' s' inside free fits judged =
    elim (by_bool (bars h n) judged) as (λ x. open_reads h' s' w.cell ≡ open_reads h s w.cell + reads_opened a) [
      | inl j ↦ rw (j.1.answer, j.1.held, j.1.rows) (waiting_reads j.1.how w h s inside free ∙ omega arith)
      | inr j ↦ rw (j.1.answer, j.1.held, j.1.rows) (admitted_reads n k w.cell h s fits)
    ]

-- ---- a call that keeps what it has

-- where a claim is left the record is locked
pub claim_locks : (b : Bool) (n : ℕ) → (b ≡ false → n ≡ 0) → 0 < n → b ≡ true
claim_locks true n h more = refl
claim_locks false n h more = absurd (omega (arith, h refl, more))

pub kept_open : (v : Waiting) (n : LockNature) (k : LockerKind) (h : Holders) (s : Rows) (c p : ℕ) → p < length s.rows → row_of s p ≡ record { waiting = v; cell = c } → Fits k h s c → keeps v n h ≡ true → IsOpen (got n h.phase) (flagged c (left v c p s) h) (left v c p s) c
kept_open way.ShareRead nature.Read k h s c p inside row fits keep =
    let x = count_left (shares_at c) s p _ inside row (share_is c) refl in
    omega (arith, x, fits.shared)
kept_open way.ShareWrite nature.Write k h s c p inside row fits keep =
    let y = count_left (claims_at c) s p _ inside row (claim_is c) refl in
    record { locked = claim_locks h.locked (claims s c) fits.locked (omega (arith, y)); unclaimed = omega (arith, y, fits.one) }
kept_open way.Drain nature.Write k h s c p inside row fits keep =
    let y = count_left (claims_at c) s p _ inside row (drain_is c).1 refl in
    record { locked = claim_locks h.locked (claims s c) fits.locked (omega (arith, y)); unclaimed = omega (arith, y, fits.one) }
kept_open v n k h s c p inside row fits keep = absurd (cc)

pub kept_reads : (v : Waiting) (n : LockNature) (k : LockerKind) (h : Holders) (s : Rows) (c p : ℕ) → p < length s.rows → row_of s p ≡ record { waiting = v; cell = c } → Fits k h s c → keeps v n h ≡ true → open_reads h (left v c p s) c ≡ open_reads h s c + reads_got (got n h.phase)
kept_reads way.ShareRead nature.Read k h s c p inside row fits keep =
    let x = count_left (shares_at c) s p _ inside row (share_is c) refl in
    omega (arith, x, fits.shared)
kept_reads way.ShareWrite nature.Write k h s c p inside row fits keep =
    let x = same_row (shares_at c) s.rows p free_row inside (rw row refl) refl in
    omega (arith, x)
kept_reads way.Drain nature.Write k h s c p inside row fits keep =
    let x = same_row (shares_at c) s.rows p free_row inside (rw row refl) refl in
    omega (arith, x)
kept_reads v n k h s c p inside row fits keep = absurd (cc)

pub keeps_stands : (w : Who) (n : LockNature) (k : LockerKind) (h : Holders) (s : Rows) (a : Attempt) (h' : Holders) (s' : Rows) → w.party < length s.rows → (row_of s w.party).cell ≡ w.cell → Fits k h s w.cell → keeps (row_of s w.party).waiting n h ≡ true →
    a ≡ Got (got n h.phase) → s' ≡ freed w.party s → h' ≡ flagged w.cell s' h → Stands w a h' s'
keeps_stands w n k h s a h' s' inside here fits keep ea es eh =
    rw (ea, eh, es) (freed_free w.party s inside, rw here (kept_open (row_of s w.party).waiting n k h s w.cell w.party inside (rw (sym here) refl) fits keep))

pub keeps_reads : (w : Who) (n : LockNature) (k : LockerKind) (h : Holders) (s : Rows) (a : Attempt) (h' : Holders) (s' : Rows) → w.party < length s.rows → (row_of s w.party).cell ≡ w.cell → Fits k h s w.cell → keeps (row_of s w.party).waiting n h ≡ true →
    a ≡ Got (got n h.phase) → s' ≡ freed w.party s → h' ≡ flagged w.cell s' h → open_reads h' s' w.cell ≡ open_reads h s w.cell + reads_opened a
keeps_reads w n k h s a h' s' inside here fits keep ea es eh =
    rw (ea, eh, es, here) (kept_reads (row_of s w.party).waiting n k h s w.cell w.party inside (rw (sym here) refl) fits keep)

-- ---- a call that gives up what it has

pub given_up_reads : (v : Waiting) (h : Holders) (s : Rows) (c p : ℕ) → p < length s.rows → row_of s p ≡ record { waiting = v; cell = c } → open_reads (given_up v h) (left v c p s) c ≡ open_reads h s c
given_up_reads way.ShareRead h s c p inside row =
    let x = count_left (shares_at c) s p _ inside row (share_is c) refl in
    omega (arith, x)
given_up_reads way.ShareWrite h s c p inside row = ap (λ n. h.readers - n) (same_row (shares_at c) s.rows p free_row inside (rw row refl) refl)
given_up_reads way.Drain h s c p inside row = ap (λ n. h.readers - n) (same_row (shares_at c) s.rows p free_row inside (rw row refl) refl)
given_up_reads way.Free h s c p inside row = ap (λ n. h.readers - n) (same_row (shares_at c) s.rows p free_row inside (rw row refl) refl)
given_up_reads way.Spin h s c p inside row = ap (λ n. h.readers - n) (same_row (shares_at c) s.rows p free_row inside (rw row refl) refl)
given_up_reads way.ParkedRead h s c p inside row = ap (λ n. h.readers - n) (same_row (shares_at c) s.rows p free_row inside (rw row refl) refl)
given_up_reads way.ParkedWrite h s c p inside row = ap (λ n. h.readers - n) (same_row (shares_at c) s.rows p free_row inside (rw row refl) refl)

pub handed_reads : (g : Given) (c : ℕ) (h : Holders) (s : Rows) → c < length s.readers → IsSound s → MayHand c h s g → open_reads (held_handed c g s h) (rows_handed c g s) c ≡ open_reads h s c
handed_reads Nobody c h s inside sound may = refl
handed_reads (Writer p) c h s inside sound may =
    let w = is_one-if _ (sym (sound.writers c p inside) ∙ may.1) in
    ap (λ n. h.readers - n) (same_row (shares_at c) s.rows p (record { waiting = way.ShareWrite; cell = c }) (write_inside c s.rows p w) (write_is c (row_of s p) w).0 refl)
handed_reads Readers c h s inside sound may =
    let more = shares-shared c (readers_of s c) s.rows (all_read c s inside sound) in
    omega (arith, more)

-- a hand-over neither opens nor ends a read hold
pub hands_reads : (g : Given) (c : ℕ) (h : Holders) (s : Rows) (h' : Holders) (s' : Rows) → c < length s.readers → IsSound s → Hands c h s g h' s' → open_reads h' s' c ≡ open_reads h s c
hands_reads g c h s h' s' inside sound hands = rw (hands.held, hands.rows) (handed_reads g c h s inside sound hands.may)

-- ---- a write hold that is open stays open while others call

pub waiting_writes : (how : How) (k : LockerKind) (fresh : Bool) (w : Who) (wake n : LockNature) (h : Holders) (s : Rows) → w.party < length s.rows → (row_of s w.party).waiting ≡ way.Free → MayWait k fresh wake n h how → IsWriteOpen h s w.cell → IsWriteOpen (held_waiting how h) (rows_waiting how w s) w.cell
waiting_writes Spin k fresh w wake n h s inside free may held = record { locked = held.locked; unclaimed = same_row (claims_at w.cell) s.rows w.party (record { waiting = way.Spin; cell = w.cell }) inside (free_is w.cell _ free).1 refl ∙ held.unclaimed }
waiting_writes ParkedRead k fresh w wake n h s inside free may held = record { locked = held.locked; unclaimed = same_row (claims_at w.cell) s.rows w.party (record { waiting = way.ParkedRead; cell = w.cell }) inside (free_is w.cell _ free).1 refl ∙ held.unclaimed }
waiting_writes ParkedWrite k fresh w wake n h s inside free may held = record { locked = held.locked; unclaimed = same_row (claims_at w.cell) s.rows w.party (record { waiting = way.ParkedWrite; cell = w.cell }) inside (free_is w.cell _ free).1 refl ∙ held.unclaimed }
waiting_writes Drain k fresh w wake n h s inside free may held = let a = may.3 in let b = held.locked in absurd (cc)

pub admitted_writes : (n : LockNature) (k : LockerKind) (c : ℕ) (h : Holders) (s : Rows) → Fits k h s c → bars h n ≡ false → IsWriteOpen h s c → IsWriteOpen (admitted h n) s c
admitted_writes nature.Read k c h s fits free held = absurd (omega (arith, beside h free held.locked, write_has_no_reader k h s c fits held))
admitted_writes nature.Write k c h s fits free held = let a = (unheld h free).0 in let b = held.locked in absurd (cc)
admitted_writes nature.None k c h s fits free held = held

-- the waiter flags say nothing of a write hold
pub flagged_writes : (c : ℕ) (h : Holders) (s : Rows) → IsWriteOpen h s c → IsWriteOpen (flagged c s h) s c
flagged_writes c h s held = record { locked = held.locked; unclaimed = held.unclaimed }

pub judged_writes : (k : LockerKind) (fresh : Bool) (w : Who) (wake n : LockNature) (h : Holders) (s : Rows) (a : Attempt) (h' : Holders) (s' : Rows) → w.party < length s.rows → (row_of s w.party).waiting ≡ way.Free → Fits k h s w.cell → Judged k fresh w wake n h s a h' s' → IsWriteOpen h s w.cell → IsWriteOpen h' s' w.cell
judged_writes k fresh w wake n h s a h' s' inside free fits judged held =
    elim (by_bool (bars h n) judged) as (λ x. IsWriteOpen h' s' w.cell) [
      | inl j ↦ rw (j.1.held, j.1.rows) (flagged_writes w.cell _ _ (waiting_writes j.1.how k fresh w wake n h s inside free j.1.may held))
      | inr j ↦ rw (j.1.held, j.1.rows) (flagged_writes w.cell _ _ (admitted_writes n k w.cell h s fits j.0 held))
    ]

-- beside it nobody has a share or a claim
pub left_writes : (v : Waiting) (k : LockerKind) (h : Holders) (s : Rows) (c p : ℕ) → p < length s.rows → row_of s p ≡ record { waiting = v; cell = c } → Fits k h s c → IsWriteOpen h s c → IsWriteOpen (given_up v h) (left v c p s) c
left_writes way.ShareRead k h s c p inside row fits held =
    let x = count_left (shares_at c) s p _ inside row (share_is c) refl in
    absurd (omega (arith, x, fits.shared, write_has_no_reader k h s c fits held))
left_writes way.ShareWrite k h s c p inside row fits held =
    let y = count_left (claims_at c) s p _ inside row (claim_is c) refl in
    absurd (omega (arith, y, held.unclaimed))
left_writes way.Drain k h s c p inside row fits held =
    let y = count_left (claims_at c) s p _ inside row (drain_is c).1 refl in
    absurd (omega (arith, y, held.unclaimed))
left_writes way.Free k h s c p inside row fits held = record { locked = held.locked; unclaimed = same_row (claims_at c) s.rows p free_row inside (rw row refl) refl ∙ held.unclaimed }
left_writes way.Spin k h s c p inside row fits held = record { locked = held.locked; unclaimed = same_row (claims_at c) s.rows p free_row inside (rw row refl) refl ∙ held.unclaimed }
left_writes way.ParkedRead k h s c p inside row fits held = record { locked = held.locked; unclaimed = same_row (claims_at c) s.rows p free_row inside (rw row refl) refl ∙ held.unclaimed }
left_writes way.ParkedWrite k h s c p inside row fits held = record { locked = held.locked; unclaimed = same_row (claims_at c) s.rows p free_row inside (rw row refl) refl ∙ held.unclaimed }

pub kept_writes : (v : Waiting) (n : LockNature) (k : LockerKind) (h : Holders) (s : Rows) (c p : ℕ) → p < length s.rows → row_of s p ≡ record { waiting = v; cell = c } → Fits k h s c → keeps v n h ≡ true → IsWriteOpen h s c → ⊥
kept_writes way.ShareRead n k h s c p inside row fits keep held =
    let x = count_left (shares_at c) s p _ inside row (share_is c) refl in
    omega (arith, x, fits.shared, write_has_no_reader k h s c fits held)
kept_writes way.ShareWrite n k h s c p inside row fits keep held =
    let y = count_left (claims_at c) s p _ inside row (claim_is c) refl in
    omega (arith, y, held.unclaimed)
kept_writes way.Drain n k h s c p inside row fits keep held =
    let y = count_left (claims_at c) s p _ inside row (drain_is c).1 refl in
    omega (arith, y, held.unclaimed)
kept_writes v n k h s c p inside row fits keep held = absurd (cc)

pub keeps_writes : (w : Who) (n : LockNature) (k : LockerKind) (h : Holders) (s : Rows) (h' : Holders) (s' : Rows) → w.party < length s.rows → (row_of s w.party).cell ≡ w.cell → Fits k h s w.cell → keeps (row_of s w.party).waiting n h ≡ true → IsWriteOpen h s w.cell → IsWriteOpen h' s' w.cell
keeps_writes w n k h s h' s' inside here fits keep held = absurd (kept_writes (row_of s w.party).waiting n k h s w.cell w.party inside (rw (sym here) refl) fits keep held)

pub hands_writes : (g : Given) (c : ℕ) (h : Holders) (s : Rows) (h' : Holders) (s' : Rows) → Hands c h s g h' s' → IsWriteOpen h s c → IsWriteOpen h' s' c
hands_writes Nobody c h s h' s' hands held = rw (hands.held, hands.rows) (flagged_writes c h s held)
hands_writes (Writer p) c h s h' s' hands held = let a = hands.may.0.locked in let b = held.locked in absurd (cc)
hands_writes Readers c h s h' s' hands held = let a = hands.may.0.locked in let b = held.locked in absurd (cc)

-- the record, and the rows, at which a call that gave up what it had is judged
pub record Between (k : LockerKind) (w : Who) (h : Holders) (s : Rows) (h₂ : Holders) (s₂ : Rows) : Type 0 where
  pub party : w.party < length s₂.rows
  pub free : (row_of s₂ w.party).waiting ≡ way.Free
  pub fits : Fits k h₂ s₂ w.cell
  pub reads : open_reads h₂ s₂ w.cell ≡ open_reads h s w.cell
  pub writes : IsWriteOpen h s w.cell → IsWriteOpen h₂ s₂ w.cell

pub between : (k k₁ : LockerKind) (w : Who) (h h₁ : Holders) (s s₁ : Rows) (g : Given) (h₂ : Holders) (s₂ : Rows) →
    w.cell < length s.readers → w.party < length s.rows → (row_of s w.party).cell ≡ w.cell → IsSound s → Fits k h s w.cell →
    k₁ ≡ k → h₁ ≡ given_up (row_of s w.party).waiting h → s₁ ≡ freed w.party s → IsSound s₁ →
    Hands w.cell h₁ s₁ g h₂ s₂ → StayFree s₁ s₂ → SameSize s₁ s₂ → Between k₁ w h s h₂ s₂
between k k₁ w h h₁ s s₁ g h₂ s₂ inside party here sound fits ek eh es sound₁ hands free same =
    let size : (length s₁.rows ≡ length s.rows) × (length s₁.readers ≡ length s.readers) = rw es (freed_size w.party s) in
    let alone : (row_of s₁ w.party).waiting ≡ way.Free = rw es (freed_free w.party s party) in
    let inside₁ : w.cell < length s₁.readers = omega (arith, size.1) in
    let before : open_reads h₁ s₁ w.cell ≡ open_reads h s w.cell = rw (eh, es, here) (given_up_reads (row_of s w.party).waiting h s w.cell w.party party (rw (sym here) refl)) in
    record {
      party = omega (arith, size.0, same.parties);
      free = free w.party alone;
      fits = hands_fit g k₁ h₁ s₁ w.cell h₂ s₂ inside₁ sound₁ (rw (ek, eh, es) (gives_up_freed k h s w.cell w.party inside sound.cells party here fits)) hands;
      reads = hands_reads g w.cell h₁ s₁ h₂ s₂ inside₁ sound₁ hands ∙ before;
      writes = λ held. hands_writes g w.cell h₁ s₁ h₂ s₂ hands (rw (eh, es, here) (left_writes (row_of s w.party).waiting k h s w.cell w.party party (rw (sym here) refl) fits held));
    }

pub again_stands : (k : LockerKind) (fresh : Bool) (w : Who) (wake n : LockNature) (h : Holders) (s : Rows) (h₂ : Holders) (s₂ : Rows) (a : Attempt) (h₃ : Holders) (s₃ : Rows) → Between k w h s h₂ s₂ → IsKnown h₂.phase → Judged k fresh w wake n h₂ s₂ a h₃ s₃ → Stands w a h₃ s₃
again_stands k fresh w wake n h s h₂ s₂ a h₃ s₃ b known judged = judged_stands k fresh w wake n h₂ s₂ a h₃ s₃ b.party b.free b.fits known judged

pub again_reads : (k : LockerKind) (fresh : Bool) (w : Who) (wake n : LockNature) (h : Holders) (s : Rows) (h₂ : Holders) (s₂ : Rows) (a : Attempt) (h₃ : Holders) (s₃ : Rows) → Between k w h s h₂ s₂ → Judged k fresh w wake n h₂ s₂ a h₃ s₃ → open_reads h₃ s₃ w.cell ≡ open_reads h s w.cell + reads_opened a
again_reads k fresh w wake n h s h₂ s₂ a h₃ s₃ b judged = judged_reads k fresh w wake n h₂ s₂ a h₃ s₃ b.party b.free b.fits judged ∙ ap (λ m. m + reads_opened a) b.reads

pub again_writes : (k : LockerKind) (fresh : Bool) (w : Who) (wake n : LockNature) (h : Holders) (s : Rows) (h₂ : Holders) (s₂ : Rows) (a : Attempt) (h₃ : Holders) (s₃ : Rows) → Between k w h s h₂ s₂ → Judged k fresh w wake n h₂ s₂ a h₃ s₃ → IsWriteOpen h s w.cell → IsWriteOpen h₃ s₃ w.cell
again_writes k fresh w wake n h s h₂ s₂ a h₃ s₃ b judged held = judged_writes k fresh w wake n h₂ s₂ a h₃ s₃ b.party b.free b.fits judged (b.writes held)

-- ---- a hold that is given back, or made a read hold

pub released_reads : (h h₁ : Holders) (s : Rows) (c : ℕ) (g : Given) (h' : Holders) (s' : Rows) → h₁ ≡ leave_read h → c < length s.readers → IsSound s → 0 < open_reads h s c → Hands c h₁ s g h' s' → open_reads h' s' c + 1 ≡ open_reads h s c
released_reads h h₁ s c g h' s' eh inside sound held hands =
    let one : open_reads h₁ s c + 1 ≡ open_reads h s c = rw eh (omega (arith, held)) in
    ap (λ n. n + 1) (hands_reads g c h₁ s h' s' inside sound hands) ∙ one

pub downgraded_reads : (k : LockerKind) (q : Phase) (h h' : Holders) (s : Rows) (c : ℕ) → Fits k h s c → IsWriteOpen h s c → h' ≡ flagged c s (downgrade q h) → open_reads h' s c ≡ 1
downgraded_reads k q h h' s c fits held e = rw e (omega (arith, fits.shared, write_has_no_reader k h s c fits held))

pub released_write_reads : (k : LockerKind) (q : Phase) (h h₁ : Holders) (s : Rows) (c : ℕ) (g : Given) (h' : Holders) (s' : Rows) → h₁ ≡ leave_write q h → c < length s.readers → IsSound s → Fits k h s c → IsWriteOpen h s c → Hands c h₁ s g h' s' → open_reads h' s' c ≡ 0
released_write_reads k q h h₁ s c g h' s' eh inside sound fits held hands =
    let none : open_reads h₁ s c ≡ 0 = rw eh (omega (arith, write_has_no_reader k h s c fits held)) in
    hands_reads g c h₁ s h' s' inside sound hands ∙ none

-- what is handed on is no open write hold
pub handed_closed : (g : Given) (c : ℕ) (h : Holders) (s : Rows) → c < length s.readers → IsSound s → MayHand c h s g → h.locked ≡ false → IsWriteOpen (flagged c (rows_handed c g s) (held_handed c g s h)) (rows_handed c g s) c → ⊥
handed_closed Nobody c h s inside sound may unlocked held = let a = held.locked in cc
handed_closed (Writer p) c h s inside sound may unlocked held =
    let w = is_one-if _ (sym (sound.writers c p inside) ∙ may.1) in
    let claim = rw ((write_is c (row_of s p) w).1, claim_is c) at (count-set (claims_at c) s.rows p (record { waiting = way.ShareWrite; cell = c }) (write_inside c s.rows p w)) in
    omega (arith, claim, held.unclaimed)
handed_closed Readers c h s inside sound may unlocked held = let a = held.locked in cc

pub released_closed : (g : Given) (c : ℕ) (q : Phase) (h h₁ : Holders) (s : Rows) (h' : Holders) (s' : Rows) → h₁ ≡ leave_write q h → c < length s.readers → IsSound s → Hands c h₁ s g h' s' → IsWriteOpen h' s' c → ⊥
released_closed g c q h h₁ s h' s' eh inside sound hands held =
    handed_closed g c h₁ s inside sound hands.may (ap (λ (x : Holders). x.locked) eh) (rw (hands.held, hands.rows) at held)
