-- What fits of record and rows while a call is made, and that a hand-over keeps it.
use Rattle.std.proofs.Common.{◌≡◌, ℕ, ◌+◌, ◌<◌, ◌≤◌, true, false, List, [], ◌∷◌, length, refl, arith, ◌∙◌, sym}
use Rattle.std.proofs.Math.ListN.{get_or}
use Rattle.phase_locker.specs.declared.ways.Waiting.TheVariants as way
use Rattle.phase_locker.specs.Rows.{Rows, occurs, is_empty, free_row, readers_of, writers_of, writes_at, shares_at, claims_at, shares, drains, claims, rows_to_readers, rows_to_writer, IsSound}
use Rattle.phase_bits.specs.declared.holders.Holders.{Holders}
use Rattle.phase_locker.specs.declared.ways.Given.{Given}
use Rattle.phase_locker.specs.declared.ways.Given.TheVariants.{Nobody, Writer, Readers}
use Rattle.phase_locker.specs.declared.ways.LockerKind.{LockerKind}
use Rattle.phase_locker.specs.Fits.{Fits, NobodyParked, IsIdle, is_park, flagged}
use Rattle.phase_locker.specs.Gifts.{Hands}
use Rattle.phase_locker.proofs.Counts.{count-set, AllRead, read_is, write_is, shares-shared, same-shared, is_one-if, write_inside, claim_is}

-- what fits of record and rows while a call is made: all but the waiter flags, and that calls are parked only beside a hold
pub record Holds (k : LockerKind) (h : Holders) (s : Rows) (c : ℕ) : Type 0 where
  pub shared : shares s c ≤ h.readers
  pub one : claims s c ≤ 1
  pub locked : h.locked ≡ false → claims s c ≡ 0
  pub drained : h.locked ≡ true → 0 < h.readers → 0 < drains s c
  pub still : is_park k ≡ false → NobodyParked s c × (shares s c ≡ 0) × (claims s c ≡ 0)

-- a record with the flags of its lists fits, where a call is parked only beside a hold
pub Fits-flagged : (k : LockerKind) (h : Holders) (s : Rows) (c : ℕ) → Holds k h s c → (h.locked ≡ false → h.readers ≡ 0 → NobodyParked s c) → Fits k (flagged c s h) s c
Fits-flagged k h s c a idle = record { read_flag = refl; write_flag = refl; shared = a.shared; one = a.one; locked = a.locked; drained = a.drained; idle = idle; still = a.still }

-- the readers of a cell are parked readers
pub all_read : (c : ℕ) (s : Rows) → c < length s.readers → IsSound s → AllRead c (readers_of s c) s.rows
all_read c s k sound = λ p. omega (arith, sound.readers c p k)

pub claim_not : (c : ℕ) → (claims_at c (record { waiting = way.ShareRead; cell = c })) ≡ false
claim_not c = refl

pub not_empty_length : (ps : List ℕ) → is_empty ps ≡ false → 0 < length ps
not_empty_length [] e = cc
not_empty_length (p ∷ ps) e = omega arith

pub listed_in : (p : ℕ) (ps : List ℕ) → occurs p ps ≡ 1 → is_empty ps ≡ true → ⊥
listed_in p [] h e = omega arith
listed_in p (q ∷ qs) h e = cc

-- readers are given shares
pub Holds-readers : (k : LockerKind) (h : Holders) (s : Rows) (c : ℕ) → c < length s.readers → IsSound s → Holds k h s c → IsIdle h → is_empty (readers_of s c) ≡ false → Fits k (flagged c (rows_to_readers c s) (record h { readers = h.readers + length (readers_of s c) })) (rows_to_readers c s) c
Holds-readers k h s c inside sound a idle some =
    let all = all_read c s inside sound in
    let more = shares-shared c (readers_of s c) s.rows all in
    let same = same-shared (claims_at c) c (λ r e. (read_is c r e).1) refl (readers_of s c) s.rows all in
    let many = not_empty_length (readers_of s c) some in
    Fits-flagged k (record h { readers = h.readers + length (readers_of s c) }) (rows_to_readers c s) c
    (record {
      shared = omega (arith, more, a.shared);
      one = omega (arith, same, a.one);
      locked = λ e. omega (arith, same, a.locked idle.locked);
      drained = λ e f. let no_lock = idle.locked in absurd (cc);
      still = λ e. let empty = (a.still e).0.0 in absurd (cc);
    })
    (λ e f. absurd (omega (arith, f, many)))

pub listed_once : (c p : ℕ) (s : Rows) → occurs p (writers_of s c) ≡ 1 → is_empty (writers_of s c) ≡ true → ⊥
listed_once c p s = listed_in p (writers_of s c)

-- a writer is given a share
pub Holds-writer : (k : LockerKind) (h : Holders) (s : Rows) (c p : ℕ) → c < length s.readers → IsSound s → Holds k h s c → IsIdle h → occurs p (writers_of s c) ≡ 1 → Fits k (flagged c (rows_to_writer c p s) (record h { locked = true })) (rows_to_writer c p s) c
Holds-writer k h s c p inside sound a idle one =
    let w : writes_at c (get_or s.rows p free_row) ≡ true = is_one-if _ (sym (sound.writers c p inside) ∙ one) in
    let before = write_is c (get_or s.rows p free_row) w in
    let there : p < length s.rows = write_inside c s.rows p w in
    let share = rw (before.0) at (count-set (shares_at c) s.rows p (record { waiting = way.ShareWrite; cell = c }) there) in
    let claim = rw (before.1, claim_is c) at (count-set (claims_at c) s.rows p (record { waiting = way.ShareWrite; cell = c }) there) in
    let none = a.locked idle.locked in
    Fits-flagged k (record h { locked = true }) (rows_to_writer c p s) c
    (record {
      shared = omega (arith, share, a.shared);
      one = omega (arith, claim, none);
      locked = λ e. absurd (cc);
      drained = λ e f. absurd (omega (arith, f, idle.readers));
      still = λ e. absurd (listed_once c p s one (a.still e).0.1);
    })
    (λ e f. absurd (cc))

pub holds_of : (k : LockerKind) (h : Holders) (s : Rows) (c : ℕ) → Fits k h s c → Holds k h s c
holds_of k h s c fits = record { shared = fits.shared; one = fits.one; locked = fits.locked; drained = fits.drained; still = fits.still }

-- ---- a hand-over

pub hands_fit : (g : Given) (k : LockerKind) (h : Holders) (s : Rows) (c : ℕ) (h' : Holders) (s' : Rows) → c < length s.readers → IsSound s → Holds k h s c → Hands c h s g h' s' → Fits k h' s' c
hands_fit Nobody k h s c h' s' inside sound a hands = rw (hands.held, hands.rows) (Fits-flagged k h s c a hands.must)
hands_fit (Writer p) k h s c h' s' inside sound a hands = rw (hands.held, hands.rows) (Holds-writer k h s c p inside sound a hands.may.0 hands.may.1)
hands_fit Readers k h s c h' s' inside sound a hands = rw (hands.held, hands.rows) (Holds-readers k h s c inside sound a hands.may.0 hands.may.1)

pub hands_fit_at : (g : Given) (k k₀ : LockerKind) (h h₀ : Holders) (s : Rows) (c : ℕ) (h' : Holders) (s' : Rows) → k ≡ k₀ → h ≡ h₀ → c < length s.readers → IsSound s → Holds k₀ h₀ s c → Hands c h s g h' s' → Fits k h' s' c
hands_fit_at g k k₀ h h₀ s c h' s' ek eh inside sound a hands =
    let here : Holds k h s c = rw (ek, eh) a in
    hands_fit g k h s c h' s' inside sound here hands
