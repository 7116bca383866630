-- What the calls of a locker leave of a cell's record.
use Rattle.phase_moves.proofs.Words.{◌≡◌, ◌<◌, ◌≤◌, ◌+◌, ◌∙◌, ℕ, length, ap, refl, arith, length-set, Phase, Holders, phase_of, leave_read, leave_write}
use Rattle.phase_moves.proofs.Words.{downgrade, most_readers, Given, LockerKind, Parking, readers_of, Fits, IsWriteOpen, open_reads, Hands, Downgrades, MayHand, rows_handed}
use Rattle.phase_moves.proofs.Words.{held_handed, SameAt, write_has_no_reader, IsLocked}

-- a gift leaves the phase
pub handed_phase : (g : Given) (c : ℕ) (s : Parking) (h : Holders) → (held_handed c g s h).phase ≡ h.phase
handed_phase g c s h = grind arith

-- and the number of the lists of writers
pub handed_writers : (g : Given) (c : ℕ) (s : Parking) → length (rows_handed c g s).writers ≡ length s.writers
handed_writers (Given.Writer q) c s = length-set s.writers c _
handed_writers _ c s = refl

pub hands_phase : (c : ℕ) (h : Holders) (s : Parking) (g : Given) (h' : Holders) (s' : Parking) → Hands c h s g h' s' → h'.phase ≡ h.phase
hands_phase c h s g h' s' k = ap (λ (x : Holders). x.phase) k.held ∙ handed_phase g c s h

pub hands_writers : (c : ℕ) (h : Holders) (s : Parking) (g : Given) (h' : Holders) (s' : Parking) → Hands c h s g h' s' → length s'.writers ≡ length s.writers
hands_writers c h s g h' s' k = ap (λ (x : Parking). length x.writers) k.rows ∙ handed_writers g c s

pub downgrades_phase : (c : ℕ) (q : Phase) (h : Holders) (s : Parking) (g : Given) (h' : Holders) (s' : Parking) → Downgrades c q h s g h' s' → h'.phase ≡ q
downgrades_phase c q h s g h' s' k = ap (λ (x : Holders). x.phase) k.held ∙ handed_phase g c s (downgrade q h)

pub downgrades_writers : (c : ℕ) (q : Phase) (h : Holders) (s : Parking) (g : Given) (h' : Holders) (s' : Parking) → Downgrades c q h s g h' s' → length s'.writers ≡ length s.writers
downgrades_writers c q h s g h' s' k = ap (λ (x : Parking). length x.writers) k.rows ∙ handed_writers g c s

-- ---- how many read then

pub handed_few : (g : Given) (c : ℕ) (h : Holders) (s : Parking) → MayHand c h s g → h.readers ≤ most_readers → length (readers_of s c) ≤ most_readers → (held_handed c g s h).readers ≤ most_readers
handed_few g c h s may le room = grind arith

-- what is said of a cell stays where the rows say the same of it
pub locked_same : (k : LockerKind) (h : Holders) (s s' : Parking) (d r w p : ℕ) → SameAt d s s' → IsLocked k h s d r w p → IsLocked k h s' d r w p
locked_same k h s s' d r w p same l = grind arith

-- beside an open read nothing writes
pub reading_alone : (k : LockerKind) (h : Holders) (s : Parking) (c r w p : ℕ) → IsLocked k h s c r w p → 0 < r → w ≡ 0
reading_alone k h s c r w p l lt = grind (arith, lt, l, write_has_no_reader k h s c l.fits)

-- and beside a write nothing reads
pub writing_alone : (k : LockerKind) (h : Holders) (s : Parking) (c r w p : ℕ) → IsLocked k h s c r w p → 0 < w → r ≡ 0
writing_alone k h s c r w p l lt = let o = write_has_no_reader k h s c l.fits (l.write_is lt) in let a = l.reads_are in omega (arith, o, a)

-- a read lock is given back
pub locked_read : (k k' : LockerKind) (h h' : Holders) (s s' : Parking) (c r w p : ℕ) (g : Given) → IsLocked k h s c (r + 1) w p → k' ≡ k → Hands c (leave_read h) s g h' s' → open_reads h' s' c + 1 ≡ open_reads h s c → (IsWriteOpen h' s' c → ⊥) → Fits k' h' s' c → length (readers_of s c) ≤ most_readers → IsLocked k' h' s' c r w p
locked_read k k' h h' s s' c r w p g l same hands reads closed fits parked = grind arith

-- a write lock is given back
pub locked_write : (k k' : LockerKind) (h h' : Holders) (s s' : Parking) (c p : ℕ) (q : Phase) (g : Given) → Hands c (leave_write q h) s g h' s' → open_reads h' s' c ≡ 0 → (IsWriteOpen h' s' c → ⊥) → Fits k' h' s' c → q ≡ phase_of p → h.readers ≤ most_readers → length (readers_of s c) ≤ most_readers → IsLocked k' h' s' c 0 0 p
locked_write k k' h h' s s' c p q g hands reads closed fits e le parked = grind arith

-- it becomes a read lock
pub locked_down : (k' : LockerKind) (h h' : Holders) (s s' : Parking) (c p : ℕ) (q : Phase) (g : Given) → Downgrades c q h s g h' s' → open_reads h' s' c ≡ 1 → (IsWriteOpen h' s' c → ⊥) → Fits k' h' s' c → q ≡ phase_of p → h.readers ≡ 0 → 1 + length (readers_of s c) ≤ most_readers → IsLocked k' h' s' c 1 0 p
locked_down k' h h' s s' c p q g down reads closed fits e none room = grind arith
