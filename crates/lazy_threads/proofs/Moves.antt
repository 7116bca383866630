-- What each step does to the record that the word says.
use Rattle.std.proofs.Common.{◌||◌, ◌≡◌, ℕ, ◌+◌, ◌-◌, ◌/◌, ◌%◌, ◌^◌, ◌<◌, ◌==◌, false, refl, arith, ◌&&◌, not}
use Rattle.phase_bits.specs.Records.{admit_read, admit_write, leave_read, leave_write, downgrade}
use Rattle.phase_bits.specs.Word.{unpacked}
use Rattle.phase_bits.specs.declared.phase.Phase.{Phase}
use Rattle.phase_locker.specs.Natures.{bars}
use Rattle.phase_locker.specs.declared.tickets.LockNature.TheVariants as nature
use Rattle.lazy_threads.specs.Rule.{IsCellWord}

-- ---- a word that bars nobody

read_free : (l r : ℕ) → (((l == 1) && (r == 0)) || (r == 2 ^ 20 - 1)) ≡ false → l < 2 → (l ≡ 1 → r ≡ 0) → r < 2 ^ 20 → (l ≡ 0) × (r < 2 ^ 20 - 1)
read_free l r e small alone few = (grind (arith, alone, e), grind (arith, e))

pub free_read : (word : ℕ) → IsCellWord word → bars (unpacked word) nature.Read ≡ false → (word / 2 ^ 29 % 2 ≡ 0) × (word / 256 % 2 ^ 20 < 2 ^ 20 - 1)
free_read word is e = read_free (word / 2 ^ 29 % 2) (word / 256 % 2 ^ 20) e (omega arith) is.alone (omega arith)

write_free : (l r : ℕ) → ((l == 1) || not (r == 0)) ≡ false → l < 2 → (l ≡ 0) × (r ≡ 0)
write_free l r e small = (grind (arith, e), grind (arith, e))

pub free_write : (word : ℕ) → bars (unpacked word) nature.Write ≡ false → (word / 2 ^ 29 % 2 ≡ 0) × (word / 256 % 2 ^ 20 ≡ 0)
free_write word e = write_free (word / 2 ^ 29 % 2) (word / 256 % 2 ^ 20) e (omega arith)

-- ---- the moves

pub admits_read : (word : ℕ) → word / 256 % 2 ^ 20 < 2 ^ 20 - 1 → unpacked (word + 256) ≡ admit_read (unpacked word)
admits_read word few =
    let phase : (word + 256) % 256 ≡ word % 256 = omega arith in
    let readers : (word + 256) / 256 % 2 ^ 20 ≡ word / 256 % 2 ^ 20 + 1 = omega arith in
    let lock : (word + 256) / 2 ^ 29 % 2 ≡ word / 2 ^ 29 % 2 = omega arith in
    let read : (word + 256) / 2 ^ 30 % 2 ≡ word / 2 ^ 30 % 2 = omega arith in
    let write : (word + 256) / 2 ^ 31 % 2 ≡ word / 2 ^ 31 % 2 = omega arith in
    rw (phase, readers, lock, read, write) refl

pub admits_write : (word : ℕ) → word < 2 ^ 30 → word / 2 ^ 29 % 2 ≡ 0 → unpacked (word + 2 ^ 29) ≡ admit_write (unpacked word)
admits_write word below free =
    let phase : (word + 2 ^ 29) % 256 ≡ word % 256 = omega arith in
    let readers : (word + 2 ^ 29) / 256 % 2 ^ 20 ≡ word / 256 % 2 ^ 20 = omega arith in
    let lock : (word + 2 ^ 29) / 2 ^ 29 % 2 ≡ 1 = omega arith in
    let read : (word + 2 ^ 29) / 2 ^ 30 % 2 ≡ word / 2 ^ 30 % 2 = omega arith in
    let write : (word + 2 ^ 29) / 2 ^ 31 % 2 ≡ word / 2 ^ 31 % 2 = omega arith in
    rw (phase, readers, lock, read, write) refl

pub leaves_read : (word : ℕ) → 0 < word / 256 % 2 ^ 20 → unpacked (word - 256) ≡ leave_read (unpacked word)
leaves_read word any =
    let phase : (word - 256) % 256 ≡ word % 256 = omega arith in
    let readers : (word - 256) / 256 % 2 ^ 20 ≡ word / 256 % 2 ^ 20 - 1 = omega arith in
    let lock : (word - 256) / 2 ^ 29 % 2 ≡ word / 2 ^ 29 % 2 = omega arith in
    let read : (word - 256) / 2 ^ 30 % 2 ≡ word / 2 ^ 30 % 2 = omega arith in
    let write : (word - 256) / 2 ^ 31 % 2 ≡ word / 2 ^ 31 % 2 = omega arith in
    rw (phase, readers, lock, read, write) refl

-- the fields of the word beside a write hold that entered with this phase
write_fields : (entered : ℕ) → entered < 256 → ((entered + 2 ^ 29) / 256 % 2 ^ 20 ≡ 0) × ((entered + 2 ^ 29) / 2 ^ 30 % 2 ≡ 0) × ((entered + 2 ^ 29) / 2 ^ 31 % 2 ≡ 0)
write_fields entered small = (omega arith, omega arith, omega arith)

pub leaves_write : (p : Phase) (entered : ℕ) → p.bits < 256 → entered < 256 → unpacked p.bits ≡ leave_write p (unpacked (entered + 2 ^ 29))
leaves_write p entered known small =
    let phase : p.bits % 256 ≡ p.bits = omega arith in
    let readers : p.bits / 256 % 2 ^ 20 ≡ 0 = omega arith in
    let lock : p.bits / 2 ^ 29 % 2 ≡ 0 = omega arith in
    let read : p.bits / 2 ^ 30 % 2 ≡ 0 = omega arith in
    let write : p.bits / 2 ^ 31 % 2 ≡ 0 = omega arith in
    let was = write_fields entered small in
    rw (phase, readers, lock, read, write, was.0, was.1, was.2) refl

pub downgrades : (p : Phase) (entered : ℕ) → p.bits < 256 → entered < 256 → unpacked (p.bits + 256) ≡ downgrade p (unpacked (entered + 2 ^ 29))
downgrades p entered known small =
    let phase : (p.bits + 256) % 256 ≡ p.bits = omega arith in
    let readers : (p.bits + 256) / 256 % 2 ^ 20 ≡ 1 = omega arith in
    let lock : (p.bits + 256) / 2 ^ 29 % 2 ≡ 0 = omega arith in
    let read : (p.bits + 256) / 2 ^ 30 % 2 ≡ 0 = omega arith in
    let write : (p.bits + 256) / 2 ^ 31 % 2 ≡ 0 = omega arith in
    let was = write_fields entered small in
    rw (phase, readers, lock, read, write, was.0, was.1, was.2) refl
