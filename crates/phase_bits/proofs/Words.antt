-- A record and its word.
use Rattle.std.proofs.Common.{◌≡◌, ◌==◌, ℕ, ◌+◌, ◌*◌, ◌^◌, ◌<◌, ◌/◌, ◌%◌, Bool, true, false, arith, refl, ◌∙◌, ap, not, nat_eq}
use Rattle.std.specs.Int.RustNames.{bit_and}
use Rattle.std.proofs.lemmas.Nat.{and_mask, pow_pos}
use Rattle.std.proofs.lemmas.Nat.Bits.{and_pow, and_high}
use Rattle.phase_bits.specs.declared.holders.Holders.{Holders}
use Rattle.phase_bits.specs.declared.phase.Phase.{Phase}
use Rattle.phase_bits.specs.Number.{number, phase_of}
use Rattle.phase_bits.specs.Records.{IsValid}
use Rattle.phase_bits.specs.Word.{packed, unpacked, bit_of, IsPacked}

-- ---- what was packed is unpacked

bit_below : (flag : Bool) → bit_of flag < 2
bit_below true = omega arith
bit_below false = omega arith

bit_is : (flag : Bool) → (bit_of flag == 1) ≡ flag
bit_is true = refl
bit_is false = refl

-- the fields of a sum of fields
record_fields : (p r a b c : ℕ) → p < 256 → r < 2 ^ 20 → a < 2 → b < 2 → c < 2 →
    ((p + r * 256 + a * 2 ^ 29 + b * 2 ^ 30 + c * 2 ^ 31) % 256 ≡ p)
    × ((p + r * 256 + a * 2 ^ 29 + b * 2 ^ 30 + c * 2 ^ 31) / 256 % 2 ^ 20 ≡ r)
    × ((p + r * 256 + a * 2 ^ 29 + b * 2 ^ 30 + c * 2 ^ 31) / 2 ^ 29 % 2 ≡ a)
    × ((p + r * 256 + a * 2 ^ 29 + b * 2 ^ 30 + c * 2 ^ 31) / 2 ^ 30 % 2 ≡ b)
    × ((p + r * 256 + a * 2 ^ 29 + b * 2 ^ 30 + c * 2 ^ 31) / 2 ^ 31 % 2 ≡ c)
record_fields p r a b c hp hr ha hb hc = (omega arith, omega arith, omega arith, omega arith, omega arith)

pub unpacked-packed : (h : Holders) → IsValid h → unpacked (packed h) ≡ h
unpacked-packed h valid =
    let few : h.readers < 2 ^ 20 = omega (arith, valid.readers) in
    let is = record_fields (number h.phase) h.readers (bit_of h.locked) (bit_of h.read_waiters) (bit_of h.write_waiters) valid.phase.below few (bit_below h.locked) (bit_below h.read_waiters) (bit_below h.write_waiters) in
    rw (is.0, is.1, is.2, is.3, is.4, bit_is h.locked, bit_is h.read_waiters, bit_is h.write_waiters) refl

-- ---- what was unpacked is packed

bit_of-is : (n : ℕ) → n < 2 → bit_of (n == 1) ≡ n
bit_of-is n h = grind arith

fields_sum : (word : ℕ) → word < 2 ^ 32 → word / 2 ^ 28 % 2 ≡ 0 → word % 256 + word / 256 % 2 ^ 20 * 256 + word / 2 ^ 29 % 2 * 2 ^ 29 + word / 2 ^ 30 % 2 * 2 ^ 30 + word / 2 ^ 31 % 2 * 2 ^ 31 ≡ word
fields_sum word below spare = omega arith

pub packed-unpacked : (word : ℕ) → IsPacked word → packed (unpacked word) ≡ word
packed-unpacked word is =
    rw (bit_of-is (word / 2 ^ 29 % 2) (omega arith), bit_of-is (word / 2 ^ 30 % 2) (omega arith), bit_of-is (word / 2 ^ 31 % 2) (omega arith)) (fields_sum word is.below is.spare)

sum_packed : (p r a b c : ℕ) → p < 256 → r < 2 ^ 20 → a < 2 → b < 2 → c < 2 → IsPacked (p + r * 256 + a * 2 ^ 29 + b * 2 ^ 30 + c * 2 ^ 31)
sum_packed p r a b c hp hr ha hb hc = record { below = omega arith; spare = omega arith }

pub packed-IsPacked : (h : Holders) → IsValid h → IsPacked (packed h)
packed-IsPacked h valid =
    let few : h.readers < 2 ^ 20 = omega (arith, valid.readers) in
    sum_packed (number h.phase) h.readers (bit_of h.locked) (bit_of h.read_waiters) (bit_of h.write_waiters) valid.phase.below few (bit_below h.locked) (bit_below h.read_waiters) (bit_below h.write_waiters)

-- ---- masks

bit_test : (a m : ℕ) → a < 2 → 0 < m → not (a * m == 0) ≡ (a == 1)
bit_test a m h k = grind arith

masked_bit : (word k : ℕ) → not (bit_and word (2 ^ k) == 0) ≡ (word / 2 ^ k % 2 == 1)
masked_bit word k = rw (and_pow word k) (bit_test (word / 2 ^ k % 2) (2 ^ k) (omega arith) (pow_pos k))

masked_readers : (word : ℕ) → bit_and word 268435200 / 256 ≡ word / 256 % 2 ^ 20
masked_readers word = rw (and_high word 20 8) (omega arith)

-- a record that was read by masks
pub masked-unpacked : (word : ℕ) (p : Phase) → number p ≡ bit_and word 255 → ◌≡◌ {A = Holders} record { phase = p; readers = bit_and word 268435200 / 256; locked = not (nat_eq (bit_and word 536870912) 0); read_waiters = not (nat_eq (bit_and word 1073741824) 0); write_waiters = not (nat_eq (bit_and word 2147483648) 0) } (unpacked word)
masked-unpacked word p e = let same : p ≡ phase_of (word % 256) = ap phase_of (e ∙ and_mask word 8) in rw (same, masked_readers word, masked_bit word 29, masked_bit word 30, masked_bit word 31) refl
