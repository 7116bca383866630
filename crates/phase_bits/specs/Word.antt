-- The word that says a record of holders: the phase in its low 8 bits, the readers in the 20 above, a spare bit, then the lock and the two waiter flags.
use Rattle.std.specs.Prelude.{◌≡◌, ℕ, ◌+◌, ◌*◌, ◌/◌, ◌%◌, ◌^◌, ◌<◌, ◌==◌, Bool, if◌then◌else◌}
use Rattle.phase_bits.specs.Number.{number, phase_of}
use Rattle.phase_bits.specs.declared.holders.Holders.{Holders}

-- the fields of a word: the phase's number, the readers, the bit above them, the lock and the waiters, each 0 or 1
abbrev pub phase_in : ℕ → ℕ
phase_in word = word % 256

abbrev pub readers_in : ℕ → ℕ
readers_in word = word / 256 % 2 ^ 20

abbrev pub spare_in : ℕ → ℕ
spare_in word = word / 2 ^ 28 % 2

abbrev pub lock_in : ℕ → ℕ
lock_in word = word / 2 ^ 29 % 2

abbrev pub read_waiters_in : ℕ → ℕ
read_waiters_in word = word / 2 ^ 30 % 2

abbrev pub write_waiters_in : ℕ → ℕ
write_waiters_in word = word / 2 ^ 31 % 2

-- 1 where the flag is set
abbrev pub bit_of : Bool → ℕ
bit_of flag = if flag then 1 else 0

-- the word of a record
abbrev pub packed : Holders → ℕ
packed h = number h.phase + h.readers * 256 + bit_of h.locked * 2 ^ 29 + bit_of h.read_waiters * 2 ^ 30 + bit_of h.write_waiters * 2 ^ 31

-- the record that a word says
abbrev pub unpacked : ℕ → Holders
unpacked word = record {
  phase = phase_of (phase_in word);
  readers = readers_in word;
  locked = lock_in word == 1;
  read_waiters = read_waiters_in word == 1;
  write_waiters = write_waiters_in word == 1;
}

-- a number that is the word of a record
pub record IsPacked (word : ℕ) : Type 0 where
  pub below : word < 2 ^ 32
  pub spare : spare_in word ≡ 0
