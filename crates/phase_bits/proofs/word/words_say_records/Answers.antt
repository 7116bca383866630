use Rattle.phase_bits.proofs.Words.{unpacked-packed, packed-unpacked, packed-IsPacked}
use Rattle.phase_bits.proofs.word.words_say_records.Goals as goal

pub returns-clause-unpacked : goal.returns-clause-unpacked
returns-clause-unpacked c = unpacked-packed

pub returns-clause-packed : goal.returns-clause-packed
returns-clause-packed c = packed-unpacked

pub returns-clause-below : goal.returns-clause-below
returns-clause-below c = packed-IsPacked
