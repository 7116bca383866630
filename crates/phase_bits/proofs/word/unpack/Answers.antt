use Rattle.phase_bits.proofs.Words.{masked-unpacked}
use Rattle.phase_bits.proofs.word.unpack.Goals as goal

pub returns : goal.returns
returns c = masked-unpacked c.args.word _ c.from_bits_truncate.ensures.flags
