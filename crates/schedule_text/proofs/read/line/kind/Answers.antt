use Rattle.std.proofs.Common.{refl}
use Rattle.schedule_text.proofs.read.line.kind.Goals as goal

pub returns-in-Some-after_word-4 : goal.returns-in-Some-after_word-4
returns-in-Some-after_word-4 c = rw (c.in_default.ensures, c.in_default-after_word.ensures, c.in_default-after_word-2.ensures, c.in_default-after_word-3.ensures, c.in-Some-after_word-4.ensures) refl

pub returns-in-Some-after_word-5 : goal.returns-in-Some-after_word-5
returns-in-Some-after_word-5 c = rw (c.in_default.ensures, c.in_default-after_word.ensures, c.in_default-after_word-2.ensures, c.in_default-after_word-3.ensures, c.in_default-after_word-4.ensures, c.in-Some-after_word-5.ensures) refl

pub returns-in-Some-after_word-6 : goal.returns-in-Some-after_word-6
returns-in-Some-after_word-6 c = rw (c.in_default.ensures, c.in_default-after_word.ensures, c.in_default-after_word-2.ensures, c.in_default-after_word-3.ensures, c.in_default-after_word-4.ensures, c.in_default-after_word-5.ensures, c.in-Some-after_word-6.ensures) refl

pub returns : goal.returns
returns c = rw (c.in_default.ensures, c.in_default-after_word.ensures, c.in_default-after_word-2.ensures, c.in_default-after_word-3.ensures, c.in_default-after_word-4.ensures, c.in_default-after_word-5.ensures, c.in_default-after_word-6.ensures) refl
