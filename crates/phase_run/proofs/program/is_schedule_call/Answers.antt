use Rattle.std.proofs.Common.{string_bytes}
use Rattle.std.proofs.lemmas.Slice.Eq.{bytes_eq-Decides}
use Rattle.phase_run.proofs.Called.{one_element}
use Rattle.phase_run.proofs.program.is_schedule_call.Goals as goal

pub returns-in-len1 : goal.returns-in-len1
returns-in-len1 c =
    rw (one_element string_bytes c.args.words.now c.word-item.result c.in-len1.len_at_least c.in-len1.len_below c.word-item.is)
    (rw (c.eq.ensures, c.as_str.ensures.value) (bytes_eq-Decides _ _))
