use Rattle.std.proofs.Common.{◌≡◌, length}
use Rattle.schedule_text.specs.ReadFields.{digits_from}
use Rattle.schedule_text.proofs.read.field.digits.Given as goal

-- what is read on from here is what was read on from the start
abbrev pub invariant-loop-digit : goal.invariant-loop-digit
invariant-loop-digit l = digits_from l.number l.rest ≡ digits_from l.fn.number l.fn.text

abbrev pub decreases-loop-digit : goal.decreases-loop-digit
decreases-loop-digit l = length l.rest
