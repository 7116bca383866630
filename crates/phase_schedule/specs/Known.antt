-- Phases that are handed out have no bit above the eight flags.
use Rattle.std.specs.Prelude.{List, All}
use Rattle.phase_bits.specs.Number.{IsKnown}
use Rattle.schedule_rules.specs.declared.line.Answer.{Answer}
use Rattle.schedule_rules.specs.declared.line.Answer.TheVariants as answer
use Rattle.schedule_rules.specs.declared.transcript.Final.{Final}

-- that of an answer, where it tells one
abbrev pub TellsKnown : Answer → Type 0
TellsKnown (answer.Phase p) = IsKnown p
TellsKnown (answer.Access p) = IsKnown p
TellsKnown _ = Unit {0}

-- those that the cells are left with
abbrev pub AreKnown : List Final → Type 0
AreKnown finals = All (λ x. IsKnown x.phase) finals
