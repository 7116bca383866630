-- Facts for one status.
use Rattle.std.specs.Prelude.{ℕ, ◌≤◌, ⊤}
use Rattle.phase_run.specs.declared.status.Status.{Status}
use Rattle.phase_run.specs.declared.status.Status.TheVariants as status

-- the number that the program ends with
abbrev pub code_of : Status → ℕ
code_of status.Done = 0
code_of status.Usage = 1
code_of status.BadLine = 2
code_of status.ReadFault = 5
code_of status.WriteFault = 6
code_of status.Memory = 7

-- a fact, where all was written
abbrev pub OnDone : Status → Type 0 → Type 0
OnDone status.Done P = P
OnDone _ P = ⊤

-- a fact, where the words are not those of a call
abbrev pub OnUsage : Status → Type 0 → Type 0
OnUsage status.Usage P = P
OnUsage _ P = ⊤

-- a fact, where the text is refused
abbrev pub OnBadLine : Status → Type 0 → Type 0
OnBadLine status.BadLine P = P
OnBadLine _ P = ⊤

-- a fact, where the source failed
abbrev pub OnReadFault : Status → Type 0 → Type 0
OnReadFault status.ReadFault P = P
OnReadFault _ P = ⊤

-- a fact, where the sink failed
abbrev pub OnWriteFault : Status → Type 0 → Type 0
OnWriteFault status.WriteFault P = P
OnWriteFault _ P = ⊤

-- a fact, where nothing was to be written
abbrev pub OnNothingWritten : Status → Type 0 → Type 0
OnNothingWritten status.Done P = ⊤
OnNothingWritten status.WriteFault P = ⊤
OnNothingWritten _ P = P

-- the counts of faults of a source and of a sink did not fall
pub record IsSteady (source_old source_new sink_old sink_new : ℕ) : Type 0 where
  pub source : source_old ≤ source_new
  pub sink : sink_old ≤ sink_new

-- all was written, or memory ran out
abbrev pub IsDoneUnlessMemory : Status → Type 0
IsDoneUnlessMemory status.Done = ⊤
IsDoneUnlessMemory status.Memory = ⊤
IsDoneUnlessMemory _ = ⊥

-- the text is refused, or memory ran out
abbrev pub IsBadLineUnlessMemory : Status → Type 0
IsBadLineUnlessMemory status.BadLine = ⊤
IsBadLineUnlessMemory status.Memory = ⊤
IsBadLineUnlessMemory _ = ⊥

-- the words are refused, or memory ran out
abbrev pub IsUsageOrMemory : Status → Type 0
IsUsageOrMemory status.Usage = ⊤
IsUsageOrMemory status.Memory = ⊤
IsUsageOrMemory _ = ⊥
