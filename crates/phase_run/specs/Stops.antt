-- Why nothing is written.
use Rattle.std.specs.Prelude.{ℕ, List, IfSome, ⊤}
use Rattle.std.specs.declared.option.Option.{Option}
use Rattle.schedule_rules.specs.Transcripts.{Schedule, IsValid}
use Rattle.phase_run.specs.declared.stop.Stop.{Stop}
use Rattle.phase_run.specs.declared.stop.Stop.TheVariants as stop
use Rattle.phase_run.specs.Faults.{Rose}
use Rattle.phase_run.specs.Runs.{IsTooLong, IsNoText, IsInvalid}

-- why reading stopped: the count of faults rose, there are too many bytes, or memory ran out
abbrev pub StopsReading : Option (List ℕ) → ℕ → ℕ → Stop → Type 0
StopsReading input old new stop.Fault = Rose old new
StopsReading input old new stop.TooLong = IfSome input IsTooLong
StopsReading input old new stop.BadLine = ⊥
StopsReading input old new stop.Refused = ⊥
StopsReading input old new stop.Memory = ⊤

-- why a schedule is not run: it cannot be run, or memory ran out
abbrev pub StopsRun : Schedule → Stop → Type 0
StopsRun x stop.Fault = ⊥
StopsRun x stop.TooLong = ⊥
StopsRun x stop.BadLine = ⊥
StopsRun x stop.Refused = ¬ (IsValid x)
StopsRun x stop.Memory = ⊤

-- why a text is not answered: it is that of no schedule, its schedule cannot be run, or memory ran out
abbrev pub StopsAnswer : List ℕ → Stop → Type 0
StopsAnswer text stop.Fault = ⊥
StopsAnswer text stop.TooLong = ⊥
StopsAnswer text stop.BadLine = IsNoText text
StopsAnswer text stop.Refused = IsInvalid text
StopsAnswer text stop.Memory = ⊤

-- why there is no answer to a source
abbrev pub StopsBeforeWriting : Option (List ℕ) → ℕ → ℕ → Stop → Type 0
StopsBeforeWriting input old new stop.Fault = Rose old new
StopsBeforeWriting input old new stop.TooLong = IfSome input IsTooLong
StopsBeforeWriting input old new stop.BadLine = IfSome input IsNoText
StopsBeforeWriting input old new stop.Refused = IfSome input IsInvalid
StopsBeforeWriting input old new stop.Memory = ⊤
