-- A text that is told as it is made: a page of it is written when it is full.
use Rattle.std.specs.Prelude.{ℕ, List, [], ◌++◌, ◌≡◌, ◌≤◌, OnOk, OnErr, length, take}
use Rattle.std.specs.declared.option.Option.{Option}
use Rattle.std.specs.declared.result.Result.{Result}
use Rattle.std.specs.Io.KnownBytes.{Appends}
use Rattle.phase_schedule.specs.declared.running.Run.{Run}
use Rattle.phase_schedule.specs.Running.{HasMade}
use Rattle.schedule_rules.specs.declared.line.Line.{Line}
use Rattle.schedule_rules.specs.Transcripts.{Account, IsLegalTranscript, Schedule}
use Rattle.schedule_text.specs.Lines.{lines_text}
use Rattle.schedule_text.specs.TranscriptText.{step_lines, transcript_text}
use Rattle.phase_run.specs.declared.failed.Failed.{Failed}
use Rattle.phase_run.specs.Faults.{Rose}

-- who tells a text: the bytes given to the sink, where they are known, the faults that there were, the bytes on the page,
-- and whether the sink took all that it was handed
pub record Teller : Type 0 where
  pub given : Option (List ℕ)
  pub faults : ℕ
  pub page : List ℕ
  pub told : Result (Unit {0}) Failed

-- this text was told since the sink had these bytes and faults: its front was written, and the rest is on the page, unless
-- the sink failed
pub record HasTold (given : Option (List ℕ)) (faults : ℕ) (text : List ℕ) (t : Teller) : Type 0 where
  pub written : List ℕ
  pub rest : List ℕ
  pub appended : Appends given t.given written
  pub parts : written ++ rest ≡ text
  pub on_page : OnOk t.told (rest ≡ t.page)
  pub failed : OnErr t.told (Rose faults t.faults)
  pub steady : faults ≤ t.faults

-- whatever was told, these bytes were told after it
abbrev pub Tells : List ℕ → Teller → Teller → Type 0
Tells bytes old new = (given : Option (List ℕ)) (faults : ℕ) (text : List ℕ) → HasTold given faults text old → HasTold given faults (text ++ bytes) new

-- who tells, with these
abbrev pub teller : Option (List ℕ) → ℕ → List ℕ → Result (Unit {0}) Failed → Teller
teller given faults page told = record { given = given; faults = faults; page = page; told = told }

-- ---- a whole transcript

-- the first steps of a schedule, so many, were told, whose run made them
pub record HasToldFirst (x : Schedule) (count : ℕ) (old new : Teller) (run : Run) : Type 0 where
  pub lines : List Line
  pub made : HasMade x lines run
  pub many : length lines ≡ count
  pub tells : Tells (lines_text (step_lines 0 lines)) old new

-- all steps were told, whatever the run is of
abbrev pub TellsSteps : Run → Teller → Run → Teller → Type 0
TellsSteps old from new to = (x : Schedule) → HasMade x [] old → HasToldFirst x (length x.steps) from to new

-- the run is of some schedule, and has made no step
pub record IsNew (run : Run) : Type 0 where
  pub schedule : Schedule
  pub made : HasMade schedule [] run

-- a legal transcript of the schedule was told: its text was written, whole, or its front where the sink failed
pub record IsToldOf (x : Schedule) (before after : Option (List ℕ)) (old new : ℕ) (told : Result (Unit {0}) Failed) : Type 0 where
  pub account : Account
  pub legal : IsLegalTranscript x account
  pub whole : OnOk told (Appends before after (transcript_text account))
  pub part : OnErr told ((k : ℕ) × Appends before after (take k (transcript_text account)))
  pub failed : OnErr told (Rose old new)
  pub steady : old ≤ new

-- whatever the run is of
abbrev pub TellsRun : Run → Option (List ℕ) → Option (List ℕ) → ℕ → ℕ → Result (Unit {0}) Failed → Type 0
TellsRun run before after old new told = (x : Schedule) → HasMade x [] run → IsToldOf x before after old new told
