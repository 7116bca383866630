-- What a run that hands out its lines has made. The lines that it handed out are not kept: so a contract says what they
-- are for every schedule and all lines that they may have been.
use Rattle.std.specs.Prelude.{List, [], ◌∷◌, ◌++◌, ◌≡◌, ◌≤◌, drop, length}
use Rattle.std.specs.declared.option.Option.{Option}
use Rattle.std.specs.declared.option.Option.TheVariants.{None, Some}
use Rattle.phase_bits.specs.declared.holders.Holders.{Holders}
use Rattle.phase_locker.specs.declared.holder.HolderLocker.{HolderLocker}
use Rattle.phase_locker.specs.declared.ways.LockerKind.{LockerKind}
use Rattle.schedule_rules.specs.declared.line.Line.{Line}
use Rattle.schedule_rules.specs.Legal.{IsLegal}
use Rattle.schedule_rules.specs.Transcripts.{Account, IsLegalTranscript, IsValid, Schedule, told}
use Rattle.phase_schedule.specs.Known.{TellsKnown}
use Rattle.phase_schedule.specs.Progress as progress
use Rattle.phase_schedule.specs.Progress.{Ends, Frame}
use Rattle.phase_schedule.specs.declared.ending.Ending.{Ending}
use Rattle.phase_schedule.specs.declared.running.Run.{Run}

-- the record that a locker of a run holds
abbrev pub held_by : HolderLocker → Holders
held_by l = l.holders

-- where its calls wait
abbrev pub place_by : HolderLocker → LockerKind
place_by l = l.kind

-- the frame of a schedule
abbrev pub frame_of : Schedule → Frame
frame_of x = record { parties = x.parties; cells = x.cells; count = length x.steps }

-- the run is of this schedule, and has made its first steps with these lines
pub record HasMade (x : Schedule) (lines : List Line) (r : Run) : Type 0 where
  pub valid : IsValid x
  pub steps : r.steps ≡ drop (length lines) x.steps
  pub few : length lines ≤ length x.steps
  pub made : progress.HasMade held_by place_by (frame_of x) (told [] x.steps lines) r.progress

-- the run is of some schedule
pub record IsRun (r : Run) : Type 0 where
  pub schedule : Schedule
  pub lines : List Line
  pub made : HasMade schedule lines r

-- one step more was made, with this line; or no step was left
abbrev pub GoesOnFrom : Schedule → List Line → Option Line → Run → Type 0
GoesOnFrom x lines (Some line) new = HasMade x (lines ++ line ∷ []) new × TellsKnown line.answer
GoesOnFrom x lines None new = HasMade x lines new × (length lines ≡ length x.steps)

-- whatever the run was of and had made
abbrev pub GoesOn : Run → Option Line → Run → Type 0
GoesOn old line new = (x : Schedule) (lines : List Line) → HasMade x lines old → GoesOnFrom x lines line new

-- the transcript of these lines and this end
abbrev pub account_with : List Line → Ending → Account
account_with lines e = record { lines = lines; finals = e.finals.items; exits = e.exits.items }

-- this is what a run leaves which made these lines: they are legal, and where every step was made, so is the transcript
pub record IsEnd (x : Schedule) (lines : List Line) (e : Ending) : Type 0 where
  pub legal : IsLegal x.cells (told [] x.steps lines)
  pub ends : Ends x.cells (told [] x.steps lines) e
  pub whole : length lines ≡ length x.steps → IsLegalTranscript x (account_with lines e)

-- whatever the run was of and had made
abbrev pub EndsSo : Run → Ending → Type 0
EndsSo r e = (x : Schedule) (lines : List Line) → HasMade x lines r → IsEnd x lines e
