-- What a run of the program reads and writes. What is said of the bytes of a source or a sink is said where they are known.
use Rattle.std.specs.Prelude.{ℕ, ◌≡◌, ◌≤◌, ◌<◌, ◌⊎◌, List, [], length, take, drop, IfSome}
use Rattle.std.specs.declared.option.Option.{Option}
use Rattle.std.specs.declared.option.Option.TheVariants.{Some}
use Rattle.std.specs.Io.KnownBytes.{Appends}
use Rattle.schedule_rules.specs.Transcripts.{Schedule, Account, IsValid, IsLegalTranscript}
use Rattle.schedule_text.specs.ScheduleText.{Spells, most_bytes}
use Rattle.schedule_text.specs.TranscriptText.{transcript_text}
use Rattle.phase_run.specs.declared.status.Status.{Status}
use Rattle.phase_run.specs.declared.status.Status.TheVariants as status
use Rattle.phase_run.specs.Words.{IsScheduleCall}

-- the bytes are the text of a schedule that can be run
pub record Accepted (input : List ℕ) : Type 0 where
  pub schedule : Schedule
  pub length_fits : length input ≤ most_bytes
  pub spelled : Spells input schedule
  pub valid : IsValid schedule

-- ---- why bytes are not accepted

-- there are too many
abbrev pub IsTooLong : List ℕ → Type 0
IsTooLong input = most_bytes < length input

-- they are the text of no schedule
abbrev pub IsNoText : List ℕ → Type 0
IsNoText input = (x : Schedule) → ¬ (Spells input x)

-- they are the text of a schedule, and of no other, that cannot be run
pub record IsInvalid (input : List ℕ) : Type 0 where
  pub schedule : Schedule
  pub spelled : Spells input schedule
  pub only : (y : Schedule) → Spells input y → schedule ≡ y
  pub invalid : ¬ (IsValid schedule)

-- one of these
abbrev pub IsRefused : List ℕ → Type 0
IsRefused input = IsTooLong input ⊎ (IsNoText input ⊎ IsInvalid input)

-- ---- what is due

-- the bytes were read to their end, and are the text of this schedule, and of no other
pub record IsRead (input : List ℕ) (rest : Option (List ℕ)) (x : Schedule) : Type 0 where
  pub length_fits : length input ≤ most_bytes
  pub spelled : Spells input x
  pub only : (y : Schedule) → Spells input y → x ≡ y
  pub to_the_end : rest ≡ Some []

-- what is due: a legal transcript of the valid schedule that was read
pub record Due (input rest : Option (List ℕ)) : Type 0 where
  pub schedule : Schedule
  pub read : IfSome input (λ bytes. IsRead bytes rest schedule)
  pub valid : IsValid schedule
  pub account : Account
  pub legal : IsLegalTranscript schedule account

-- the text is that of what is due
pub record IsDue (input rest : Option (List ℕ)) (text : List ℕ) : Type 0 where
  pub due : Due input rest
  pub text_is : text ≡ transcript_text due.account

-- the text that is due under these words, for this input, of which that is left, where the program ends so: that of a
-- legal transcript where all is done, and else none
abbrev pub IsDueText : List (List ℕ) → Option (List ℕ) → Option (List ℕ) → Status → List ℕ → Type 0
IsDueText words input rest status.Done text = IsScheduleCall words × IsDue input rest text
IsDueText words input rest _ text = text ≡ []

-- a text that is due was written
pub record IsWritten (words : List (List ℕ)) (input rest : Option (List ℕ)) (s : Status) (before after : Option (List ℕ)) : Type 0 where
  pub text : List ℕ
  pub due : IsDueText words input rest s text
  pub written : Appends before after text

-- the first bytes of it, so many
pub record IsWrittenInPart (words : List (List ℕ)) (input rest : Option (List ℕ)) (s : Status) (before after : Option (List ℕ)) : Type 0 where
  pub text : List ℕ
  pub due : IsDueText words input rest s text
  pub count : ℕ
  pub written : Appends before after (take count text)

-- no more than so many bytes were taken, from the front
abbrev pub TakesAtMost : ℕ → Option (List ℕ) → Option (List ℕ) → Type 0
TakesAtMost most input rest = IfSome input (λ bytes. (k : ℕ) × (k ≤ most) × (rest ≡ Some (drop k bytes)))
