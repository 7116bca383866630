-- What the steps of a run hand on.
use Rattle.std.specs.Prelude.{ℕ, ◌≡◌, List, [], IfSome}
use Rattle.std.specs.declared.option.Option.{Option}
use Rattle.std.specs.declared.option.Option.TheVariants.{Some}
use Rattle.schedule_rules.specs.Transcripts.{Schedule}
use Rattle.schedule_text.specs.ScheduleText.{Spells}
use Rattle.phase_schedule.specs.declared.running.Run.{Run}
use Rattle.phase_schedule.specs.Running.{HasMade}
use Rattle.phase_run.specs.Runs.{IsRead}

-- the text is all that the source had
pub record IsAll (input : List ℕ) (rest : Option (List ℕ)) (text : List ℕ) : Type 0 where
  pub all : input ≡ text
  pub to_the_end : rest ≡ Some []

-- where the source's bytes are known, the text is all of them
abbrev pub IsWhole : Option (List ℕ) → Option (List ℕ) → List ℕ → Type 0
IsWhole input rest text = IfSome input (λ bytes. IsAll bytes rest text)

-- the text spells this schedule, and no other
pub record SpellsOnly (text : List ℕ) (x : Schedule) : Type 0 where
  pub spelled : Spells text x
  pub only : (y : Schedule) → Spells text y → x ≡ y

-- the run is of the schedule that the text spells, before its first step
pub record IsBegun (text : List ℕ) (run : Run) : Type 0 where
  pub schedule : Schedule
  pub spells : SpellsOnly text schedule
  pub made : HasMade schedule [] run

-- all that the source had was read, and its schedule can be run and told: the page is clear
pub record IsReady (input rest : Option (List ℕ)) (run : Run) (page : List ℕ) : Type 0 where
  pub schedule : Schedule
  pub read : IfSome input (λ bytes. IsRead bytes rest schedule)
  pub made : HasMade schedule [] run
  pub clear : page ≡ []
