-- The sections that run: their generators or finalizers have no outcome yet.
use Rattle.std.specs.Prelude.{ℕ, Bool, true, false, List, [], ◌∷◌, ◌==◌, length, if◌then◌else◌}
use Rattle.std.specs.List.{find}
use Rattle.std.specs.declared.option.Option.{Option}
use Rattle.std.specs.declared.option.Option.TheVariants.{None, Some}
use Rattle.schedule_rules.specs.declared.step.Want.{Want}
use Rattle.schedule_rules.specs.declared.step.Want.TheVariants.{Calls, Turns}
use Rattle.schedule_rules.specs.Deeds.{Deed, Opens, Ends, EndsToRead, EndsToWrite}
use Rattle.schedule_rules.specs.History.{Event, accepts, deed_of}

-- a section whose generator or finalizer runs
pub record Section : Type 0 where
  pub party : ℕ
  pub cell : ℕ
  pub want : Want
  pub start : ℕ  -- the number of the step that opened it
  pub is_open : Bool  -- whether a cell could be registered then

-- the section of a party that was opened last
abbrev pub innermost : ℕ → List Section → Option Section
innermost p ss = find (λ s. s.party == p) ss

-- the sections besides the party's innermost
abbrev pub without_innermost : ℕ → List Section → List Section
without_innermost p [] = []
without_innermost p (s ∷ ss) = if s.party == p then ss else s ∷ without_innermost p ss

-- the sections that run after this deed of the party
abbrev pub sections_by : List Event → ℕ → Deed → List Section → List Section
sections_by h p (Opens c w taken) ss = record { party = p; cell = c; want = w; start = length h; is_open = accepts h } ∷ ss
sections_by h p (Ends e) ss = without_innermost p ss
sections_by h p (EndsToRead v) ss = without_innermost p ss
sections_by h p (EndsToWrite v) ss = without_innermost p ss
sections_by h p _ ss = ss

-- the sections that run, the latest of which stands first
abbrev pub sections : List Event → List Section
sections [] = []
sections (e ∷ h) = sections_by h e.step.party (deed_of h e.step e.line.answer) (sections h)

-- a section of the cell
abbrev pub runs_in : ℕ → Section → Bool
runs_in c s = s.cell == c

-- a finalizer's section
abbrev pub is_turn : Want → Bool
is_turn Turns = true
is_turn (Calls k) = false

-- a generator's section of the party
abbrev pub generates_for : ℕ → Option Section → Bool
generates_for p None = false
generates_for p (Some s) = if is_turn s.want then false else (s.party == p)

-- the party runs the generator of the cell
abbrev pub runs : ℕ → ℕ → List Event → Bool
runs p c h = generates_for p (find (runs_in c) (sections h))
