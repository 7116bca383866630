-- The causes for which a schedule does not run.
use Rattle.std.specs.Prelude.{ℕ, List, [], ◌∷◌, ◌≡◌, ◌+◌, length, nat_lt, nat_le, if◌then◌else◌}
use Rattle.std.specs.declared.option.Option.{Option}
use Rattle.std.specs.declared.option.Option.TheVariants.{None, Some}
use Rattle.schedule_rules.specs.declared.plan.CellPlan.{CellPlan}
use Rattle.schedule_rules.specs.declared.step.Step.{Step}
use Rattle.schedule_rules.specs.Kinds.{is_placed}
use Rattle.schedule_rules.specs.Transcripts.{Schedule, most_parties, names_known_cell}
use Rattle.phase_schedule.specs.declared.error.RunError.{RunError}
use Rattle.phase_schedule.specs.declared.error.RunError.TheVariants as error

-- what is unknown of the step with this number: its party is looked at first
abbrev pub unknown_of : ℕ → ℕ → ℕ → Step → Option RunError
unknown_of parties cells n s =
    if nat_lt s.party parties
    then (if names_known_cell cells s.act then None else Some (error.UnknownCell n))
    else Some (error.UnknownParty n)

-- the first of two causes
abbrev pub first_cause : Option RunError → Option RunError → Option RunError
first_cause (Some e) other = Some e
first_cause None other = other

-- what is found of the first of these, numbered from n, of which something is
abbrev pub first_found : {X : Type 0} → (ℕ → X → Option RunError) → ℕ → List X → Option RunError
first_found look n [] = None
first_found look n (x ∷ xs) = first_cause (look n x) (first_found look (n + 1) xs)

-- a cell with this number that can't be at its place, where there are so many parties
abbrev pub misplaced_of : ℕ → ℕ → CellPlan → Option RunError
misplaced_of parties c x = if is_placed parties x.kind x.place then None else Some (error.BadPlan c)

-- there are too many parties
abbrev pub crowd_of : ℕ → Option RunError
crowd_of parties = if nat_le most_parties parties then Some error.TooManyParties else None

-- why a plan with so many parties and these cells does not run, where there is a cause
abbrev pub cause_of_plan : ℕ → List CellPlan → Option RunError
cause_of_plan parties cells = first_cause (crowd_of parties) (first_found (misplaced_of parties) 0 cells)

-- why the schedule does not run, where there is a cause: the plan is looked at first
abbrev pub cause_of : Schedule → Option RunError
cause_of x = first_cause (cause_of_plan x.parties x.cells) (first_found (unknown_of x.parties (length x.cells)) 0 x.steps)

-- the schedule does not run for this cause; want of memory may come where there is none
abbrev pub IsCause : Option RunError → RunError → Type 0
IsCause None e = e ≡ error.Memory
IsCause (Some cause) e = e ≡ cause
