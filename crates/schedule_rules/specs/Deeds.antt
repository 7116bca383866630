-- What a step with its answer does to what stands open: one table. Sections, guards, what is given back, and the exit are
-- folds of the deed of each event.
use Rattle.std.specs.Prelude.{ℕ, Bool, true, false, List, [], ◌∷◌}
use Rattle.std.specs.declared.option.Option.{Option}
use Rattle.std.specs.declared.option.Option.TheVariants.{None, Some}
use Rattle.schedule_rules.specs.declared.step.Act.{Act}
use Rattle.schedule_rules.specs.declared.step.Act.TheVariants as act
use Rattle.schedule_rules.specs.declared.step.Want.{Want}
use Rattle.schedule_rules.specs.declared.step.Want.TheVariants.{Calls, Turns}
use Rattle.schedule_rules.specs.declared.line.Answer.{Answer}
use Rattle.schedule_rules.specs.declared.line.Answer.TheVariants as answer
use Rattle.schedule_rules.specs.Changes.{Change, Ran, Asked, Put, RanIfAsked}

-- how a section ends
pub data Ending : Type 0 where
  Makes : (made : Option ℕ) → Ending  -- its generator ended, with a value or failing
  Finishes : (fine : Bool) (left : Option ℕ) → Ending  -- its finalizer ended, and left a value or none

-- what a party does in a step. A guard that it gets has the number of the step
pub data Deed : Type 0 where
  Quiet : Deed  -- nothing that is open or published changes
  Opens : (c : ℕ) (w : Want) (taken : Bool) → Deed  -- a section of the cell begins to run. A turn may be taken for it now
  Holds : (c : ℕ) (writes : Bool) → Deed  -- a guard of the cell, without a run
  Ends : (e : Ending) → Deed  -- the innermost section is given back
  EndsToRead : (v : ℕ) → Deed  -- its generator made this value. It is given back, and a guard reads on
  EndsToWrite : (v : ℕ) → Deed  -- its generator made this value, and a guard carries it on
  Drops : (g : ℕ) → Deed  -- the guard is given back, with its section where it writes
  DropsToRead : (g : ℕ) → Deed  -- the same, and a guard reads on
  Beside : (g : ℕ) → Deed  -- one more guard to read, beside this one
  Puts : (g v : ℕ) → Deed  -- the holder of the guard sets this value
  Visits : (c : ℕ) (chs : List Change) (reads : Bool) → Deed  -- a section that opens and closes at once, with what happened in it. A guard may read on
  Lends : (c : ℕ) (chs : List Change) → Deed  -- the value of the cell is lent and given back at once, with what happened
  Skips : (c : ℕ) (taken : Bool) → Deed  -- the turn of the cell ends without a section. It may be taken now
  Takes : Deed  -- the turn of the first cell left is taken, and waits
  Looks : (closes : Bool) → Deed  -- the cells registered since the last look are taken; there is none, and the exit closes

-- ---- the rows of the table, by what the party asked last

abbrev pub deed_running : Act → Deed
deed_running (act.Call c k) = Opens c (Calls k) false
deed_running _ = Quiet

abbrev pub deed_phased : Bool → Act → Deed
deed_phased o (act.Call c k) = Visits c (Asked o k ∷ []) false
deed_phased o (act.Made v) = Ends (Makes (Some v))
deed_phased o (act.Finished left) = Ends (Finishes true left)
deed_phased o (act.FinishFailed left) = Ends (Finishes false left)
deed_phased o _ = Quiet

abbrev pub deed_shown : Bool → Act → Deed
deed_shown o (act.Made v) = Ends (Makes (Some v))
deed_shown o (act.GetMut c made left) = Lends c (Put left ∷ RanIfAsked o made ∷ [])
deed_shown o (act.TryGetMut c left) = Lends c (Put left ∷ [])
deed_shown o _ = Quiet

-- a call that left nothing open, or a guard to read
abbrev pub deed_visited : Bool → Bool → Act → Deed
deed_visited o reads (act.Call c k) = Visits c (Asked o k ∷ []) reads
deed_visited o reads _ = Quiet

abbrev pub deed_failed : Bool → Act → Deed
deed_failed o act.MadeFailed = Ends (Makes None)
deed_failed o (act.GetMut c made left) = Lends c (Ran o None ∷ [])
deed_failed o _ = Quiet

abbrev pub deed_read : Act → Deed
deed_read (act.Call c k) = Holds c false
deed_read (act.Made v) = EndsToRead v
deed_read (act.Downgrade g) = DropsToRead g
deed_read (act.Clone g) = Beside g
deed_read _ = Quiet

abbrev pub deed_written : Act → Deed
deed_written (act.Call c k) = Holds c true
deed_written (act.Made v) = EndsToWrite v
deed_written _ = Quiet

abbrev pub deed_done : Act → Deed
deed_done (act.Release g) = Drops g
deed_done (act.Set g v) = Puts g v
deed_done _ = Quiet

-- an Exit that waits
abbrev pub deed_waiting : Bool → Deed
deed_waiting true = Takes
deed_waiting false = Quiet

-- the deed, by whether cells may still be registered, whether the step is an Exit, what its party asked last, and the
-- answer
abbrev pub deed_by : Bool → Bool → Act → Answer → Deed
deed_by o e a (answer.Refused r) = Quiet
deed_by o e a answer.Running = deed_running a
deed_by o e a (answer.Finalizing c) = Opens c Turns e
deed_by o e a (answer.Skipped c) = Skips c e
deed_by o e a (answer.Round n) = Looks false
deed_by o e a answer.Closed = Looks true
deed_by o e a (answer.Phase p) = deed_phased o a
deed_by o e a (answer.Value v) = deed_shown o a
deed_by o e a answer.ReadGuard = deed_read a
deed_by o e a answer.ErrGuard = deed_visited o true a
deed_by o e a answer.WriteGuard = deed_written a
deed_by o e a answer.Done = deed_done a
deed_by o e a (answer.Access p) = deed_visited o false a
deed_by o e a answer.Failed = deed_failed o a
deed_by o e a answer.Cyclic = Quiet
deed_by o e a answer.Borrowed = Quiet
deed_by o e a answer.Missed = Quiet
deed_by o e a (answer.Waiting way) = deed_waiting e

-- ---- what a deed does to the exit

-- it is one of the exit: a turn that is taken, or a look
abbrev pub is_of_exit : Deed → Bool
is_of_exit (Opens c w taken) = taken
is_of_exit (Skips c taken) = taken
is_of_exit Takes = true
is_of_exit (Looks closes) = true
is_of_exit _ = false
