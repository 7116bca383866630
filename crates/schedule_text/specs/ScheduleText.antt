-- The text of a schedule.
use Rattle.std.specs.Prelude.{ℕ, Bool, true, false, ◌<◌, ◌^◌, ◌≡◌, List, [], ◌∷◌, ◌++◌, Option, Some, None, ◌==◌, map, codes, if◌then◌else◌}
use Rattle.std.specs.List.{AllByRecursion}
use Rattle.std.specs.Fmt.{decimal}
use Rattle.lazy_cells.specs.declared.kind.Kind.{Kind}
use Rattle.lazy_cells.specs.declared.kind.Kind.TheVariants as kind
use Rattle.schedule_rules.specs.declared.plan.Place.{Place}
use Rattle.schedule_rules.specs.declared.plan.Place.TheVariants as place
use Rattle.lazy_cells.specs.declared.call.Call.{Call}
use Rattle.lazy_cells.specs.declared.call.Call.TheVariants as call
use Rattle.schedule_rules.specs.declared.plan.CellPlan.{CellPlan}
use Rattle.schedule_rules.specs.declared.step.Act.{Act}
use Rattle.schedule_rules.specs.declared.step.Act.TheVariants as act
use Rattle.schedule_rules.specs.declared.step.Step.{Step}
use Rattle.schedule_rules.specs.Transcripts.{Schedule}
use Rattle.schedule_text.specs.Lines.{Word, lines_text}

-- the name of a kind
abbrev pub kind_name : Kind → Word
kind_name kind.Lazy = codes "Lazy"
kind_name kind.LazyFinalize = codes "LazyFinalize"
kind_name kind.LockedLazy = codes "LockedLazy"
kind_name kind.LockedLazyFinalize = codes "LockedLazyFinalize"
kind_name kind.LockedLazyDroped = codes "LockedLazyDroped"
kind_name kind.PrimedLockedLazy = codes "PrimedLockedLazy"
kind_name kind.PrimedLockedLazyDroped = codes "PrimedLockedLazyDroped"

-- the words of a place
abbrev pub place_words : Place → List Word
place_words place.Park = codes "park" ∷ []
place_words place.Spin = codes "spin" ∷ []
place_words (place.Own p) = codes "own" ∷ decimal p ∷ []

-- the option of a cell that runs its generator once
abbrev pub once_words : Bool → List Word
once_words true = []
once_words false = codes "once" ∷ []

-- the option of a cell whose generator also runs where its registration for the exit is refused
abbrev pub leak_words : Bool → List Word
leak_words true = codes "leak" ∷ []
leak_words false = []

-- the option of a cell that holds this value from the start. Without it that is 0
abbrev pub prime_words : ℕ → List Word
prime_words v = if v == 0 then [] else codes "prime" ∷ decimal v ∷ []

-- the options of a cell
abbrev pub option_words : CellPlan → List Word
option_words x = once_words x.retry ++ (leak_words x.leak ++ prime_words x.prime)

-- the name of a call
abbrev pub call_name : Call → Word
call_name call.Phase = codes "phase"
call_name call.Read = codes "read"
call_name call.Write = codes "write"
call_name call.TryRead = codes "try_read"
call_name call.TryWrite = codes "try_write"
call_name call.FastRead = codes "fast_read"
call_name call.FastWrite = codes "fast_write"
call_name call.FastTryRead = codes "fast_try_read"
call_name call.FastTryWrite = codes "fast_try_write"
call_name call.Get = codes "get"
call_name call.TryGet = codes "try_get"
call_name call.Init = codes "init"
call_name call.PrimedRead = codes "primed_read"
call_name call.PrimedWrite = codes "primed_write"
call_name call.PrimedReadNonInitializing = codes "primed_read_non_initializing"
call_name call.PrimedWriteNonInitializing = codes "primed_write_non_initializing"

-- the value that a finalizer left, where it left one
abbrev pub left_words : Option ℕ → List Word
left_words None = []
left_words (Some v) = decimal v ∷ []

-- the outcome of a generator that runs where a value is to be lent: the value that it makes, or that it fails
abbrev pub outcome_word : Option ℕ → Word
outcome_word None = codes "fail"
outcome_word (Some v) = decimal v

-- the words of an act
abbrev pub act_words : Act → List Word
act_words (act.Call c k) = call_name k ∷ decimal c ∷ []
act_words act.Again = codes "again" ∷ []
act_words (act.Made v) = codes "made" ∷ decimal v ∷ []
act_words act.MadeFailed = codes "made_failed" ∷ []
act_words (act.Look g) = codes "look" ∷ decimal g ∷ []
act_words (act.Set g v) = codes "set" ∷ decimal g ∷ decimal v ∷ []
act_words (act.Release g) = codes "release" ∷ decimal g ∷ []
act_words (act.Downgrade g) = codes "downgrade" ∷ decimal g ∷ []
act_words (act.Clone g) = codes "clone" ∷ decimal g ∷ []
act_words (act.Finished left) = codes "finished" ∷ left_words left
act_words (act.FinishFailed left) = codes "finish_failed" ∷ left_words left
act_words (act.GetMut c made left) = codes "get_mut" ∷ decimal c ∷ outcome_word made ∷ decimal left ∷ []
act_words (act.TryGetMut c left) = codes "try_get_mut" ∷ decimal c ∷ decimal left ∷ []
act_words act.Exit = codes "exit" ∷ []

-- the line of a cell
abbrev pub cell_words : CellPlan → List Word
cell_words x = codes "cell" ∷ kind_name x.kind ∷ (place_words x.place ++ option_words x)

-- the line of a step
abbrev pub step_words : Step → List Word
step_words s = decimal s.party ∷ act_words s.act

-- the lines of a schedule: its version, how many parties there are, the cells, and the steps between `steps` and `end`
abbrev pub schedule_lines : Schedule → List (List Word)
schedule_lines x =
    (codes "schedule" ∷ codes "1" ∷ []) ∷ (codes "parties" ∷ decimal x.parties ∷ [])
    ∷ (map cell_words x.cells ++ ((codes "steps" ∷ []) ∷ (map step_words x.steps ++ ((codes "end" ∷ []) ∷ []))))

-- a text that is read has at most this many bytes
abbrev pub most_bytes : ℕ
most_bytes = 2 ^ 24

-- the text of a schedule. Each schedule has just this one
abbrev pub schedule_text : Schedule → List ℕ
schedule_text x = lines_text (schedule_lines x)

-- a value is below 2^64, where there is one
abbrev pub ValueFits : Option ℕ → Type 0
ValueFits None = Unit {0}
ValueFits (Some v) = v < 2 ^ 64

-- the numbers of an act are below their limits: those that name a cell or a guard below 2^32, values below 2^64
abbrev pub ActFits : Act → Type 0
ActFits (act.Call c k) = c < 2 ^ 32
ActFits act.Again = Unit {0}
ActFits (act.Made v) = v < 2 ^ 64
ActFits act.MadeFailed = Unit {0}
ActFits (act.Look g) = g < 2 ^ 32
ActFits (act.Set g v) = (g < 2 ^ 32) × (v < 2 ^ 64)
ActFits (act.Release g) = g < 2 ^ 32
ActFits (act.Downgrade g) = g < 2 ^ 32
ActFits (act.Clone g) = g < 2 ^ 32
ActFits (act.Finished left) = ValueFits left
ActFits (act.FinishFailed left) = ValueFits left
ActFits (act.GetMut c made left) = (c < 2 ^ 32) × ValueFits made × (left < 2 ^ 64)
ActFits (act.TryGetMut c left) = (c < 2 ^ 32) × (left < 2 ^ 64)
ActFits act.Exit = Unit {0}

-- the numbers of a step are below their limits
pub record StepFits (s : Step) : Type 0 where
  pub party : s.party < 2 ^ 32
  pub act : ActFits s.act

-- a party that a cell belongs to has a number below 2^32
abbrev pub PlaceFits : Place → Type 0
PlaceFits place.Park = Unit {0}
PlaceFits place.Spin = Unit {0}
PlaceFits (place.Own p) = p < 2 ^ 32

-- the numbers of a cell are below their limits
pub record CellFits (x : CellPlan) : Type 0 where
  pub place : PlaceFits x.place
  pub prime : x.prime < 2 ^ 64

-- the text is that of the schedule, whose numbers are below their limits
pub record Spells (text : List ℕ) (x : Schedule) : Type 0 where
  pub spelling : text ≡ schedule_text x
  pub parties : x.parties < 2 ^ 32
  pub cells : AllByRecursion CellFits x.cells
  pub steps : AllByRecursion StepFits x.steps
