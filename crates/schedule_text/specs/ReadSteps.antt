-- What a reader of a text's front answers: acts, steps and cells, each up to the end of its line.
use Rattle.std.specs.Prelude.{ℕ, Bool, true, false, not, List, [], ◌∷◌, Option, Some, None, ◌==◌, if◌then◌else◌, codes}
use Rattle.lazy_cells.specs.declared.kind.Kind.{Kind}
use Rattle.lazy_cells.specs.declared.kind.Kind.TheVariants as kind
use Rattle.schedule_rules.specs.declared.plan.Place.{Place}
use Rattle.schedule_rules.specs.declared.plan.Place.TheVariants as place
use Rattle.lazy_cells.specs.declared.call.Call.{Call}
use Rattle.lazy_cells.specs.declared.call.Call.TheVariants as call
use Rattle.schedule_rules.specs.declared.plan.CellPlan.{CellPlan}
use Rattle.schedule_rules.specs.declared.step.Act.{Act}
use Rattle.schedule_rules.specs.declared.step.Act.TheVariants as act
use Rattle.schedule_rules.specs.declared.step.Step.{Step}
use Rattle.schedule_text.specs.Lines.{Word, line_text}
use Rattle.schedule_text.specs.ScheduleText.{act_words, step_words, cell_words}
use Rattle.schedule_text.specs.ReadFields.{Field, ◌>>=◌, bytes_after, number_at, name_at}

-- the text of an act, up to the end of its line
unfoldable pub act_text : Act → List ℕ
act_text a = line_text (act_words a)

-- the line of a step
unfoldable pub step_text : Step → List ℕ
step_text s = line_text (step_words s)

-- the line of a cell
unfoldable pub cell_text : CellPlan → List ℕ
cell_text c = line_text (cell_words c)

-- a number below 2^64 that ends a line
unfoldable pub last_number_at : List ℕ → Field ℕ
last_number_at bytes = do
  n ← number_at bytes
  rest ← bytes_after (codes "\n") n.1
  Some (n.0, rest)

-- a number below 2^32 that ends a line
unfoldable pub last_name_at : List ℕ → Field ℕ
last_name_at bytes = do
  n ← name_at bytes
  rest ← bytes_after (codes "\n") n.1
  Some (n.0, rest)

-- ---- the words of the calls, each with the space behind it, in the order in which they are tried

-- those with a letter that no other table has
abbrev pub plain_calls : List (Word × Call)
plain_calls = (codes "read ", call.Read) ∷ (codes "write ", call.Write) ∷ (codes "get ", call.Get) ∷ (codes "init ", call.Init) ∷ []

-- those that begin with a t
abbrev pub try_calls : List (Word × Call)
try_calls = (codes "try_read ", call.TryRead) ∷ (codes "try_write ", call.TryWrite) ∷ (codes "try_get ", call.TryGet) ∷ []

-- those that begin with an f
abbrev pub fast_calls : List (Word × Call)
fast_calls = (codes "fast_read ", call.FastRead) ∷ (codes "fast_write ", call.FastWrite) ∷ (codes "fast_try_read ", call.FastTryRead) ∷ (codes "fast_try_write ", call.FastTryWrite) ∷ []

-- those that begin with a p
abbrev pub phase_calls : List (Word × Call)
phase_calls = (codes "phase ", call.Phase) ∷ (codes "primed_read ", call.PrimedRead) ∷ (codes "primed_write ", call.PrimedWrite) ∷ (codes "primed_read_non_initializing ", call.PrimedReadNonInitializing) ∷ (codes "primed_write_non_initializing ", call.PrimedWriteNonInitializing) ∷ []

-- this, where its word was found, and else the other
abbrev pub word_else : {A : Type 0} → Option (List ℕ) → A → Field A → Field A
word_else (Some rest) a other = Some (a, rest)
word_else None a other = other

-- what the first word of a table stands for that is at the front
abbrev pub first_word : {A : Type 0} → List (Word × A) → List ℕ → Field A
first_word [] bytes = None
first_word (row ∷ rows) bytes = word_else (bytes_after row.0 bytes) row.1 (first_word rows bytes)

-- the cell of a call
unfoldable pub call_at : Call → List ℕ → Field Act
call_at k bytes = do
  c ← last_name_at bytes
  Some (act.Call c.0 k, c.1)

-- the release of a guard
unfoldable pub release_at : List ℕ → Field Act
release_at bytes = do
  rest ← bytes_after (codes "release ") bytes
  g ← last_name_at rest
  Some (act.Release g.0, g.1)

-- the downgrade of a guard
unfoldable pub downgrade_at : List ℕ → Field Act
downgrade_at bytes = do
  rest ← bytes_after (codes "downgrade ") bytes
  g ← last_name_at rest
  Some (act.Downgrade g.0, g.1)

-- the clone of a guard
unfoldable pub clone_at : List ℕ → Field Act
clone_at bytes = do
  rest ← bytes_after (codes "clone ") bytes
  g ← last_name_at rest
  Some (act.Clone g.0, g.1)

-- that the generator failed
unfoldable pub made_failed_at : List ℕ → Field Act
made_failed_at bytes = do
  rest ← bytes_after (codes "made_failed\n") bytes
  Some (act.MadeFailed, rest)

-- the value that the generator made
unfoldable pub value_at : List ℕ → Field Act
value_at bytes = do
  v ← last_number_at bytes
  Some (act.Made v.0, v.1)

-- what the generator made, or else that it failed
abbrev pub made_else : Option (List ℕ) → List ℕ → Field Act
made_else (Some rest) bytes = value_at rest
made_else None bytes = made_failed_at bytes

-- a look by a guard
unfoldable pub look_at : List ℕ → Field Act
look_at bytes = do
  rest ← bytes_after (codes "look ") bytes
  g ← last_name_at rest
  Some (act.Look g.0, g.1)

-- a guard, and the value that its holder sets
unfoldable pub set_at : List ℕ → Field Act
set_at bytes = do
  start ← bytes_after (codes "set ") bytes
  g ← name_at start
  rest ← bytes_after (codes " ") g.1
  v ← last_number_at rest
  Some (act.Set g.0 v.0, v.1)

-- one more attempt
unfoldable pub again_at : List ℕ → Field Act
again_at bytes = do
  rest ← bytes_after (codes "again\n") bytes
  Some (act.Again, rest)

-- a call of this table: its word and its cell
unfoldable pub called_at : List (Word × Call) → List ℕ → Field Act
called_at rows bytes = do
  k ← first_word rows bytes
  call_at k.0 k.1

-- a call that was found, or else another act
abbrev pub call_else : Field Call → Field Act → Field Act
call_else (Some k) other = call_at k.0 k.1
call_else None other = other

-- a call, or else the release of a guard, which begins with the letter of a call
unfoldable pub called_or_release_at : List ℕ → Field Act
called_or_release_at bytes = call_else (first_word plain_calls bytes) (release_at bytes)

-- the outcome of a generator
unfoldable pub made_at : List ℕ → Field Act
made_at bytes = made_else (bytes_after (codes "made ") bytes) bytes

-- a value that a finalizer left
unfoldable pub left_value_at : List ℕ → Field (Option ℕ)
left_value_at bytes = do
  v ← last_number_at bytes
  Some (Some v.0, v.1)

-- that it left none
unfoldable pub left_none_at : List ℕ → Field (Option ℕ)
left_none_at bytes = do
  rest ← bytes_after (codes "\n") bytes
  Some (None, rest)

-- the one, or else the other
abbrev pub left_else : Option (List ℕ) → List ℕ → Field (Option ℕ)
left_else (Some rest) bytes = left_value_at rest
left_else None bytes = left_none_at bytes

-- what a finalizer left, up to the end of its line
unfoldable pub left_at : List ℕ → Field (Option ℕ)
left_at bytes = left_else (bytes_after (codes " ") bytes) bytes

-- that the finalizer failed, and what it left
unfoldable pub finish_failed_at : List ℕ → Field Act
finish_failed_at bytes = do
  start ← bytes_after (codes "finish_failed") bytes
  left ← left_at start
  Some (act.FinishFailed left.0, left.1)

-- that the finalizer succeeded, and what it left
unfoldable pub fine_at : List ℕ → Field Act
fine_at bytes = do
  left ← left_at bytes
  Some (act.Finished left.0, left.1)

-- that the finalizer succeeded, or else that it failed
abbrev pub finished_else : Option (List ℕ) → List ℕ → Field Act
finished_else (Some rest) bytes = fine_at rest
finished_else None bytes = finish_failed_at bytes

-- the outcome of a finalizer
unfoldable pub finished_at : List ℕ → Field Act
finished_at bytes = finished_else (bytes_after (codes "finished") bytes) bytes

-- a call, or else the outcome of a finalizer, which begins with the letter of a call
unfoldable pub called_or_finished_at : List ℕ → Field Act
called_or_finished_at bytes = call_else (first_word fast_calls bytes) (finished_at bytes)

-- a step of the exit
unfoldable pub exit_at : List ℕ → Field Act
exit_at bytes = do
  rest ← bytes_after (codes "exit\n") bytes
  Some (act.Exit, rest)

-- the value that a generator makes, or else that it fails
abbrev pub outcome_else : Field ℕ → List ℕ → Field (Option ℕ)
outcome_else (Some v) bytes = Some (Some v.0, v.1)
outcome_else None bytes = bytes_after (codes "fail") bytes >>= λ rest. Some (None, rest)

-- the outcome of a generator that runs where a value is to be lent
unfoldable pub outcome_at : List ℕ → Field (Option ℕ)
outcome_at bytes = outcome_else (number_at bytes) bytes

-- a cell that is to lend its value, the outcome of its generator, and the value that is left
unfoldable pub get_mut_at : List ℕ → Field Act
get_mut_at bytes = do
  start ← bytes_after (codes "get_mut ") bytes
  c ← name_at start
  middle ← bytes_after (codes " ") c.1
  made ← outcome_at middle
  rest ← bytes_after (codes " ") made.1
  left ← last_number_at rest
  Some (act.GetMut c.0 made.0 left.0, left.1)

-- the same without a run
unfoldable pub try_get_mut_at : List ℕ → Field Act
try_get_mut_at bytes = do
  start ← bytes_after (codes "try_get_mut ") bytes
  c ← name_at start
  rest ← bytes_after (codes " ") c.1
  left ← last_number_at rest
  Some (act.TryGetMut c.0 left.0, left.1)

-- a call, or else a value that is lent, with the letter of a call
unfoldable pub called_or_get_mut_at : List ℕ → Field Act
called_or_get_mut_at bytes = call_else (first_word plain_calls bytes) (get_mut_at bytes)

unfoldable pub called_or_try_get_mut_at : List ℕ → Field Act
called_or_try_get_mut_at bytes = call_else (first_word try_calls bytes) (try_get_mut_at bytes)

-- what an act is, its first letter tells
unfoldable pub act_at : List ℕ → Field Act
act_at [] = None
act_at (b ∷ bytes) =
    if b == 114 then called_or_release_at (b ∷ bytes)
    else (if b == 97 then again_at (b ∷ bytes)
    else (if b == 109 then made_at (b ∷ bytes)
    else (if b == 108 then look_at (b ∷ bytes)
    else (if b == 115 then set_at (b ∷ bytes)
    else (if b == 100 then downgrade_at (b ∷ bytes)
    else (if b == 99 then clone_at (b ∷ bytes)
    else (if b == 101 then exit_at (b ∷ bytes)
    else (if b == 102 then called_or_finished_at (b ∷ bytes)
    else (if b == 103 then called_or_get_mut_at (b ∷ bytes)
    else (if b == 116 then called_or_try_get_mut_at (b ∷ bytes)
    else (if b == 112 then called_at phase_calls (b ∷ bytes)
    else called_at plain_calls (b ∷ bytes))))))))))))

-- a step: its party and its act
unfoldable pub step_at : List ℕ → Field Step
step_at bytes = do
  p ← name_at bytes
  rest ← bytes_after (codes " ") p.1
  a ← act_at rest
  Some (record { party = p.0; act = a.0 }, a.1)

-- the names of the kinds, each with the space behind it, in the order in which they are tried
abbrev pub kind_table : List (Word × Kind)
kind_table =
    (codes "Lazy ", kind.Lazy)
    ∷ (codes "LazyFinalize ", kind.LazyFinalize)
    ∷ (codes "LockedLazy ", kind.LockedLazy)
    ∷ (codes "LockedLazyFinalize ", kind.LockedLazyFinalize)
    ∷ (codes "LockedLazyDroped ", kind.LockedLazyDroped)
    ∷ (codes "PrimedLockedLazy ", kind.PrimedLockedLazy)
    ∷ (codes "PrimedLockedLazyDroped ", kind.PrimedLockedLazyDroped)
    ∷ []

-- the kind of a cell, and the space behind it
abbrev pub kind_at : List ℕ → Field Kind
kind_at bytes = first_word kind_table bytes

-- the words of the places that stand alone
abbrev pub place_table : List (Word × Place)
place_table = (codes "park", place.Park) ∷ (codes "spin", place.Spin) ∷ []

-- a party that the cell belongs to
unfoldable pub own_at : List ℕ → Field Place
own_at bytes = do
  rest ← bytes_after (codes "own ") bytes
  p ← name_at rest
  Some (place.Own p.0, p.1)

-- a place that was found, or else the party that the cell belongs to
abbrev pub place_else : Field Place → List ℕ → Field Place
place_else (Some p) bytes = Some p
place_else None bytes = own_at bytes

-- the place of a cell
unfoldable pub place_at : List ℕ → Field Place
place_at bytes = place_else (first_word place_table bytes) bytes

-- an option that stands at the front, or else none
abbrev pub option_else : Option (List ℕ) → List ℕ → Bool × List ℕ
option_else (Some rest) bytes = (true, rest)
option_else None bytes = (false, bytes)

-- whether the option with this word stands at the front, and the bytes after it
unfoldable pub option_at : Word → List ℕ → Bool × List ℕ
option_at word bytes = option_else (bytes_after word bytes) bytes

-- a value that a cell holds from the start is not 0
unfoldable pub prime_value_at : List ℕ → Field ℕ
prime_value_at bytes = number_at bytes >>= λ v. if v.0 == 0 then None else Some v

-- that value, or else 0, which has no spelling
abbrev pub prime_else : Option (List ℕ) → List ℕ → Field ℕ
prime_else (Some rest) bytes = prime_value_at rest
prime_else None bytes = Some (0, bytes)

-- the value that a cell holds from the start
unfoldable pub prime_at : List ℕ → Field ℕ
prime_at bytes = prime_else (bytes_after (codes " prime ") bytes) bytes

-- the options of a cell, once, leak and prime, up to the end of its line
unfoldable pub options_at : List ℕ → Field ((Bool × Bool) × ℕ)
options_at bytes =
    let once = option_at (codes " once") bytes in
    let leak = option_at (codes " leak") once.1 in
    prime_at leak.1 >>= λ v. bytes_after (codes "\n") v.1 >>= λ rest. Some (((once.0, leak.0), v.0), rest)

-- a cell: its kind, its place and its options
unfoldable pub cell_at : List ℕ → Field CellPlan
cell_at bytes = do
  start ← bytes_after (codes "cell ") bytes
  k ← kind_at start
  p ← place_at k.1
  o ← options_at p.1
  Some (record { kind = k.0; retry = not o.0.0.0; leak = o.0.0.1; place = p.0; prime = o.0.1 }, o.1)

-- how many parties there are, behind the version of the text
unfoldable pub parties_at : List ℕ → Field ℕ
parties_at bytes = do
  rest ← bytes_after (codes "schedule 1\nparties ") bytes
  last_name_at rest
