-- Short words for steps and lines.
use Rattle.std.specs.Prelude.{ℕ}
use Rattle.std.specs.declared.option.Option.TheVariants.{None, Some}
use Rattle.phase_bits.specs.Number.{phase_of}
use Rattle.lazy_cells.specs.declared.call.Call.{Call}
use Rattle.lazy_cells.specs.declared.call.Call.TheVariants as call
use Rattle.schedule_rules.specs.declared.step.Act.{Act}
use Rattle.schedule_rules.specs.declared.step.Act.TheVariants as act
use Rattle.schedule_rules.specs.declared.step.Step.{Step}
use Rattle.phase_locker.specs.declared.ways.Given.{Given}
use Rattle.phase_locker.specs.declared.ways.Given.TheVariants as given
use Rattle.phase_locker.specs.declared.ways.How.TheVariants as how
use Rattle.schedule_rules.specs.declared.line.Refusal.{Refusal}
use Rattle.schedule_rules.specs.declared.line.Refusal.TheVariants as refused
use Rattle.schedule_rules.specs.declared.line.Answer.{Answer}
use Rattle.schedule_rules.specs.declared.line.Answer.TheVariants as answer
use Rattle.schedule_rules.specs.declared.line.Line.{Line}

-- ---- steps, with their party first

abbrev pub step : ℕ → Act → Step
step p a = record { party = p; act = a }

-- the party calls the cell so
abbrev pub calls : Call → ℕ → ℕ → Step
calls k p c = step p (act.Call c k)

abbrev pub phase : ℕ → ℕ → Step
phase = calls call.Phase

abbrev pub try_get : ℕ → ℕ → Step
try_get = calls call.TryGet

abbrev pub get : ℕ → ℕ → Step
get = calls call.Get

abbrev pub init : ℕ → ℕ → Step
init = calls call.Init

abbrev pub read : ℕ → ℕ → Step
read = calls call.Read

abbrev pub write : ℕ → ℕ → Step
write = calls call.Write

abbrev pub fast_read : ℕ → ℕ → Step
fast_read = calls call.FastRead

abbrev pub fast_write : ℕ → ℕ → Step
fast_write = calls call.FastWrite

abbrev pub try_read : ℕ → ℕ → Step
try_read = calls call.TryRead

abbrev pub try_write : ℕ → ℕ → Step
try_write = calls call.TryWrite

abbrev pub fast_try_read : ℕ → ℕ → Step
fast_try_read = calls call.FastTryRead

abbrev pub fast_try_write : ℕ → ℕ → Step
fast_try_write = calls call.FastTryWrite

abbrev pub primed_read : ℕ → ℕ → Step
primed_read = calls call.PrimedRead

abbrev pub primed_write : ℕ → ℕ → Step
primed_write = calls call.PrimedWrite

abbrev pub primed_read_non_initializing : ℕ → ℕ → Step
primed_read_non_initializing = calls call.PrimedReadNonInitializing

abbrev pub primed_write_non_initializing : ℕ → ℕ → Step
primed_write_non_initializing = calls call.PrimedWriteNonInitializing

abbrev pub again : ℕ → Step
again p = step p act.Again

abbrev pub made : ℕ → ℕ → Step
made p v = step p (act.Made v)

abbrev pub made_failed : ℕ → Step
made_failed p = step p act.MadeFailed

abbrev pub look : ℕ → ℕ → Step
look p g = step p (act.Look g)

abbrev pub put : ℕ → ℕ → ℕ → Step
put p g v = step p (act.Set g v)

abbrev pub release : ℕ → ℕ → Step
release p g = step p (act.Release g)

abbrev pub downgrade : ℕ → ℕ → Step
downgrade p g = step p (act.Downgrade g)

abbrev pub clone : ℕ → ℕ → Step
clone p g = step p (act.Clone g)

-- the value of the cell is to be lent, and the generator makes this one if it runs. The last is left there
abbrev pub get_mut : ℕ → ℕ → ℕ → ℕ → Step
get_mut p c v left = step p (act.GetMut c (Some v) left)

-- the same, and the generator fails if it runs
abbrev pub get_mut_failing : ℕ → ℕ → ℕ → Step
get_mut_failing p c left = step p (act.GetMut c None left)

-- the same without a run
abbrev pub try_get_mut : ℕ → ℕ → ℕ → Step
try_get_mut p c left = step p (act.TryGetMut c left)

abbrev pub exit : ℕ → Step
exit p = step p act.Exit

abbrev pub finished : ℕ → Step
finished p = step p (act.Finished None)

abbrev pub finish_failed : ℕ → Step
finish_failed p = step p (act.FinishFailed None)

-- a finalizer that leaves this value
abbrev pub finished_with : ℕ → ℕ → Step
finished_with p v = step p (act.Finished (Some v))

abbrev pub finish_failed_with : ℕ → ℕ → Step
finish_failed_with p v = step p (act.FinishFailed (Some v))

-- ---- what lines give

abbrev pub readers : Given
readers = given.Readers

abbrev pub writer : ℕ → Given
writer p = given.Writer p

-- the same answer, and this is given
abbrev pub giving : Given → Line → Line
giving g l = record { answer = l.answer; given = g }

-- ---- lines, each of which gives nothing

abbrev pub line : Answer → Line
line a = record { answer = a; given = given.Nobody }

abbrev pub refusal : Refusal → Line
refusal r = line (answer.Refused r)

-- the phase with this number
abbrev pub shown_phase : ℕ → Line
shown_phase p = line (answer.Phase (phase_of p))

abbrev pub empty_phase : Line
empty_phase = shown_phase 0

abbrev pub initialized_phase : Line
initialized_phase = shown_phase 1

-- Initialization panicked, Initialization skiped
abbrev pub failed_phase : Line
failed_phase = shown_phase 6

-- Initialized, Registered
abbrev pub registered_phase : Line
registered_phase = shown_phase 9

-- Initialization panicked, Initialization skiped, Registered
abbrev pub registered_failed_phase : Line
registered_failed_phase = shown_phase 14

-- Initialized, Registration refused
abbrev pub leaked_phase : Line
leaked_phase = shown_phase 33

-- Initialization panicked, Initialization skiped, Registration refused
abbrev pub leaked_failed_phase : Line
leaked_failed_phase = shown_phase 38

-- Initialization skiped, Registration refused
abbrev pub declined_phase : Line
declined_phase = shown_phase 36

-- Initialized, Registered, Finalized
abbrev pub finalized_phase : Line
finalized_phase = shown_phase 73

-- Initialized, Registered, Finalization panicked
abbrev pub finalizer_failed_phase : Line
finalizer_failed_phase = shown_phase 137

abbrev pub value : ℕ → Line
value v = line (answer.Value v)

abbrev pub read_guard : Line
read_guard = line answer.ReadGuard

abbrev pub err_guard : Line
err_guard = line answer.ErrGuard

abbrev pub write_guard : Line
write_guard = line answer.WriteGuard

abbrev pub running : Line
running = line answer.Running

abbrev pub done : Line
done = line answer.Done

-- the value may not be accessed at the phase with this number
abbrev pub denied_at : ℕ → Line
denied_at p = line (answer.Access (phase_of p))

abbrev pub empty_access : Line
empty_access = denied_at 0

abbrev pub failed_access : Line
failed_access = denied_at 6

abbrev pub registered_failed_access : Line
registered_failed_access = denied_at 14

abbrev pub declined_access : Line
declined_access = denied_at 36

abbrev pub finalized_access : Line
finalized_access = denied_at 73

abbrev pub failed : Line
failed = line answer.Failed

abbrev pub cyclic : Line
cyclic = line answer.Cyclic

abbrev pub borrowed : Line
borrowed = line answer.Borrowed

-- a fast call that is barred
abbrev pub missed : Line
missed = line answer.Missed

abbrev pub waiting : Line
waiting = line (answer.Waiting how.Spin)

abbrev pub waiting_read : Line
waiting_read = line (answer.Waiting how.ParkedRead)

abbrev pub waiting_write : Line
waiting_write = line (answer.Waiting how.ParkedWrite)

abbrev pub waiting_drain : Line
waiting_drain = line (answer.Waiting how.Drain)

abbrev pub finalizing : ℕ → Line
finalizing c = line (answer.Finalizing c)

abbrev pub skipped : ℕ → Line
skipped c = line (answer.Skipped c)

abbrev pub round : ℕ → Line
round n = line (answer.Round n)

abbrev pub closed : Line
closed = line answer.Closed

abbrev pub waits : Line
waits = refusal refused.Waits

abbrev pub not_waiting : Line
not_waiting = refusal refused.NotWaiting

abbrev pub not_owner : Line
not_owner = refusal refused.NotOwner

abbrev pub no_such_call : Line
no_such_call = refusal refused.NoSuchCall

abbrev pub no_guard : Line
no_guard = refusal refused.NoGuard

abbrev pub not_writer : Line
not_writer = refusal refused.NotWriter

abbrev pub no_section : Line
no_section = refusal refused.NoSection

abbrev pub no_outcome : Line
no_outcome = refusal refused.NoOutcome

abbrev pub in_use : Line
in_use = refusal refused.InUse

abbrev pub exit_begun : Line
exit_begun = refusal refused.ExitBegun

abbrev pub inside : Line
inside = refusal refused.Inside
