-- The table of calls and the table of phases, worked out by hand and apart from the rules: what a call of a cell of each kind
-- wants, answers and leaves at a phase. Phases are their numbers here, and flags their values.
use Rattle.std.specs.Prelude.{ℕ, ◌+◌, ◌-◌, ◌/◌, ◌%◌, ◌==◌, Bool, true, false, not, ◌&&◌, ◌||◌, if◌then◌else◌, List, [], ◌∷◌}
use Rattle.std.specs.declared.option.Option.{Option}
use Rattle.std.specs.declared.option.Option.TheVariants.{None, Some}
use Rattle.phase_bits.specs.Number.{phase_of}
use Rattle.phase_locker.specs.declared.tickets.LockNature.{LockNature}
use Rattle.phase_locker.specs.declared.tickets.LockNature.TheVariants as nature
use Rattle.phase_locker.specs.declared.ways.How.{How}
use Rattle.phase_locker.specs.declared.ways.How.TheVariants as how
use Rattle.phase_seq.specs.declared.tolerance.Tolerance.{Tolerance}
use Rattle.lazy_cells.specs.declared.kind.Kind.{Kind}
use Rattle.lazy_cells.specs.declared.kind.Kind.TheVariants as kind
use Rattle.lazy_cells.specs.declared.call.Call.{Call}
use Rattle.lazy_cells.specs.declared.call.Call.TheVariants as call
use Rattle.schedule_rules.specs.declared.line.Answer.{Answer}
use Rattle.schedule_rules.specs.declared.line.Answer.TheVariants as answer
use Rattle.schedule_rules.specs.Changes.{Content}

-- ---- the kinds

abbrev pub plain : Kind → Bool
plain kind.Lazy = true
plain kind.LazyFinalize = true
plain _ = false

abbrev pub primed : Kind → Bool
primed kind.PrimedLockedLazy = true
primed kind.PrimedLockedLazyDroped = true
primed _ = false

abbrev pub finalizable : Kind → Bool
finalizable kind.LazyFinalize = true
finalizable kind.LockedLazyFinalize = true
finalizable kind.LockedLazyDroped = true
finalizable kind.PrimedLockedLazyDroped = true
finalizable _ = false

abbrev pub hard : Kind → Bool
hard kind.LockedLazyDroped = true
hard kind.PrimedLockedLazyDroped = true
hard _ = false

-- ---- the table of calls

-- its column of kinds
pub data Kinds : Type 0 where
  All : Kinds
  Plain : Kinds
  Locked : Kinds
  Primed : Kinds

abbrev pub are : Kinds → Kind → Bool
are All q = true
are Plain q = plain q
are Locked q = not (plain q)
are Primed q = primed q

-- its column of the lock that is wanted: always the same, or to write where a run is due and else another
pub data Rule : Type 0 where
  Always : LockNature → Rule
  WriteElse : LockNature → Rule

-- its column of the answer where the value is accessible, and of that where it is not
pub data Good : Type 0 where
  Phase : Good
  Value : Good
  ReadGuard : Good
  WriteGuard : Good

pub data Bad : Type 0 where
  Untested : Bad  -- the same as where it is accessible
  AccessError : Bad
  ErrGuard : Bad

pub record Entry : Type 0 where
  pub kinds : Kinds
  pub rule : Rule
  pub init : Bool
  pub waking : LockNature
  pub good : Good
  pub bad : Bad

abbrev entry : Kinds → Rule → Bool → LockNature → Good → Bad → Entry
entry q r i w g b = record { kinds = q; rule = r; init = i; waking = w; good = g; bad = b }

-- the entry of a call. That of init differs by whether the kind is plain
abbrev pub entry_of : Bool → Call → Entry
entry_of plain call.Phase = entry All (Always nature.None) false nature.None Phase Untested
entry_of plain call.TryGet = entry Plain (Always nature.None) false nature.None Value AccessError
entry_of plain call.Get = entry Plain (WriteElse nature.None) true nature.Read Value AccessError
entry_of true call.Init = entry Plain (WriteElse nature.None) true nature.Read Phase Untested
entry_of false call.Init = entry Locked (Always nature.Write) true nature.Write Phase AccessError
entry_of plain call.Read = entry Locked (WriteElse nature.Read) true nature.Read ReadGuard AccessError
entry_of plain call.FastRead = entry Locked (WriteElse nature.Read) true nature.Read ReadGuard AccessError
entry_of plain call.Write = entry Locked (Always nature.Write) true nature.Write WriteGuard AccessError
entry_of plain call.FastWrite = entry Locked (Always nature.Write) true nature.Write WriteGuard AccessError
entry_of plain call.TryRead = entry Locked (Always nature.Read) false nature.Read ReadGuard AccessError
entry_of plain call.FastTryRead = entry Locked (Always nature.Read) false nature.Read ReadGuard AccessError
entry_of plain call.TryWrite = entry Locked (Always nature.Write) false nature.Write WriteGuard AccessError
entry_of plain call.FastTryWrite = entry Locked (Always nature.Write) false nature.Write WriteGuard AccessError
entry_of plain call.PrimedRead = entry Primed (WriteElse nature.Read) true nature.Read ReadGuard ErrGuard
entry_of plain call.PrimedWrite = entry Primed (Always nature.Write) true nature.Write WriteGuard ErrGuard
entry_of plain call.PrimedReadNonInitializing = entry Primed (Always nature.Read) false nature.Read ReadGuard ErrGuard
entry_of plain call.PrimedWriteNonInitializing = entry Primed (Always nature.Write) false nature.Write WriteGuard ErrGuard

-- the fast calls
abbrev pub fast : Call → Bool
fast call.FastRead = true
fast call.FastWrite = true
fast call.FastTryRead = true
fast call.FastTryWrite = true
fast _ = false

-- ---- phases

abbrev pub has : ℕ → ℕ → Bool
has p flag = (p / flag) % 2 == 1

-- the phase with this flag added
abbrev pub adding : ℕ → ℕ → ℕ
adding p flag = if has p flag then p else p + flag

-- Initialized
abbrev pub initialized : ℕ → Bool
initialized p = has p 1

-- Finalized, or Finalization panicked
abbrev pub finalized : ℕ → Bool
finalized p = has p 64 || has p 128

abbrev pub accessible : Kind → ℕ → Bool
accessible q p = initialized p && not (hard q && finalized p)

-- a run is due: with retry the phase lacks Initialized, without it it is empty
abbrev pub run_due : Tolerance → ℕ → Bool
run_due t p = if t.retry then not (initialized p) else (p == 0)

-- Registered where registration is accepted, Registration refused where it is not, and where it is not tried the phase
-- without the three flags of initialization, which are the lowest
abbrev pub registration : Bool → ℕ → ℕ
registration is_open p = if p == 0 then if is_open then 8 else 32 else (p - p % 8)

-- what stands beside the flags of a run
abbrev pub beside : Kind → Bool → ℕ → ℕ
beside q is_open p = if finalizable q then registration is_open p else 0

-- the generator runs: where the kind is finalizable, the cell is registered or puts up with not being it
abbrev pub generates : Kind → Tolerance → Bool → ℕ → Bool
generates q t is_open p = not (finalizable q) || (has (beside q is_open p) 8 || t.leak)

-- Initialized, or Initialization panicked and Initialization skiped, which add up to 6
abbrev pub succeeded : Kind → Bool → ℕ → ℕ
succeeded q is_open p = beside q is_open p + 1

abbrev pub failed : Kind → Bool → ℕ → ℕ
failed q is_open p = beside q is_open p + 6

-- Initialization skiped, Registration refused
abbrev pub declined : ℕ
declined = 36

-- ---- what is told of a call

-- a run: what its success is answered, and what a success and a failure leave
pub record Run : Type 0 where
  pub made : Answer
  pub success : Content
  pub failure : Content

-- a call that is admitted, and its lock; the run that it begins, and what it leaves where it begins none; and what it is
-- answered where it is barred: where it drains, parks, spins, and on a cell of its party's own
pub record Told : Type 0 where
  pub lock : LockNature
  pub waking : LockNature
  pub asks : Bool
  pub admitted : Answer
  pub run : Option Run
  pub left : Content
  pub barred : List Answer

-- the value that cells hold here, and that a generator makes
abbrev pub held_value : ℕ
held_value = 7

abbrev pub made_value : ℕ
made_value = 5

abbrev pub holding : ℕ → ℕ → Content
holding p v = record { phase = p; value = Some v }

abbrev lock : Rule → Bool → LockNature
lock (Always n) run = n
lock (WriteElse n) run = if run then nature.Write else n

abbrev good_answer : Good → ℕ → ℕ → Answer
good_answer Phase p v = answer.Phase (phase_of p)
good_answer Value p v = answer.Value v
good_answer ReadGuard p v = answer.ReadGuard
good_answer WriteGuard p v = answer.WriteGuard

abbrev bad_answer : Bad → Good → ℕ → Answer
bad_answer Untested g p = good_answer g p held_value
bad_answer AccessError g p = answer.Access (phase_of p)
bad_answer ErrGuard g p = answer.ErrGuard

-- the answer by whether the value is accessible
abbrev either : Entry → Bool → ℕ → Answer
either e reachable p = if reachable then good_answer e.good p held_value else bad_answer e.bad e.good p

abbrev parked : LockNature → How
parked nature.Write = how.ParkedWrite
parked _ = how.ParkedRead

abbrev barred_answers : Bool → LockNature → List Answer
barred_answers true waking = answer.Missed ∷ answer.Missed ∷ answer.Missed ∷ answer.Missed ∷ []
barred_answers false waking =
    answer.Waiting how.Drain
    ∷ answer.Waiting (parked waking)
    ∷ answer.Waiting how.Spin
    ∷ answer.Borrowed
    ∷ []

-- without a lock nothing is barred
abbrev pub barred_by : LockNature → List Answer → List Answer
barred_by nature.None answers = []
barred_by _ answers = answers

module _ (q : Kind) (t : Tolerance) (is_open : Bool) (k : Call) (p : ℕ) where
  abbrev table_entry : Entry
  table_entry = entry_of (plain q) k

  abbrev asked : Bool
  asked = table_entry.init && run_due t p

  abbrev runs : Bool
  runs = asked && generates q t is_open p

  abbrev left_phase : ℕ
  left_phase = if asked && not runs then declined else p

  abbrev run : Run
  run =
      record {
        made = good_answer table_entry.good (succeeded q is_open p) made_value;
        success = holding (succeeded q is_open p) made_value;
        failure = holding (failed q is_open p) held_value;
      }

  abbrev wanted : LockNature
  wanted = lock table_entry.rule (run_due t p)

  -- what the two tables tell of the call, where the kind has it
  abbrev pub told_by_table : Option Told
  told_by_table =
      if are table_entry.kinds q
      then Some
      (record {
        lock = wanted;
        waking = table_entry.waking;
        asks = asked;
        admitted = if runs then answer.Running else either table_entry (accessible q left_phase) left_phase;
        run = if runs then Some run else None;
        left = holding left_phase held_value;
        barred = barred_by wanted (barred_answers (fast k) table_entry.waking);
      })
      else None

-- ---- what is told of a turn, at a phase, and of its finalizer by how it ends and what it leaves

pub record Turning : Type 0 where
  pub lock : LockNature
  pub waking : LockNature
  pub admitted : Answer
  pub done : ℕ
  pub failed : ℕ

abbrev pub turn_by_table : ℕ → ℕ → Turning
turn_by_table c p =
    record {
      lock = if initialized p then nature.Write else nature.None;
      waking = nature.Write;
      admitted = if initialized p then answer.Finalizing c else answer.Skipped c;
      done = adding p 64;
      failed = adding p 128;
    }

-- a soft kind leaves the value. LockedLazyDroped has none afterwards, and does not fail. PrimedLockedLazyDroped keeps what its
-- finalizer left, also where it failed. None where the finalizer does not end so
abbrev pub value_by_table : Kind → Bool → Option ℕ → Option (Option ℕ)
value_by_table kind.PrimedLockedLazyDroped fine None = None
value_by_table kind.PrimedLockedLazyDroped fine (Some v) = Some (Some v)
value_by_table kind.LockedLazyDroped true None = Some None
value_by_table kind.LockedLazyDroped false None = None
value_by_table _ fine None = Some (Some held_value)
value_by_table _ fine (Some v) = None
