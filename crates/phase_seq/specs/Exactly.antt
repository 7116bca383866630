-- When a call gets which answer.
use Rattle.std.specs.Prelude.{◌≡◌, ℕ, Bool, true, false, ◌&&◌, ◌||◌, not, if◌then◌else◌, MatchBool, Option}
use Rattle.phase_bits.specs.declared.holders.Holders.{Holders}
use Rattle.phase_locker.specs.declared.ways.Who.{Who}
use Rattle.phase_locker.specs.declared.ways.Given.{Given}
use Rattle.phase_locker.specs.Natures.{bars}
use Rattle.phase_locker.specs.Rows.{Rows, row_of, freed}
use Rattle.phase_locker.specs.Gifts.{Hands}
use Rattle.phase_locker.specs.Attempts.{keeps, given_up}
use Rattle.phase_seq.specs.declared.ask.Ask.{Ask}
use Rattle.phase_seq.specs.declared.section.Begun.{Begun}
use Rattle.phase_seq.specs.declared.section.Begun.TheVariants.{Wait, Missed, Cyclic, Nothing, Read, Write, Run, Final}
use Rattle.phase_seq.specs.Asks.{asks_run, asks_final, nature_of}
use Rattle.phase_seq.specs.Begins.{is_cyclic}

-- ---- the answers

-- the call waits
abbrev pub is_wait : Begun → Bool
is_wait (Wait how) = true
is_wait Missed = false
is_wait Cyclic = false
is_wait (Nothing p) = false
is_wait (Read t p) = false
is_wait (Write t p) = false
is_wait (Run section) = false
is_wait (Final section) = false

-- the call is barred, and does not wait
abbrev pub is_missed : Begun → Bool
is_missed (Wait how) = false
is_missed Missed = true
is_missed Cyclic = false
is_missed (Nothing p) = false
is_missed (Read t p) = false
is_missed (Write t p) = false
is_missed (Run section) = false
is_missed (Final section) = false

-- the call is turned back as cyclic
abbrev pub is_turned_back : Begun → Bool
is_turned_back (Wait how) = false
is_turned_back Missed = false
is_turned_back Cyclic = true
is_turned_back (Nothing p) = false
is_turned_back (Read t p) = false
is_turned_back (Write t p) = false
is_turned_back (Run section) = false
is_turned_back (Final section) = false

-- the generator is to be run
abbrev pub is_run : Begun → Bool
is_run (Wait how) = false
is_run Missed = false
is_run Cyclic = false
is_run (Nothing p) = false
is_run (Read t p) = false
is_run (Write t p) = false
is_run (Run section) = true
is_run (Final section) = false

-- the finalizer is to be run
abbrev pub is_final : Begun → Bool
is_final (Wait how) = false
is_final Missed = false
is_final Cyclic = false
is_final (Nothing p) = false
is_final (Read t p) = false
is_final (Write t p) = false
is_final (Run section) = false
is_final (Final section) = true

-- the call is admitted
abbrev pub is_admitted : Begun → Bool
is_admitted (Wait how) = false
is_admitted Missed = false
is_admitted Cyclic = false
is_admitted (Nothing p) = true
is_admitted (Read t p) = true
is_admitted (Write t p) = true
is_admitted (Run section) = true
is_admitted (Final section) = true

-- ---- when they come

-- the lock that the call wants is barred
abbrev pub is_barred : Ask → Holders → Bool
is_barred ask h = bars h (nature_of ask h.phase)

-- the call waits: it tries the lock, is barred, and may wait
abbrev pub shall_wait : Who → Ask → Option ℕ → Holders → Bool
shall_wait who ask running h = not (is_cyclic ask.want who.party running) && (is_barred ask h && not ask.fast)

-- the call gets nothing: it tries the lock, is barred, and does not wait
abbrev pub shall_miss : Who → Ask → Option ℕ → Holders → Bool
shall_miss who ask running h = not (is_cyclic ask.want who.party running) && (is_barred ask h && ask.fast)

-- the call is to run the generator: it tries the lock, is admitted, and asks for a run
abbrev pub shall_run : Who → Ask → Option ℕ → Holders → Bool
shall_run who ask running h = not (is_cyclic ask.want who.party running) && (not (is_barred ask h) && asks_run ask h.phase)

-- the call is to run the finalizer: it asks for it, and is admitted
abbrev pub shall_finalize : Ask → Holders → Bool
shall_finalize ask h = asks_final ask h.phase && not (is_barred ask h)

-- ---- exactly when

-- a call of a party that does not wait gets each of these answers exactly where it is due; no generator runs where it is
-- refused
pub record BeginsExactly (who : Who) (ask : Ask) (running : Option ℕ) (h : Holders) (refused : Bool) (b : Begun) : Type 0 where
  pub waits : is_wait b ≡ shall_wait who ask running h
  pub missed : is_missed b ≡ shall_miss who ask running h
  pub cyclic : is_turned_back b ≡ is_cyclic ask.want who.party running
  pub runs : is_run b ≡ (if refused then false else shall_run who ask running h)
  pub finalizes : is_final b ≡ shall_finalize ask h

-- a call that gives up what it has waits exactly where the record that this leaves, with its hand-over, bars it
pub record WaitsWhereBarred (who : Who) (ask : Ask) (h : Holders) (s : Rows) (b : Begun) : Type 0 where
  pub given : Given
  pub left : Holders
  pub rows : Rows
  pub hands : Hands who.cell (given_up (row_of s who.party).waiting h) (freed who.party s) given left rows
  pub waits : is_wait b ≡ bars left (nature_of ask h.phase)

-- a call of a party that waits gets each of these answers exactly where it is due. It waits nowhere where it is turned
-- back, or keeps what it has
pub record ResumesExactly (who : Who) (ask : Ask) (running : Option ℕ) (h : Holders) (s : Rows) (refused : Bool) (b : Begun) : Type 0 where
  pub waits : MatchBool (is_cyclic ask.want who.party running || keeps (row_of s who.party).waiting (nature_of ask h.phase) h) (is_wait b ≡ false) (WaitsWhereBarred who ask h s b)
  pub cyclic : is_turned_back b ≡ is_cyclic ask.want who.party running
  pub runs : is_run b ≡ (if refused then false else (is_admitted b && asks_run ask h.phase))
  pub finalizes : is_final b ≡ (asks_final ask h.phase && is_admitted b)

-- an answer becomes this one on a cell with a registry: it stays of its sort, but for a run that is refused
pub record SettlesExactly (refused : Bool) (entered b : Begun) : Type 0 where
  pub waits : is_wait b ≡ is_wait entered
  pub missed : is_missed b ≡ is_missed entered
  pub cyclic : is_turned_back b ≡ is_turned_back entered
  pub admitted : is_admitted b ≡ is_admitted entered
  pub runs : is_run b ≡ (if refused then false else is_run entered)
  pub finalizes : is_final b ≡ is_final entered
