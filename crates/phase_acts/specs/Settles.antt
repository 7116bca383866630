-- What becomes of what an attempt took: it is kept, or given back where the value may not be accessed.
use Rattle.std.specs.Prelude.{ℕ, Bool, true, false, ◌≡◌, ◌<◌, length, vec_capacity, if◌then◌else◌, MatchBool}
use Rattle.std.specs.declared.option.Option.TheVariants.{None}
use Rattle.exit_registry.specs.declared.turns.Turn.TheVariants as turn
use Rattle.phase_bits.specs.declared.holders.Holders.{Holders}
use Rattle.phase_locker.specs.declared.ways.Given.{Given}
use Rattle.phase_locker.specs.declared.ways.Given.TheVariants as given
use Rattle.phase_locker.specs.declared.ways.LockerKind.{LockerKind}
use Rattle.schedule_rules.specs.declared.line.Answer.{Answer}
use Rattle.schedule_rules.specs.declared.line.Answer.TheVariants as answer
use Rattle.schedule_rules.specs.declared.line.Line.{Line}
use Rattle.schedule_rules.specs.declared.step.Want.{Want}
use Rattle.schedule_rules.specs.declared.step.Want.TheVariants.{Calls, Turns}
use Rattle.schedule_rules.specs.Guards.{Guard, reader, numbered}
use Rattle.schedule_rules.specs.Kinds.{cell_at}
use Rattle.phase_moves.specs.declared.rows.Rows.{Rows}
use Rattle.phase_moves.specs.declared.rows.Taken.{Taken}
use Rattle.phase_moves.specs.declared.rows.Taken.TheVariants as taken
use Rattle.phase_moves.specs.declared.rows.Target.{Target}
use Rattle.phase_moves.specs.Gifts.{MayGive, MayGiveDown}
use Rattle.phase_moves.specs.Meets.{answer_left, answer_taken}
use Rattle.phase_moves.specs.Moves.{Rests}
use Rattle.phase_moves.specs.Standing.{Standing, took, left, downgraded, turn_ended, changes_at, content_tried, writer_asked}
use Rattle.phase_moves.specs.Stands.{Stands}
use Rattle.phase_moves.specs.Tries.{TellsPhase, phase_asked}
use Rattle.phase_acts.specs.Steps.{given_first}

-- the answer of what was taken
abbrev pub answer_settled : ℕ → Want → Taken → Standing → Answer
answer_settled c w b m = answer_taken (cell_at m.plans c).kind (record { cell = c; want = w }) (content_tried c w m) b

-- the answer of what was admitted, and runs nothing
abbrev pub answer_tried : ℕ → Want → Standing → Answer
answer_tried c w m = answer_left (cell_at m.plans c).kind c w (content_tried c w m)

-- its party has a guard to read then
abbrev pub reads_on : Answer → Bool
reads_on answer.ReadGuard = true
reads_on answer.ErrGuard = true
reads_on _ = false

-- it has a guard to write then
abbrev pub writes_on : Answer → Bool
writes_on answer.WriteGuard = true
writes_on _ = false

-- a turn that wants no lock has ended
abbrev pub unlocked : ℕ → Want → Standing → Standing
unlocked c (Calls k) m = m
unlocked c Turns m = turn_ended c turn.Skipped m

-- what becomes of a lock to read, that of this guard, by the answer
abbrev pub read_kept : Answer → Guard → Given → Standing → Standing
read_kept a x d m = if reads_on a then m else left x d m

-- and of the lock to write, at step n: a guard keeps it, or reads on, or it is given back
abbrev pub write_kept : Answer → ℕ → Guard → Given → Standing → Standing
write_kept a n x d m = if writes_on a then m else (if reads_on a then downgraded n x d m else left x d m)

-- what is open at the end of step n, an attempt that took this with the gift g, and gave d as it gave that back
abbrev pub settled : ℕ → ℕ → ℕ → Want → Given → Given → Taken → Standing → Standing
settled n p c w g d (taken.Wait how) m = took n p c w g (taken.Wait how) m
settled n p c w g d taken.Missed m = took n p c w g taken.Missed m
settled n p c w g d taken.Cyclic m = took n p c w g taken.Cyclic m
settled n p c w g d (taken.Nothing q) m = unlocked c w (took n p c w g (taken.Nothing q) m)
settled n p c w g d (taken.Read t q) m = read_kept (answer_tried c w m) (reader n p c) d (took n p c w g (taken.Read t q) m)
settled n p c w g d (taken.Write t q) m = write_kept (answer_tried c w m) n (writer_asked n p c (changes_at c w m)) d (took n p c w g (taken.Write t q) m)
settled n p c w g d taken.Runs m = took n p c w g taken.Runs m

-- what it may give as it gives that back
abbrev pub GivesRead : Answer → Guard → Given → Standing → Type 0
GivesRead a x d m = MatchBool (reads_on a) (d ≡ given.Nobody) (MayGive x.cell (left x given.Nobody m) d)

abbrev pub GivesWritten : Answer → Guard → Given → Standing → Type 0
GivesWritten a x d m = MatchBool (writes_on a) (d ≡ given.Nobody) (MatchBool (reads_on a) (MayGiveDown x.cell m d) (MayGive x.cell (left x given.Nobody m) d))

abbrev pub GivesSettled : ℕ → ℕ → ℕ → Want → Given → Given → Taken → Standing → Type 0
GivesSettled n p c w g d (taken.Wait how) m = d ≡ given.Nobody
GivesSettled n p c w g d taken.Missed m = d ≡ given.Nobody
GivesSettled n p c w g d taken.Cyclic m = d ≡ given.Nobody
GivesSettled n p c w g d (taken.Nothing q) m = d ≡ given.Nobody
GivesSettled n p c w g d (taken.Read t q) m = GivesRead (answer_tried c w m) (reader n p c) d (took n p c w g (taken.Read t q) m)
GivesSettled n p c w g d (taken.Write t q) m = GivesWritten (answer_tried c w m) (writer_asked n p c (changes_at c w m)) d (took n p c w g (taken.Write t q) m)
GivesSettled n p c w g d taken.Runs m = d ≡ given.Nobody

module _ {L : Type 0} (held : L → Holders) (place : L → LockerKind) where
  -- an attempt took this of what stood open, and a lock is in the hand of the step
  pub record IsSettling (m : Standing) (v : Rows L) (p : ℕ) (t : Target) (b : Taken) (g : Given) : Type 0 where
    pub stands : Stands held place (length v.guards.items) (took (length v.guards.items) p t.cell t.want g b m) v
    pub empty : numbered (length v.guards.items) m.guards ≡ None
    pub party : p < length v.parties.items
    pub cell : t.cell < length v.cells.items
    pub told : TellsPhase (phase_asked t.cell t.want m) b
    pub turns : t.want ≡ Turns → length v.exit.turns.items < vec_capacity v.exit.turns

  pub record MaySettle (v : Rows L) (p : ℕ) (t : Target) (b : Taken) (g : Given) : Type 0 where
    pub m : Standing
    pub is : IsSettling m v p t b g
    pub room : length v.guards.items < vec_capacity v.guards

  -- the step ended so
  pub record IsSettled (n : ℕ) (m : Standing) (p : ℕ) (t : Target) (b : Taken) (g : Given) (l : Line) (new : Rows L) : Type 0 where
    pub last : Given
    pub line : l ≡ record { answer = answer_settled t.cell t.want b m; given = given_first g last }
    pub rests : Rests held place (settled n p t.cell t.want g last b m) new
    pub gave : GivesSettled n p t.cell t.want g last b m

  abbrev pub Settles : Rows L → ℕ → Target → Taken → Given → Line → Rows L → Type 0
  Settles old p t b g l new = (m : Standing) → IsSettling m old p t b g → IsSettled (length old.guards.items) m p t b g l new
