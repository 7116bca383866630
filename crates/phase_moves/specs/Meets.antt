-- What an attempt meets at its cell, how that answers it, and when it may give a share to parked calls.
use Rattle.std.specs.Prelude.{ℕ, List, Bool, true, false, ◌≡◌, ◌≢◌, ◌+◌, nat_lt, if◌then◌else◌}
use Rattle.std.specs.List.{find}
use Rattle.std.specs.declared.option.Option.TheVariants.{None}
use Rattle.phase_locker.specs.declared.tickets.LockNature.{LockNature}
use Rattle.phase_locker.specs.declared.ways.Given.{Given}
use Rattle.phase_locker.specs.declared.ways.Given.TheVariants as given
use Rattle.lazy_cells.specs.declared.kind.Kind.{Kind}
use Rattle.schedule_rules.specs.declared.form.Form.{Form}
use Rattle.schedule_rules.specs.declared.form.Form.TheVariants.{Told, Shown, Held}
use Rattle.schedule_rules.specs.declared.line.Answer.{Answer}
use Rattle.schedule_rules.specs.declared.line.Answer.TheVariants as answer
use Rattle.schedule_rules.specs.declared.step.Want.{Want}
use Rattle.schedule_rules.specs.declared.step.Want.TheVariants.{Calls, Turns}
use Rattle.schedule_rules.specs.Answers.{Meeting, answer_at, answer_of_attempt}
use Rattle.schedule_rules.specs.Calls.{is_fast, lock_wanted}
use Rattle.schedule_rules.specs.Changes.{Content}
use Rattle.schedule_rules.specs.Forms.{form_of, is_to_read}
use Rattle.schedule_rules.specs.Gifts.{reaches}
use Rattle.schedule_rules.specs.History.{count}
use Rattle.schedule_rules.specs.Holds.{Holding, has_own, keeps, wants_to_write}
use Rattle.schedule_rules.specs.Kinds.{cell_at, is_parking, tolerance_at}
use Rattle.schedule_rules.specs.Legal.{Moment, First, Last}
use Rattle.schedule_rules.specs.Phases.{is_accessible}
use Rattle.schedule_rules.specs.Sections.{generates_for, runs_in}
use Rattle.schedule_rules.specs.Waits.{Wait, wait_of, without_wait, shares_read, shares_write, drains_on}
use Rattle.waiting_rows.specs.Given.{given_on}
use Rattle.phase_moves.specs.declared.rows.Taken.{Taken}
use Rattle.phase_moves.specs.declared.rows.Taken.TheVariants as taken
use Rattle.phase_moves.specs.declared.rows.Target.{Target}
use Rattle.phase_moves.specs.Gifts.{MayGive}
use Rattle.phase_moves.specs.Standing.{Standing, answered, changes_at, content_tried, reads_in, writes_in}

-- ---- what is met

-- who reads the cell, where these calls wait: its read guards and read shares
abbrev pub readers_in : ℕ → List Wait → Standing → ℕ
readers_in c ws m = reads_in c m + count (shares_read c) ws

-- who writes it: its write guards, the sections that run, and write shares
abbrev pub writers_in : ℕ → List Wait → Standing → ℕ
writers_in c ws m = writes_in c m + count (shares_write c) ws

-- what stands on the cell against a lock
abbrev pub holding_in : ℕ → List Wait → Standing → Holding
holding_in c ws m = record { readers = readers_in c ws m; written = nat_lt 0 (writers_in c ws m); drained = nat_lt 0 (count (drains_on c) ws) }

-- the lock that is wanted
abbrev pub wanted_in : ℕ → Want → Standing → LockNature
wanted_in c w m = lock_wanted (cell_at m.plans c).kind (tolerance_at m.plans c) w (m.content c).phase

-- the party's waiting call keeps its share or drain
abbrev pub keeps_in : ℕ → ℕ → Want → Standing → Bool
keeps_in p c w m = keeps (wait_of p m.waits) (wanted_in c w m) (readers_in c m.waits m)

-- what the party's attempt meets, where these calls of others wait
abbrev pub meets : ℕ → ℕ → Want → List Wait → Standing → Meeting
meets p c w ws m =
    record {
      cell = c;
      own_run = generates_for p (find (runs_in c) m.sections);
      kept = keeps_in p c w m;
      content = m.content c;
      holding = holding_in c ws m;
      is_open = m.registry.is_open;
    }

-- the calls of others that wait as the attempt is judged, where it gave at this moment
abbrev pub waits_at : Moment → ℕ → ℕ → Given → Standing → List Wait
waits_at First p c g m = given_on c g (without_wait p m.waits)
waits_at Last p c g m = without_wait p m.waits

-- ---- how it is answered

-- it was admitted, and no section of it runs: a call by its form and by what the cell holds then, and a turn is skipped
abbrev pub answer_left : Kind → ℕ → Want → Content → Answer
answer_left q c (Calls k) y = answer_at (form_of q k) (is_accessible q y.phase) y
answer_left q c Turns y = answer.Skipped c

-- it is barred, and does not wait: a fast call, or another at a cell of its party's own
abbrev pub answer_missed : Want → Answer
answer_missed w = if is_fast w then answer.Missed else answer.Borrowed

-- the generator runs, or the finalizer
abbrev pub answer_running : ℕ → Want → Answer
answer_running c (Calls k) = answer.Running
answer_running c Turns = answer.Finalizing c

-- the answer of what an attempt took, where the cell holds this then
abbrev pub answer_taken : Kind → Target → Content → Taken → Answer
answer_taken q t y (taken.Wait how) = answer.Waiting how
answer_taken q t y taken.Missed = answer_missed t.want
answer_taken q t y taken.Cyclic = answer.Cyclic
answer_taken q t y (taken.Nothing p) = answer_left q t.cell t.want y
answer_taken q t y (taken.Read lock p) = answer_left q t.cell t.want y
answer_taken q t y (taken.Write lock p) = answer_left q t.cell t.want y
answer_taken q t y taken.Runs = answer_running t.cell t.want

-- ---- what is got

-- a call of this form keeps no lock
abbrev pub takes_none : Form → Bool
takes_none (Told tests) = true
takes_none Shown = true
takes_none (Held writes falls_back) = false

-- a call of this form may get the lock to write
abbrev pub takes_write : Form → Bool
takes_write (Told tests) = true
takes_write Shown = false
takes_write (Held writes falls_back) = writes

-- a call, of a form that is so
abbrev pub IsCallOf : Kind → Want → (Form → Bool) → Type 0
IsCallOf q (Calls k) so = so (form_of q k) ≡ true
IsCallOf q Turns so = ⊥

-- no lock is left to a call that keeps none, or to a turn
abbrev pub IsUnlocked : Kind → Want → Type 0
IsUnlocked q (Calls k) = takes_none (form_of q k) ≡ true
IsUnlocked q Turns = Unit {0}

-- what is got fits what is wanted. What does not wait is a call that did not wait before. What is turned away or gets the lock
-- to write gave nothing before
abbrev pub IsOf : ℕ → Target → Given → Standing → Taken → Type 0
IsOf p t g m (taken.Wait how) = Unit {0}
IsOf p t g m taken.Missed = (g ≡ given.Nobody) × (wait_of p m.waits ≡ None) × (t.want ≢ Turns)
IsOf p t g m taken.Cyclic = g ≡ given.Nobody
IsOf p t g m (taken.Nothing q) = IsUnlocked (cell_at m.plans t.cell).kind t.want
IsOf p t g m (taken.Read lock q) = IsCallOf (cell_at m.plans t.cell).kind t.want is_to_read
IsOf p t g m (taken.Write lock q) = IsCallOf (cell_at m.plans t.cell).kind t.want takes_write × (wants_to_write (wanted_in t.cell t.want m) ≡ true) × (g ≡ given.Nobody)
IsOf p t g m taken.Runs = Unit {0}

-- ---- when it may give

-- parked calls of others are given shares, on a cell that parks
pub record IsReaching (p c : ℕ) (g : Given) (m : Standing) : Type 0 where
  pub parks : is_parking (cell_at m.plans c).place ≡ true
  pub reach : reaches c g (without_wait p m.waits) ≡ true

-- its own share or drain is taken away, and nothing else stands on the cell
pub record GivesFirst (p : ℕ) (t : Target) (g : Given) (m : Standing) : Type 0 where
  pub reaching : IsReaching p t.cell g m
  pub own : has_own (wait_of p m.waits) ≡ true
  pub dropped : keeps_in p t.cell t.want m ≡ false
  pub free : readers_in t.cell (without_wait p m.waits) m + writers_in t.cell (without_wait p m.waits) m + count (drains_on t.cell) (without_wait p m.waits) ≡ 0

-- a call that reads had the lock to write, was declined, and its section was made a read lock
pub record IsDown (p : ℕ) (t : Target) (m : Standing) : Type 0 where
  pub reaching : IsReaching p t.cell given.Readers m
  pub wrote : wants_to_write (wanted_in t.cell t.want m) ≡ true
  pub lacks : is_accessible (cell_at m.plans t.cell).kind (content_tried t.cell t.want m).phase ≡ false

abbrev pub GivesDown : ℕ → Target → Given → Standing → Type 0
GivesDown p t given.Nobody m = Unit {0}
GivesDown p t (given.Writer q) m = ⊥
GivesDown p t given.Readers m = IsDown p t m

-- a section that no run came of was given back, and nothing else stands on the cell; or it was made a read lock
abbrev pub GivesLast : ℕ → Target → Taken → Given → Standing → Type 0
GivesLast p t (taken.Wait how) g m = g ≡ given.Nobody
GivesLast p t taken.Missed g m = g ≡ given.Nobody
GivesLast p t taken.Cyclic g m = g ≡ given.Nobody
GivesLast p t (taken.Nothing q) g m = MayGive t.cell (answered p t.cell given.Nobody (changes_at t.cell t.want m) m) g
GivesLast p t (taken.Read lock q) g m = GivesDown p t g m
GivesLast p t (taken.Write lock q) g m = g ≡ given.Nobody
GivesLast p t taken.Runs g m = g ≡ given.Nobody

-- it may give at this moment
abbrev pub MayGiveAt : Moment → ℕ → Target → Taken → Given → Standing → Type 0
MayGiveAt First p t b g m = GivesFirst p t g m
MayGiveAt Last p t b g m = GivesLast p t b g m

-- the answer is due where it gave at one of the two moments, and drains by choice
pub record IsMet (p : ℕ) (t : Target) (b : Taken) (g : Given) (m : Standing) : Type 0 where
  pub moment : Moment
  pub chosen : Bool
  pub answered : answer_taken (cell_at m.plans t.cell).kind t (content_tried t.cell t.want m) b ≡ answer_of_attempt (cell_at m.plans t.cell) t.want (meets p t.cell t.want (waits_at moment p t.cell g m) m) chosen
  pub gives : MayGiveAt moment p t b g m
  pub wanted : IsOf p t g m b
