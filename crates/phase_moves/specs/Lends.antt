-- What lending the value of a cell requires and does.
use Rattle.std.specs.Prelude.{ℕ, Bool, true, false, not, List, [], ◌∷◌, ◌≡◌, ◌==◌, ◌+◌, ◌<◌, length, if◌then◌else◌}
use Rattle.std.specs.declared.option.Option.{Option}
use Rattle.std.specs.declared.option.Option.TheVariants.{None, Some}
use Rattle.phase_bits.specs.declared.holders.Holders.{Holders}
use Rattle.phase_bits.specs.Number.{number}
use Rattle.phase_bits.specs.Records.{admit_write, bars_write}
use Rattle.phase_locker.specs.declared.tickets.WriteTicket.{WriteTicket}
use Rattle.phase_locker.specs.declared.ways.LockerKind.{LockerKind}
use Rattle.phase_seq.specs.Phases.{reached, unregistered}
use Rattle.lazy_cells.specs.Kinds.{lends_value}
use Rattle.schedule_rules.specs.declared.line.Answer.{Answer}
use Rattle.schedule_rules.specs.declared.line.Answer.TheVariants as answer
use Rattle.schedule_rules.specs.declared.line.Refusal.TheVariants as refused
use Rattle.schedule_rules.specs.declared.plan.CellPlan.{CellPlan}
use Rattle.schedule_rules.specs.declared.step.Act.{Act}
use Rattle.schedule_rules.specs.declared.step.Act.TheVariants as act
use Rattle.schedule_rules.specs.Answers.{answer_lent, answer_made_to_lend}
use Rattle.schedule_rules.specs.Changes.{Content, Change, Ran, Put, RanIfAsked, effect}
use Rattle.schedule_rules.specs.History.{count}
use Rattle.schedule_rules.specs.Kinds.{cell_at, tolerance_of}
use Rattle.schedule_rules.specs.Waits.{waits_at}
use Rattle.phase_moves.specs.declared.lend.Lent.{Lent}
use Rattle.phase_moves.specs.declared.lend.Lent.TheVariants as lent
use Rattle.phase_moves.specs.declared.lend.Loan.{Loan}
use Rattle.phase_moves.specs.declared.lend.Published.{Published}
use Rattle.phase_moves.specs.declared.rows.Rows.{Rows}
use Rattle.phase_moves.specs.Standing.{Standing, content_back, reads_in, writes_in}
use Rattle.phase_moves.specs.Stands.{Stands}

-- a guard of the cell is open, a section of it goes on, or something waits at it
abbrev pub in_use : ℕ → Standing → Bool
in_use c m = not (reads_in c m + writes_in c m + count (waits_at c) m.waits == 0)

-- the act that lends a value so
abbrev pub lending : ℕ → Loan → Act
lending c l = if l.runs then act.GetMut c l.made l.left else act.TryGetMut c l.left

-- ---- what comes of a loan

-- it found the cell in use
abbrev pub was_used : Lent → Bool
was_used lent.InUse = true
was_used (lent.Denied q) = false
was_used lent.Failed = false
was_used (lent.Found v) = false

-- how it is answered
abbrev pub answer_of : Lent → Answer
answer_of lent.InUse = answer.Refused refused.InUse
answer_of (lent.Denied q) = answer.Access q
answer_of lent.Failed = answer.Failed
answer_of (lent.Found v) = answer.Value v

-- the answer that is due where the cell is not in use
abbrev pub answer_due : CellPlan → Loan → Bool → Content → Answer
answer_due x l is_open y = if l.runs then answer_made_to_lend x.kind (tolerance_of x) is_open l.made y else answer_lent x.kind y

-- what happens before the value is lent
abbrev pub changes_before : Loan → Bool → List Change
changes_before l is_open = if l.runs then RanIfAsked is_open l.made ∷ [] else []

-- what happens in all
abbrev pub changes_lent : Loan → Bool → Lent → List Change
changes_lent l is_open lent.InUse = []
changes_lent l is_open (lent.Denied q) = []
changes_lent l is_open lent.Failed = Ran is_open None ∷ []
changes_lent l is_open (lent.Found v) = Put l.left ∷ changes_before l is_open

-- these changes are published
abbrev pub changed : ℕ → List Change → Standing → Standing
changed c chs m = record m { content = content_back (Some (record { cell = c; changes = chs })) m }

-- what stands open after a loan of the cell
abbrev pub lent_in : ℕ → Loan → Lent → Standing → Standing
lent_in c l lent.InUse m = m
lent_in c l (lent.Denied q) m = m
lent_in c l lent.Failed m = changed c (Ran m.registry.is_open None ∷ []) m
lent_in c l (lent.Found v) m = changed c (Put l.left ∷ changes_before l m.registry.is_open) m

-- ---- at what a cell publishes

-- what a cell publishes, as a content
abbrev pub content_of : Published → Content
content_of p = record { phase = number p.phase; value = p.value }

-- the answer is due, and what happens is published
pub record IsFound (x : CellPlan) (l : Loan) (is_open : Bool) (y : Content) (r : Lent) (y' : Content) : Type 0 where
  pub free : was_used r ≡ false
  pub due : answer_due x l is_open y ≡ answer_of r
  pub content : y' ≡ effect x (changes_lent l is_open r) y

-- so it is whether the registry is open or closed: a cell that lends its value is not registered
abbrev pub Finds : CellPlan → Loan → Published → Lent × Published → Type 0
Finds x l was r = (is_open : Bool) → IsFound x l is_open (content_of was) r.0 (content_of r.1)

-- where the generator runs
abbrev pub ran_of : Loan → Published → Lent × Published
ran_of l was = of_made l.made
  where
    of_made : Option ℕ → Lent × Published
    of_made None = (lent.Failed, record { phase = reached unregistered false; value = was.value })
    of_made (Some v) = (lent.Found v, record { phase = reached unregistered true; value = Some l.left })

-- ---- the locker

-- a lock to write is tried, and got where nobody holds the cell
abbrev pub TriesWrite : Option WriteTicket → Holders → Holders → Type 0
TriesWrite None h h' = (bars_write h ≡ true) × (h' ≡ h)
TriesWrite (Some t) h h' = (bars_write h ≡ false) × (h' ≡ admit_write h)

-- ---- the move

module _ {L : Type 0} (held : L → Holders) (place : L → LockerKind) where
  -- cells of this kind lend their value
  pub record IsLending (hand : ℕ) (m : Standing) (v : Rows L) (c : ℕ) : Type 0 where
    pub stands : Stands held place hand m v
    pub inside : c < length v.cells.items
    pub lends : lends_value (cell_at m.plans c).kind ≡ true

  pub record MayLend (v : Rows L) (c : ℕ) : Type 0 where
    pub hand : ℕ
    pub m : Standing
    pub is : IsLending hand m v c

  -- it is lent where it is not in use
  pub record IsLent (hand : ℕ) (m : Standing) (c : ℕ) (l : Loan) (r : Lent) (new : Rows L) : Type 0 where
    pub used : was_used r ≡ in_use c m
    pub due : was_used r ≡ false → answer_due (cell_at m.plans c) l m.registry.is_open (m.content c) ≡ answer_of r
    pub stands : Stands held place hand (lent_in c l r m) new

  abbrev pub Lends : Rows L → ℕ → Loan → Lent → Rows L → Type 0
  Lends old c l r new = (hand : ℕ) (m : Standing) → IsLending hand m old c → IsLent hand m c l r new
