-- What a legal step may be, case by case.
use Rattle.schedule_rules.proofs.Words.{ℕ, arith, List, ◌≡◌, Bool, true, Some, false, ◌∷◌, [], None, ◌⊎◌, length, if◌then◌else◌, Option, has, initialized, phase_of, Phase, How}
use Rattle.schedule_rules.proofs.Words.{shall_init, flags_refused, lends_value, Call, Form, Held, Answer, CellPlan, Act, Step, Want, Calls, Turns, cell_at, tolerance_at, is_owned}
use Rattle.schedule_rules.proofs.Words.{form_of, is_accessible, runs_generator, finishes_so, phase_finalized, asks, is_fast, initializes, asks_to_lend, Event, accepts, count}
use Rattle.schedule_rules.proofs.Words.{act_of, sections, Section, innermost, is_turn, Guard, guards, numbered, replay, phase_at, inside, registry, finishing, waits, attempt}
use Rattle.schedule_rules.proofs.Words.{waits_at, write_holds, read_guards, answer_of_value, IsExclusive}

-- the act is a call, or goes on with one
abbrev pub IsCalling : Act → Type 0
IsCalling (Act.Call c j) = Unit {0}
IsCalling Act.Again = Unit {0}
IsCalling _ = ⊥

-- the act is an Exit, or goes on with one
abbrev pub IsTurning : Act → Type 0
IsTurning Act.Exit = Unit {0}
IsTurning Act.Again = Unit {0}
IsTurning _ = ⊥

-- the act attempts something
abbrev pub IsTrying : Act → Type 0
IsTrying (Act.Call c j) = Unit {0}
IsTrying Act.Again = Unit {0}
IsTrying Act.Exit = Unit {0}
IsTrying _ = ⊥

pub calling-tries : (a : Act) → IsCalling a → IsTrying a
calling-tries a t = grind arith

pub turning-tries : (a : Act) → IsTurning a → IsTrying a
turning-tries a t = grind arith

-- a call of this form gets a guard to read where the value may not be accessed
abbrev pub errs : Form → Bool
errs (Held writes falls_back) = falls_back
errs _ = false

-- one of this form gets a guard to write
abbrev pub writes : Form → Bool
writes (Held w falls_back) = w
writes _ = false

module _ (cells : List CellPlan) (h : List Event) (p : ℕ) where
  -- the step of the party by this act
  abbrev pub step : Act → Step
  step a = record { party = p; act = a }

  -- the act calls the cell so, or goes on with that call
  pub record Calling (a : Act) (c : ℕ) (k : Call) : Type 0 where
    pub tried : attempt cells h (step a) ≡ Some (record { cell = c; want = Calls k })
    pub does : act_of h (step a) ≡ Act.Call c k
    pub acts : IsCalling a

  -- the act takes the turn of the cell, or goes on with it
  pub record Turning (a : Act) (c : ℕ) : Type 0 where
    pub tried : attempt cells h (step a) ≡ Some (record { cell = c; want = Turns })
    pub does : act_of h (step a) ≡ Act.Exit
    pub acts : IsTurning a

  -- the act attempts this at the cell
  abbrev pub Tries : Act → ℕ → Want → Type 0
  Tries a c (Calls k) = Calling a c k
  Tries a c Turns = Turning a c

  pub trying : (a : Act) (c : ℕ) (w : Want) → Tries a c w → IsTrying a
  trying a c w t = grind (arith, calling-tries, turning-tries)

  -- a generator is asked at the cell, and runs there or not, and no guard and no section of the cell is open where holds
  -- exclude each other
  pub record Asking (c : ℕ) (k : Call) (runs : Bool) : Type 0 where
    pub asked : asks (cell_at cells c).kind (tolerance_at cells c) (Calls k) (phase_at cells c h) ≡ true
    pub wanted : shall_init (tolerance_at cells c) (phase_of (phase_at cells c h)) ≡ true
    pub generates : runs_generator (cell_at cells c).kind (tolerance_at cells c) (accepts h) (phase_at cells c h) ≡ runs
    pub unheld : IsExclusive cells h c → write_holds c h ≡ 0
    pub unread : IsExclusive cells h c → read_guards c h ≡ 0

  -- no generator is asked at the cell
  pub record Resting (c : ℕ) (k : Call) : Type 0 where
    pub unasked : asks (cell_at cells c).kind (tolerance_at cells c) (Calls k) (phase_at cells c h) ≡ false
    pub unwanted : initializes (cell_at cells c).kind (Calls k) ≡ true → shall_init (tolerance_at cells c) (phase_of (phase_at cells c h)) ≡ false

  -- the kind of the cell lends its value, no guard and no section of the cell is open, and no call waits at it
  pub record Lendable (c : ℕ) : Type 0 where
    pub lends : lends_value (cell_at cells c).kind ≡ true
    pub unread : read_guards c h ≡ 0
    pub unheld : write_holds c h ≡ 0
    pub unwaited : count (waits_at c) (waits cells h) ≡ 0

  -- a run is asked of the cell before its value is lent, or not
  abbrev pub AsksToLend : ℕ → Bool → Type 0
  AsksToLend c asked = asks_to_lend (cell_at cells c).kind (tolerance_at cells c) (phase_at cells c h) ≡ asked

  -- the value of the cell may be accessed, or not
  abbrev pub Reach : ℕ → Bool → Type 0
  Reach c accessible = is_accessible (cell_at cells c).kind (phase_at cells c h) ≡ accessible

  -- the form of a call of the cell
  abbrev pub form_at : ℕ → Call → Form
  form_at c k = form_of (cell_at cells c).kind k

  -- the call runs nothing: it is declined, and leaves this phase, or it asks for no run, and this holds
  abbrev pub Visiting : ℕ → Call → Phase → Type 0 → Type 0
  Visiting c k q T = (Asking c k false × (q ≡ phase_of flags_refused)) ⊎ (Resting c k × T)

  -- the party's innermost section is that of this call, or of a finalizer that may end so
  pub record Generating (t : Section) (k : Call) : Type 0 where
    pub found : innermost p (sections h) ≡ Some t
    pub kind : t.want ≡ Calls k

  pub record Finalizing (t : Section) (fine : Bool) (left : Option ℕ) : Type 0 where
    pub found : innermost p (sections h) ≡ Some t
    pub kind : is_turn t.want ≡ true
    pub so : finishes_so (cell_at cells t.cell).kind fine left ≡ true

  -- the act and the answer of each legal step that is not refused
  pub data Case : Act → Answer → Type 0 where
    cyclic : (a : Act) (c : ℕ) (k : Call) → Calling a c k → Case a Answer.Cyclic
    waiting : (a : Act) (c : ℕ) (w : Want) (way : How) → Tries a c w → Case a (Answer.Waiting way)
    missed : (a : Act) (c : ℕ) (w : Want) → is_fast w ≡ true → Tries a c w → Case a Answer.Missed
    owned : (a : Act) (c : ℕ) (w : Want) → is_owned (cell_at cells c).place ≡ true → Tries a c w → Case a Answer.Borrowed
    told : (a : Act) (c : ℕ) (k : Call) (q : Phase) → Calling a c k → Visiting c k q (Unit {0}) → Case a (Answer.Phase q)
    shown : (a : Act) (c : ℕ) (k : Call) → Calling a c k → Resting c k → Reach c true → Case a (answer_of_value (replay cells c h))
    reading : (a : Act) (c : ℕ) (k : Call) → Calling a c k → Resting c k → Reach c true → Case a Answer.ReadGuard
    writing : (a : Act) (c : ℕ) (k : Call) → Calling a c k → Resting c k → Reach c true → writes (form_at c k) ≡ true → Case a Answer.WriteGuard
    denied : (a : Act) (c : ℕ) (k : Call) (q : Phase) → Calling a c k → Visiting c k q (Reach c false × (q ≡ phase_of (phase_at cells c h))) → Case a (Answer.Access q)
    erring : (a : Act) (c : ℕ) (k : Call) (q : Phase) → Calling a c k → Visiting c k q (Unit {0}) → errs (form_at c k) ≡ true → Case a Answer.ErrGuard
    running : (a : Act) (c : ℕ) (k : Call) → Calling a c k → Asking c k true → Case a Answer.Running
    skipped : (a : Act) (c : ℕ) → Turning a c → has (phase_at cells c h) initialized ≡ false → Case a (Answer.Skipped c)
    finalizing : (a : Act) (c : ℕ) → Turning a c → has (phase_at cells c h) initialized ≡ true → (IsExclusive cells h c → write_holds c h ≡ 0) → Case a (Answer.Finalizing c)
    round : (c : ℕ) (cs : List ℕ) → (registry cells h).pending ≡ c ∷ cs → (registry cells h).left ≡ [] → Case Act.Exit (Answer.Round (length (c ∷ cs)))
    closed : (registry cells h).pending ≡ [] → (registry cells h).left ≡ [] → Case Act.Exit Answer.Closed
    made_told : (v : ℕ) (t : Section) (k : Call) (q : Phase) → Generating t k → Case (Act.Made v) (Answer.Phase q)
    made : (v : ℕ) (t : Section) (k : Call) → Generating t k → Case (Act.Made v) (Answer.Value v)
    made_to_read : (v : ℕ) (t : Section) (k : Call) → Generating t k → Case (Act.Made v) Answer.ReadGuard
    made_to_write : (v : ℕ) (t : Section) (k : Call) → Generating t k → writes (form_at t.cell k) ≡ true → Case (Act.Made v) Answer.WriteGuard
    failed : (t : Section) (k : Call) → Generating t k → Case Act.MadeFailed Answer.Failed
    finished : (fine : Bool) (left : Option ℕ) (t : Section) → Finalizing t fine left → Case (finishing fine left) (Answer.Phase (phase_of (phase_finalized (phase_at cells t.cell h) fine)))
    looked : (g : ℕ) (x : Guard) → numbered g (guards h) ≡ Some x → Case (Act.Look g) (answer_of_value (if x.writes then inside cells h x else replay cells x.cell h))
    set : (g v : ℕ) (x : Guard) → numbered g (guards h) ≡ Some x → x.writes ≡ true → Case (Act.Set g v) Answer.Done
    released : (g : ℕ) (x : Guard) → numbered g (guards h) ≡ Some x → Case (Act.Release g) Answer.Done
    downgraded : (g : ℕ) (x : Guard) → numbered g (guards h) ≡ Some x → x.writes ≡ true → Case (Act.Downgrade g) Answer.ReadGuard
    borrowed : (g : ℕ) (x : Guard) → numbered g (guards h) ≡ Some x → x.writes ≡ false → Case (Act.Clone g) Answer.Borrowed
    cloned : (g : ℕ) (x : Guard) → numbered g (guards h) ≡ Some x → x.writes ≡ false → Case (Act.Clone g) Answer.ReadGuard
    lent_made : (c v left : ℕ) → Lendable c → AsksToLend c true → Case (Act.GetMut c (Some v) left) (Answer.Value v)
    lent_failed : (c left : ℕ) → Lendable c → AsksToLend c true → Case (Act.GetMut c None left) Answer.Failed
    lent_rested : (c : ℕ) (made : Option ℕ) (left : ℕ) → Lendable c → AsksToLend c false → Reach c true → Case (Act.GetMut c made left) (answer_of_value (replay cells c h))
    lent_denied : (c : ℕ) (made : Option ℕ) (left : ℕ) → Lendable c → AsksToLend c false → Reach c false → Case (Act.GetMut c made left) (Answer.Access (phase_of (phase_at cells c h)))
    lent : (c left : ℕ) → Lendable c → Reach c true → Case (Act.TryGetMut c left) (answer_of_value (replay cells c h))
    unlent : (c left : ℕ) → Lendable c → Reach c false → Case (Act.TryGetMut c left) (Answer.Access (phase_of (phase_at cells c h)))
