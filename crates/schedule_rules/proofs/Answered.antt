-- What holds of the answers that are due, by what holds of each that may be.
use Rattle.schedule_rules.proofs.Words.{ℕ, arith, List, ◌≡◌, Bool, true, false, ◌∙◌, ap, ◌&&◌, if◌then◌else◌, is_none, Option, Phase, Given, How, Tolerance, Call, Kind, Form}
use Rattle.schedule_rules.proofs.Words.{Answer, Line, Refusal, CellPlan, Place, Step, is_owned, is_accessible, Content, asks_to_lend, content_to_lend, Event, Section, Guard, Wait}
use Rattle.schedule_rules.proofs.Words.{refusal, answer_barred, answer_made_to_lend, answer_lent, call_answer_admitted, answer_denied, answer_made, answer_opened, due_answer}
use Rattle.schedule_rules.proofs.Words.{due_clone, due_finished, due_made, due_look, IsLegalLine, answer_of, due_at, Moment, waits_judged}

-- the answer that is due, where these calls of others wait
pub due_at-judged : (cells : List CellPlan) (m : Moment) (h : List Event) (s : Step) (g : Given) (chosen : Bool)
    → due_at cells m h s g chosen ≡ due_answer cells h s (waits_judged cells m h s g) chosen
due_at-judged cells m h s g chosen = grind arith

module _ (P : Answer → Type 0) where
  -- one of two answers
  pub either : (b : Bool) (x y : Answer) → P x → P y → P (if b then x else y)
  either true x y p q = p
  either false x y p q = q

  -- it holds of what shows a cell: a phase, a value or a guard
  pub record IsShown : Type 0 where
    pub phase : (p : Phase) → P (Answer.Phase p)
    pub value : (v : ℕ) → P (Answer.Value v)
    pub read_guard : P Answer.ReadGuard
    pub write_guard : P Answer.WriteGuard

  -- and of what tells that the value may not be accessed
  pub record IsTold : Type 0 where
    pub shown : IsShown
    pub access : (p : Phase) → P (Answer.Access p)
    pub err_guard : P Answer.ErrGuard

  -- so of a call that may access the value
  pub opened : IsShown → (f : Form) (y : Content) → P (answer_opened f y)
  opened k f y = grind arith

  -- of one that may not
  pub denied : IsTold → (f : Form) (p : ℕ) → P (answer_denied f p)
  denied k f p = grind arith

  -- of one that is admitted
  pub admitted : IsTold → P Answer.Running → (q : Kind) (t : Tolerance) (o : Bool) (k : Call) (y : Content) → P (call_answer_admitted q t o k y)
  admitted k r q t o c y = grind (arith, either, opened, denied)

  -- of a value that is lent
  pub lent : ((v : ℕ) → P (Answer.Value v)) → ((p : Phase) → P (Answer.Access p)) → (q : Kind) (y : Content) → P (answer_lent q y)
  lent value access q y = either (is_accessible q y.phase) _ _ (value _) (access _)

  -- of one that a run makes first where it is asked
  pub made_to_lend : ((v : ℕ) → P (Answer.Value v)) → ((p : Phase) → P (Answer.Access p)) → P Answer.Failed → (q : Kind) (t : Tolerance) (o : Bool) (made : Option ℕ) (y : Content) → P (answer_made_to_lend q t o made y)
  made_to_lend value access f q t o made y = either (asks_to_lend q t y.phase && is_none made) Answer.Failed _ f (lent value access q (content_to_lend q t o made y))

  -- of one that is barred
  pub barred : (fast : Bool) (x : Place) (way : How) → (fast ≡ true → P Answer.Missed) → ((w : How) → P (Answer.Waiting w)) → (is_owned x ≡ true → P Answer.Borrowed)
      → P (answer_barred fast x way)
  barred fast x way y z u = grind arith

  -- of a run that made a value
  pub made_so : IsShown → (f : Form) (v p : ℕ) → P (answer_made f v p)
  made_so k f v p = grind arith

  module _ (cells : List CellPlan) (h : List Event) where
    -- that of a value made
    pub made : IsShown → (v : ℕ) (o : Option Section) → P Answer.Done → P Answer.Failed → P (due_made cells h v o)
    made k v o d f = grind (arith, made_so)

    -- that of a finalizer that ends
    pub finished : IsShown → (fine : Bool) (o : Option Section) → P Answer.Done → P (due_finished cells h fine o)
    finished k fine o d = grind arith

    -- that of a look
    pub looked : IsShown → (o : Option Guard) → P Answer.Done → P (due_look cells h o)
    looked k o d = grind arith

    -- that of a clone
    pub cloned : (ws : List Wait) (o : Option Guard) → P Answer.Done → P Answer.Borrowed → P Answer.ReadGuard → P (due_clone cells h ws o)
    cloned ws o d b r = grind (arith, either)

-- a test that no refusal passes is passed exactly by the due answer of a step that is not refused
pub legal_by : (t : Answer → Bool) → ((q : Refusal) → t (Answer.Refused q) ≡ false) → (cells : List CellPlan) (h : List Event) (s : Step) (l : Line) (k : IsLegalLine cells h s l)
    → t l.answer ≡ (is_none (refusal cells h s) && t (due_answer cells h s (waits_judged cells k.moment h s l.given) k.chosen))
legal_by t fails cells h s l k =
    ap t (k.answered ∙ ap (answer_of (refusal cells h s)) (due_at-judged cells k.moment h s l.given k.chosen)) ∙ by (refusal cells h s) _
  where
    by : (o : Option Refusal) (a : Answer) → t (answer_of o a) ≡ (is_none o && t a)
    by o a = grind arith
