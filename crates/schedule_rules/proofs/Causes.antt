-- Which answer a legal line has, by its cause.
use Rattle.schedule_rules.proofs.Words.{ℕ, arith, List, ◌≡◌, Bool, true, refl, Some, false, ◌∙◌, sym, ap, None, ◌&&◌, ◌≢◌, not, ◌||◌, if◌then◌else◌, is_none, is_some, Option}
use Rattle.schedule_rules.proofs.Words.{first_of, look_at, Given, How, Call, Answer, Line, Refusal, CellPlan, Place, Act, Step, Calls, cell_at, tolerance_at, is_owned, asks}
use Rattle.schedule_rules.proofs.Words.{is_fast, lock_wanted, Event, accepts, is_exit, Guard, guards, numbered, replay, phase_at, registry, Wait, waits, wait_of, Attempt, attempt}
use Rattle.schedule_rules.proofs.Words.{attempt_of_wait, is_barred, holding_with, refusal, refusal_by, answer_barred, answer_admitted, drains_by, way_parked, due_answer, due_clone}
use Rattle.schedule_rules.proofs.Words.{due_attempt, answer_of_look, due_tried, keeps_own, is_nobody, IsLegalLine, answer_of, due_at, Moment, may_give, waits_judged, is_attempted}
use Rattle.schedule_rules.proofs.Words.{is_waiting, is_cyclic, is_closing, is_finalizing, is_access, is_skipped, is_missed, is_admitted, is_denied_to_lend, is_round}
use Rattle.schedule_rules.proofs.Words.{is_cyclic_step, is_borrowed, is_running, is_running_step, is_missing_step, is_turn_step, is_barred_step, is_access_step, is_borrowing_step}
use Rattle.schedule_rules.proofs.Words.{is_barred_clone, is_step_of, looks, is_closing_step, is_round_step, is_of_own_run, is_barred_attempt, is_initializing}
use Rattle.schedule_rules.proofs.Tests.{none_asked, none_kept, look_closes, look_rounds, barred_borrows, barred_misses, barred_waits, parts_of_borrowing, parts_of_look}
use Rattle.schedule_rules.proofs.Tests.{not_admitted, only_own, only_admitted, only_barred, is_refused, IsBeyond, IsOfTries, of_running, of_access, of_cyclic, of_finalizing}
use Rattle.schedule_rules.proofs.Tests.{of_skipped, of_round, of_closing, of_waiting, of_missed, of_borrowed, of_refused, no_more, same_both, nothing_else, neither, unless_first}
use Rattle.schedule_rules.proofs.Tests.{is_unlent, unlent_where_denied, shows, makes, admitted_runs, admitted_away, admitted_finalizes, admitted_skips, admitted_fails}
use Rattle.schedule_rules.proofs.Tests.{fails_barred, calls_not}
use Rattle.schedule_rules.proofs.Answered.{due_at-judged, lent, made_to_lend, made, finished, looked, cloned, legal_by}
use Rattle.schedule_rules.proofs.Facts.{apart}

-- ---- attempts, by whether they are cyclic, barred or admitted

module _ (t : Answer → Bool) (cells : List CellPlan) (h : List Event) (p : ℕ) (ws : List Wait) (chosen : Bool) where
  -- what bars the attempt, and how it would park
  abbrev bars : Attempt → Bool
  bars a = is_barred (lock_wanted (cell_at cells a.cell).kind (tolerance_at cells a.cell) a.want (phase_at cells a.cell h)) (holding_with a.cell h ws)

  abbrev parks : Attempt → How
  parks a =
      way_parked (cell_at cells a.cell).kind a.want
      (drains_by (lock_wanted (cell_at cells a.cell).kind (tolerance_at cells a.cell) a.want (phase_at cells a.cell h)) (holding_with a.cell h ws) chosen)

  -- what it is answered where it is barred, and where it is admitted
  abbrev where_barred : Attempt → Answer
  where_barred a = answer_barred (is_fast a.want) (cell_at cells a.cell).place (parks a)

  abbrev where_admitted : Attempt → Answer
  where_admitted a = answer_admitted (cell_at cells a.cell).kind (tolerance_at cells a.cell) a.cell (accepts h) a.want (replay cells a.cell h)

  -- how the test is passed, by how it is in the three cases
  pub attempt_passes : (a : Attempt) (u x y : Bool) → t Answer.Cyclic ≡ u → t (where_barred a) ≡ x → t (where_admitted a) ≡ y
      → t (due_attempt cells h p a ws chosen) ≡ (if is_of_own_run cells h p a then u else if not (keeps_own cells h p a) && bars a then x else y)
  attempt_passes a u x y e f g = by (is_of_own_run cells h p a) (keeps_own cells h p a) (bars a)
    where
      by : (own kept barred : Bool) → t (if own then Answer.Cyclic else if not kept && barred then where_barred a else where_admitted a) ≡ (if own then u else if not kept && barred then x else y)
      by own kept barred = grind arith

  -- it fails on what is admitted, and is passed by what is barred alone, or by what is cyclic alone
  admits_none : IsBeyond t → (a : Attempt) → t (where_admitted a) ≡ false
  admits_none is a = admitted_fails (cell_at cells a.cell).kind (tolerance_at cells a.cell) a.cell (accepts h) (replay cells a.cell h) t is a.want

  barred_alone : IsBeyond t → t Answer.Cyclic ≡ false → (a : Attempt) (x : Bool) → t (where_barred a) ≡ x → t (due_attempt cells h p a ws chosen) ≡ (is_barred_attempt cells h p ws a && x)
  barred_alone is c a x e = attempt_passes a false x false c e (admits_none is a) ∙ only_barred (is_of_own_run cells h p a) (keeps_own cells h p a) (bars a) x

  admitted_alone : t Answer.Cyclic ≡ false → ((fast : Bool) (x : Place) (w : How) → t (answer_barred fast x w) ≡ false) → (a : Attempt) (x : Bool) → t (where_admitted a) ≡ x
      → t (due_attempt cells h p a ws chosen) ≡ (is_admitted cells h p ws a && x)
  admitted_alone c fails a x e = attempt_passes a false false x c (fails _ _ _) e ∙ only_admitted (is_of_own_run cells h p a) (keeps_own cells h p a) (bars a) x

  cyclic_alone : (b : Bool) → t Answer.Cyclic ≡ b → ((fast : Bool) (x : Place) (w : How) → t (answer_barred fast x w) ≡ false) → IsBeyond t → (a : Attempt)
      → t (due_attempt cells h p a ws chosen) ≡ (is_of_own_run cells h p a && b)
  cyclic_alone b c fails is a = attempt_passes a b false false c (fails _ _ _) (admits_none is a) ∙ only_own (is_of_own_run cells h p a) (keeps_own cells h p a) (bars a) b

  -- or by all that is not admitted
  pub unless_admitted : t Answer.Cyclic ≡ true → ((fast : Bool) (x : Place) (w : How) → t (answer_barred fast x w) ≡ true) → IsBeyond t → (a : Attempt)
      → t (due_attempt cells h p a ws chosen) ≡ not (is_admitted cells h p ws a)
  unless_admitted c passes is a = attempt_passes a true true false c (passes _ _ _) (admits_none is a) ∙ not_admitted (is_of_own_run cells h p a) (keeps_own cells h p a) (bars a)

-- ---- legal lines

module _ (t : Answer → Bool) {denies : Bool} (is : IsOfTries t denies) (cells : List CellPlan) (cause : Attempt → Bool) (h : List Event) (ws : List Wait) (chosen : Bool) where
  -- a clone is answered so where it is barred, and Borrowed is
  clones : (g : ℕ) (o : Option Guard) → numbered g (guards h) ≡ o → t (due_clone cells h ws o) ≡ (is_barred_clone cells h (Act.Clone g) ws && t Answer.Borrowed)
  clones g o e = grind arith

  -- each act, where what is attempted is answered so exactly by this cause
  due : (p : ℕ) → ((o : Option Attempt) → t (due_tried cells h p o ws chosen) ≡ is_attempted cause o) → (a : Act)
      → t (due_answer cells h (record { party = p; act = a }) ws chosen)
      ≡ (is_attempted cause (attempt cells h (record { party = p; act = a })) || ((is_barred_clone cells h a ws && t Answer.Borrowed) || (is_unlent cells h a && denies)))
  due p f (Act.Call c k) = f (Some (record { cell = c; want = Calls k })) ∙ sym (nothing_else _)
  due p x a = grind (arith, nothing_else, made, finished, looked, clones, makes, shows)

module _ (t : Answer → Bool) {denies : Bool} (is : IsOfTries t denies) (refused : (q : Refusal) → t (Answer.Refused q) ≡ false) (cells : List CellPlan) (h : List Event) (s : Step) (l : Line) (k : IsLegalLine cells h s l) where
  abbrev judged : List Wait
  judged = waits_judged cells k.moment h s l.given

  -- so it is of a legal line
  legal : (cause : Attempt → Bool) → ((o : Option Attempt) → t (due_tried cells h s.party o judged k.chosen) ≡ is_attempted cause o)
      → t l.answer ≡ (is_none (refusal cells h s) && (is_attempted cause (attempt cells h s) || ((is_barred_clone cells h s.act judged && t Answer.Borrowed) || (is_unlent cells h s.act && denies))))
  legal cause f = legal_by t refused cells h s l k ∙ ap (λ b. is_none (refusal cells h s) && b) (due t is cells cause h judged k.chosen s.party f s.act)

  -- where no look is answered so
  module _ (round : (n : ℕ) → t (Answer.Round n) ≡ false) (closed : t Answer.Closed ≡ false) (cause : Attempt → Bool) (each : (a : Attempt) → t (due_attempt cells h s.party a judged k.chosen) ≡ cause a) where
    told : (l : _) → t (answer_of_look l) ≡ false
    told l = grind arith

    tried : (o : Option Attempt) → t (due_tried cells h s.party o judged k.chosen) ≡ is_attempted cause o
    tried o = grind arith

    -- nor a clone, nor a value that is to be lent
    legal_alone : t Answer.Borrowed ≡ false → denies ≡ false → t l.answer ≡ is_step_of cells cause h s
    legal_alone e f =
        legal cause tried
        ∙ ap (λ b. is_none (refusal cells h s) && (is_attempted cause (attempt cells h s) || b)) (neither (is_barred_clone cells h s.act judged) (is_unlent cells h s.act) _ _ e f)
        ∙ ap (λ b. is_none (refusal cells h s) && b) (nothing_else _)

module _ (cells : List CellPlan) (h : List Event) (s : Step) (l : Line) (k : IsLegalLine cells h s l) where
  abbrev ws : List Wait
  ws = waits_judged cells k.moment h s l.given

  -- a legal line waits exactly where the step is barred, and neither fast nor at a cell of the party's own
  pub waits_where_barred : is_waiting l.answer ≡ is_barred_step cells h s l.given k.moment
  waits_where_barred =
      legal_alone is_waiting of_waiting.tries (λ q. refl) cells h s l k (λ n. refl) refl _ (λ a. barred_alone is_waiting cells h s.party ws k.chosen of_waiting refl a _ (barred_waits _ _ _)) refl refl

  -- misses exactly where it is barred and fast
  pub misses_where_barred : is_missed l.answer ≡ is_missing_step cells h s l.given k.moment
  misses_where_barred =
      legal_alone is_missed of_missed.tries (λ q. refl) cells h s l k (λ n. refl) refl _ (λ a. barred_alone is_missed cells h s.party ws k.chosen of_missed refl a _ (barred_misses _ _ _)) refl refl

  -- and borrows exactly where it is a clone that is barred, or is barred and not fast at a cell of the party's own
  pub borrows_where_barred : is_borrowed l.answer ≡ is_borrowing_step cells h s l.given k.moment
  borrows_where_barred =
      legal is_borrowed of_borrowed.tries (λ q. refl) cells h s l k _
      (tried is_borrowed of_borrowed.tries (λ q. refl) cells h s l k (λ n. refl) refl _ (λ a. barred_alone is_borrowed cells h s.party ws k.chosen of_borrowed refl a _ (barred_borrows _ _ _)))
      ∙ parts_of_borrowing (is_none (refusal cells h s)) _ _ (is_unlent cells h s.act)

  -- a run begins
  pub runs_where_asked : is_running l.answer ≡ is_running_step cells h s l.given k.moment
  runs_where_asked =
      legal_alone is_running of_running (λ q. refl) cells h s l k (λ n. refl) refl _
      (λ a. admitted_alone is_running cells h s.party ws k.chosen refl (fails_barred is_running refl refl (λ w. refl)) a _
      (admitted_runs (cell_at cells a.cell).kind (tolerance_at cells a.cell) a.cell (accepts h) (replay cells a.cell h) a.want)) refl refl

  -- the value may not be accessed
  pub accesses_where_turned_away : is_access l.answer ≡ is_access_step cells h s l.given k.moment
  accesses_where_turned_away =
      legal is_access of_access (λ q. refl) cells h s l k _
      (tried is_access of_access (λ q. refl) cells h s l k (λ n. refl) refl _
      (λ a. admitted_alone is_access cells h s.party ws k.chosen refl (fails_barred is_access refl refl (λ w. refl)) a _
      (admitted_away (cell_at cells a.cell).kind (tolerance_at cells a.cell) a.cell (accepts h) (replay cells a.cell h) a.want)))
      ∙ parts (refusal cells h s) refl _ (is_barred_clone cells h s.act ws)
    where
      parts : (o : Option Refusal) → refusal cells h s ≡ o → (x y : Bool)
          → (is_none o && (x || ((y && false) || (is_unlent cells h s.act && true)))) ≡ ((is_none o && x) || (is_none o && is_denied_to_lend cells h s.act))
      parts o n x y = grind (arith, unless_first, is_unlent, unlent_where_denied)

  -- a finalizer begins
  pub finalizes_where_ready : (c : ℕ) → is_finalizing c l.answer ≡ is_turn_step cells c true h s l.given k.moment
  finalizes_where_ready c =
      legal_alone (is_finalizing c) (of_finalizing c) (λ q. refl) cells h s l k (λ n. refl) refl _
      (λ a. admitted_alone (is_finalizing c) cells h s.party ws k.chosen refl (fails_barred (is_finalizing c) refl refl (λ w. refl)) a _
      (admitted_finalizes (cell_at cells a.cell).kind (tolerance_at cells a.cell) a.cell (accepts h) (replay cells a.cell h) c a.want)) refl refl

  -- a turn is skipped
  pub skips_where_unready : (c : ℕ) → is_skipped c l.answer ≡ is_turn_step cells c false h s l.given k.moment
  skips_where_unready c =
      legal_alone (is_skipped c) (of_skipped c) (λ q. refl) cells h s l k (λ n. refl) refl _
      (λ a. admitted_alone (is_skipped c) cells h s.party ws k.chosen refl (fails_barred (is_skipped c) refl refl (λ w. refl)) a _
      (admitted_skips (cell_at cells a.cell).kind (tolerance_at cells a.cell) a.cell (accepts h) (replay cells a.cell h) c a.want)) refl refl

  -- a call is cyclic
  pub cyclic_where_own : is_cyclic l.answer ≡ is_cyclic_step cells h s
  cyclic_where_own =
      legal_alone is_cyclic of_cyclic.tries (λ q. refl) cells h s l k (λ n. refl) refl _
      (λ a. cyclic_alone is_cyclic cells h s.party ws k.chosen true refl (fails_barred is_cyclic refl refl (λ w. refl)) of_cyclic a ∙ sym (same_both _)) refl refl

  -- no answer that is due is a refusal
  pub due_is_answered : (m : Moment) (g : Given) (chosen : Bool) → is_refused (due_at cells m h s g chosen) ≡ false
  due_is_answered m g chosen =
      ap is_refused (due_at-judged cells m h s g chosen) ∙ due is_refused of_refused.tries cells (λ a. false) h (waits_judged cells m h s g) chosen s.party tried s.act ∙ none (attempt cells h s) _ _
    where
      told : (l : _) → is_refused (answer_of_look l) ≡ false
      told l = grind arith

      tried : (o : Option Attempt) → is_refused (due_tried cells h s.party o (waits_judged cells m h s g) chosen) ≡ is_attempted (λ a. false) o
      tried None = told (look_at (registry cells h).pending)
      tried (Some a) =
          cyclic_alone is_refused cells h s.party (waits_judged cells m h s g) chosen false refl (fails_barred is_refused refl refl (λ w. refl)) of_refused a ∙ no_more _

      none : (o : Option Attempt) (b d : Bool) → (is_attempted (λ a. false) o || ((b && false) || (d && false))) ≡ false
      none o b d = grind arith

  -- a line that is refused gives nothing
  pub refused_gives_nothing : (r : Refusal) → l.answer ≡ Answer.Refused r → l.given ≡ Given.Nobody
  refused_gives_nothing r is = by (refusal cells h s) k.answered k.gave
    where
      nobody : (g : Given) → is_nobody g ≡ true → g ≡ Given.Nobody
      nobody g d = grind arith

      by : (o : Option Refusal) → l.answer ≡ answer_of o (due_at cells k.moment h s l.given k.chosen) → may_give cells o k.moment h s l ≡ true → l.given ≡ Given.Nobody
      by (Some q) e d = nobody l.given d
      by None e d = absurd (apart (ap is_refused (sym is ∙ e) ∙ due_is_answered k.moment l.given k.chosen))

-- a call that keeps its share or its drain does not wait
pub kept_is_answered : (cells : List CellPlan) (h : List Event) (p : ℕ) (a : Attempt) (ws : List Wait) (chosen : Bool)
    → keeps_own cells h p a ≡ true → is_waiting (due_attempt cells h p a ws chosen) ≡ false
kept_is_answered cells h p a ws chosen keeps =
    barred_alone is_waiting cells h p ws chosen of_waiting refl a _ (barred_waits _ _ _)
    ∙ ap (λ b. (not (is_of_own_run cells h p a) && (not b && bars is_waiting cells h p ws chosen a)) && (not (is_fast a.want) && not (is_owned (cell_at cells a.cell).place))) keeps
    ∙ none_kept (is_of_own_run cells h p a) (bars is_waiting cells h p ws chosen a) _

-- ---- looks

module _ (t : Answer → Bool) (is : IsBeyond t) (missed : t Answer.Missed ≡ false) (borrowed : t Answer.Borrowed ≡ false) (waiting : (w : How) → t (Answer.Waiting w) ≡ false) (cyclic : t Answer.Cyclic ≡ false) (cells : List CellPlan) (h : List Event) (ws : List Wait) (chosen : Bool) (p : ℕ) where
  -- the answer of a look
  abbrev passes : Bool
  passes = t (answer_of_look (look_at (registry cells h).pending))

  -- the step of the party is not refused
  abbrev free : Act → Bool
  free a = is_none (refusal cells h (record { party = p; act = a }))

  -- no attempt is answered so
  each : (a : Attempt) → t (due_attempt cells h p a ws chosen) ≡ false
  each a = cyclic_alone t cells h p ws chosen false cyclic (fails_barred t missed borrowed waiting) is a ∙ no_more _

  -- an Exit with no cell left is, and no other step
  looked_so : (a : Act) → (free a && t (due_answer cells h (record { party = p; act = a }) ws chosen)) ≡ (free a && (is_exit a && (is_none (first_of (registry cells h).left) && passes)))
  looked_so (Act.Call c k) = ap (λ b. free (Act.Call c k) && b) (each (record { cell = c; want = Calls k }))
  looked_so Act.Again =
      elim (wait_of p (waits cells h)) as (λ o. (is_none (refusal_by cells (is_some o) h p Act.Again) && t (due_tried cells h p (attempt_of_wait o) ws chosen)) ≡ (is_none (refusal_by cells (is_some o) h p Act.Again) && false))
      [ None ↦ refl | Some w ↦ each (record { cell = w.cell; want = w.want }) ]
  looked_so a = grind (arith, each, made, finished, looked, made_to_lend, lent, cloned)

module _ (cells : List CellPlan) (h : List Event) (s : Step) (l : Line) (k : IsLegalLine cells h s l) where
  -- it is passed exactly where the step looks, and the look passes it
  looked_where : (t : Answer → Bool) → IsBeyond t → t Answer.Missed ≡ false → t Answer.Borrowed ≡ false → ((w : How) → t (Answer.Waiting w) ≡ false) → t Answer.Cyclic ≡ false
      → ((q : Refusal) → t (Answer.Refused q) ≡ false) → t l.answer ≡ (looks cells h s && t (answer_of_look (look_at (registry cells h).pending)))
  looked_where t is missed borrowed waiting cyclic refused =
      legal_by t refused cells h s l k ∙ looked_so t is missed borrowed waiting cyclic cells h (waits_judged cells k.moment h s l.given) k.chosen s.party s.act
      ∙ parts_of_look (is_none (refusal cells h s)) (is_exit s.act) _ _

  -- a look took so many cells
  pub rounds_where_registered : (n : ℕ) → is_round n l.answer ≡ is_round_step cells n h s
  rounds_where_registered n = looked_where (is_round n) (of_round n) refl refl (λ w. refl) refl (λ q. refl) ∙ ap (λ b. looks cells h s && b) (look_rounds n (registry cells h).pending)

  -- a look found none
  pub closes_where_none : is_closing l.answer ≡ is_closing_step cells h s
  closes_where_none = looked_where is_closing of_closing refl refl (λ w. refl) refl (λ q. refl) ∙ ap (λ b. looks cells h s && b) (look_closes (registry cells h).pending)

module _ (cells : List CellPlan) (h : List Event) (s : Step) (l : Line) (k : IsLegalLine cells h s l) where
  -- so it begins none
  pub only_initializing_run : (c : ℕ) (j : Call) → attempt cells h s ≡ Some (record { cell = c; want = Calls j }) → is_initializing j ≡ false → l.answer ≢ Answer.Running
  only_initializing_run c j e n r = apart (sym (ap is_running r) ∙ runs_where_asked cells h s l k ∙ none)
    where
      none : is_running_step cells h s l.given k.moment ≡ false
      none = rw e (none_asked (is_none (refusal cells h s)) _ (asks (cell_at cells c).kind (tolerance_at cells c) (Calls j) (phase_at cells c h)) _ (calls_not (cell_at cells c).kind (tolerance_at cells c) j (phase_at cells c h) n))
