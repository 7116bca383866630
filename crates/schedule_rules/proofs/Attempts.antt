-- What an attempt at a cell is answered, case by case.
use Rattle.schedule_rules.proofs.Words.{ℕ, arith, List, ◌≡◌, Bool, true, refl, Some, false, ◌∷◌, [], ◌∙◌, sym, ap, None, subst, inl, ◌<◌, ◌&&◌, inr, not, if◌then◌else◌, is_some}
use Rattle.schedule_rules.proofs.Words.{Option, has, initialized, phase_of, first_of, look_at, LockNature, How, shall_init, flags_refused, Tolerance, asking, Call, Kind, Form}
use Rattle.schedule_rules.proofs.Words.{Held, Shown, Told, Answer, CellPlan, Act, Want, Calls, Turns, cell_at, tolerance_at, form_of, is_accessible, runs_generator, asks, is_fast}
use Rattle.schedule_rules.proofs.Words.{lock_wanted, initializes, Content, Event, accepts, latest_act, runs, replay, phase_at, registry, Wait, waits, wait_of, attempt_of_wait}
use Rattle.schedule_rules.proofs.Words.{attempt_of_turn, act_for, write_holds, read_guards, is_barred, holding_with, keeps, readers, refusal, refusal_by, refusal_waiting}
use Rattle.schedule_rules.proofs.Words.{refusal_free, answer_barred, answer_at, answer_admitted, call_answer_admitted, turn_answer_admitted, answer_denied, answer_opened}
use Rattle.schedule_rules.proofs.Words.{due_attempt, answer_of_look, due_tried, IsExclusive}
use Rattle.schedule_rules.proofs.Found.{found_counts}
use Rattle.schedule_rules.proofs.GoesOn.{Matches, wait-matches}
use Rattle.schedule_rules.proofs.Answered.{barred}
use Rattle.schedule_rules.proofs.Cases.{step, Tries, Case, Calling, Turning, Asking, Resting, Reach, Visiting, form_at, errs, writes}

-- nothing is written where something drains
no_writers : (w d : ℕ) → (0 < w → d ≡ 0) → 0 < d → w ≡ 0
no_writers w d alone e = grind arith

-- where there is no first, there is none
none_first : (cs : List ℕ) → first_of cs ≡ None → cs ≡ []
none_first cs e = grind arith

-- an attempt, by whether it is cyclic or barred
in_turn : (Q : Answer → Type 0) (own barred : Bool) (w r : Answer) → Q Answer.Cyclic → Q w → (barred ≡ false → Q r)
    → Q (if own then Answer.Cyclic else if barred then w else r)
in_turn Q own barred w r x y z = grind arith

-- the same of one that is never cyclic
waits_or : (Q : Answer → Type 0) (barred : Bool) (w r : Answer) → Q w → (barred ≡ false → Q r) → Q (if barred then w else r)
waits_or Q true w r y z = y
waits_or Q false w r y z = z refl

-- where a run is asked, the lock to write is wanted
pub asks_writes : (q : Kind) (t : Tolerance) (k : Call) (p : ℕ) → asks q t (Calls k) p ≡ true → lock_wanted q t (Calls k) p ≡ LockNature.Write
asks_writes q t k p e = grind arith

-- and a run is due
pub asks_due : (q : Kind) (t : Tolerance) (k : Call) (p : ℕ) → asks q t (Calls k) p ≡ true → shall_init t (phase_of p) ≡ true
asks_due q t k p e = grind arith

-- and where none is asked by a call for runs, none is
pub asks_none : (q : Kind) (t : Tolerance) (k : Call) (p : ℕ) → asks q t (Calls k) p ≡ false → initializes q (Calls k) ≡ true → shall_init t (phase_of p) ≡ false
asks_none q t k p e i = grind arith

-- a call that is admitted: it runs the generator, is declined, or is answered by what the cell holds
pub call_admitted : (Q : Answer → Type 0) (q : Kind) (t : Tolerance) (o : Bool) (k : Call) (y : Content)
    → (asks q t (Calls k) y.phase ≡ true → runs_generator q t o y.phase ≡ true → Q Answer.Running)
    → (asks q t (Calls k) y.phase ≡ true → runs_generator q t o y.phase ≡ false → Q (answer_denied (form_of q k) flags_refused))
    → (asks q t (Calls k) y.phase ≡ false → is_accessible q y.phase ≡ true → Q (answer_opened (form_of q k) y))
    → (asks q t (Calls k) y.phase ≡ false → is_accessible q y.phase ≡ false → Q (answer_denied (form_of q k) y.phase))
    → Q (call_answer_admitted q t o k y)
call_admitted Q q t o k y running declined opened denied = by (asks q t (Calls k) y.phase) (runs_generator q t o y.phase) refl refl
  where
    content : Bool → Bool → Content
    content b g = if b && not g then record { phase = flags_refused; value = y.value } else y

    rested : asks q t (Calls k) y.phase ≡ false → (b : Bool) → is_accessible q y.phase ≡ b → Q (answer_at (form_of q k) b y)
    rested e b f = grind arith

    by : (b g : Bool) → asks q t (Calls k) y.phase ≡ b → runs_generator q t o y.phase ≡ g
        → Q (if b && g then Answer.Running else answer_at (form_of q k) (is_accessible q (content b g).phase) (content b g))
    by b g e f = grind (arith, rested)

module _ (cells : List CellPlan) (h : List Event) (p : ℕ) where
  -- what gets the lock to write finds no hold to write
  module _ (c : ℕ) (alone : IsExclusive cells h c) where
    unbarred : (ws : List Wait) → is_barred LockNature.Write (holding_with c h ws) ≡ false → write_holds c h ≡ 0
    unbarred ws e = grind arith

    unheld : (n : ℕ) (ws : List Wait) → ((w : Wait) → wait_of p (waits cells h) ≡ Some w → w.cell ≡ c)
        → (not (keeps (wait_of p (waits cells h)) LockNature.Write n) && is_barred LockNature.Write (holding_with c h ws)) ≡ false → write_holds c h ≡ 0
    unheld n ws mine e = grind (arith, unbarred, found_counts, no_writers)

    -- nor a guard to read
    unbarred_read : (ws : List Wait) → is_barred LockNature.Write (holding_with c h ws) ≡ false → read_guards c h ≡ 0
    unbarred_read ws e = grind arith

    unread : (ws : List Wait) → ((w : Wait) → wait_of p (waits cells h) ≡ Some w → w.cell ≡ c)
        → (not (keeps (wait_of p (waits cells h)) LockNature.Write (readers cells c h)) && is_barred LockNature.Write (holding_with c h ws)) ≡ false → read_guards c h ≡ 0
    unread ws mine e = grind (arith, unbarred_read, found_counts)

  -- whatever of the party waits, waits for the cell
  abbrev pub IsMine : ℕ → Type 0
  IsMine c = (w : Wait) → wait_of p (waits cells h) ≡ Some w → w.cell ≡ c

  -- this rule does not bar the party at the cell, where these calls of others wait
  abbrev pub IsFree : ℕ → List Wait → LockNature → Type 0
  IsFree c ws n = (not (keeps (wait_of p (waits cells h)) n (readers cells c h)) && is_barred n (holding_with c h ws)) ≡ false

  -- a party whose act is not refused, and is no Again, does not wait
  pub rests : (a : Act) → (refusal_waiting a ≡ None → ⊥) → refusal cells h (step cells h p a) ≡ None
      → (wait_of p (waits cells h) ≡ None) × (refusal_free cells h p a ≡ None)
  rests a waits_for f = grind arith

  pub mine_where_none : (c : ℕ) → wait_of p (waits cells h) ≡ None → IsMine c
  mine_where_none c e w f = absurd (cc)

  -- a call that runs nothing, where the value may be accessed
  opened_case : (a : Act) (c : ℕ) (j : Call) → Calling cells h p a c j → Resting cells h p c j → Reach cells h p c true → (f : Form) → form_at cells h p c j ≡ f
      → Case cells h p a (answer_opened f (replay cells c h))
  opened_case a c j t r e (Told tests) f = Case.told a c j _ t (inr (r, tt))
  opened_case a c j t r e Shown f = Case.shown a c j t r e
  opened_case a c j t r e (Held true falls_back) f = Case.writing a c j t r e (ap writes f)
  opened_case a c j t r e (Held false falls_back) f = Case.reading a c j t r e

  -- and where it may not
  denied_case : (a : Act) (c : ℕ) (j : Call) (q : ℕ) → Calling cells h p a c j → Visiting cells h p c j (phase_of q) (Reach cells h p c false × (phase_of q ≡ phase_of (phase_at cells c h)))
      → Visiting cells h p c j (phase_of q) (Unit {0}) → (f : Form) → form_at cells h p c j ≡ f → Case cells h p a (answer_denied f q)
  denied_case a c j q t v u (Told false) e = Case.told a c j _ t u
  denied_case a c j q t v u (Held w true) e = Case.erring a c j _ t u (ap errs e)
  denied_case a c j q t v u (Told true) e = Case.denied a c j _ t v
  denied_case a c j q t v u Shown e = Case.denied a c j _ t v
  denied_case a c j q t v u (Held w false) e = Case.denied a c j _ t v

  called : (a : Act) (c : ℕ) (j : Call) (ws : List Wait) → Calling cells h p a c j → IsMine c → IsFree c ws (lock_wanted (cell_at cells c).kind (tolerance_at cells c) (Calls j) (phase_at cells c h))
      → Case cells h p a (answer_admitted (cell_at cells c).kind (tolerance_at cells c) c (accepts h) (Calls j) (replay cells c h))
  called a c j ws t mine free =
      call_admitted (Case cells h p a) q u (accepts h) j (replay cells c h)
      (λ e g. Case.running a c j t (asking true e g)) (λ e g. denied_case a c j flags_refused t (inl (asking false e g, refl)) (inl (asking false e g, refl)) (form_at cells h p c j) refl)
      (λ e f. opened_case a c j t (resting e) f (form_at cells h p c j) refl)
      (λ e f. denied_case a c j (phase_at cells c h) t (inr (resting e, (f, refl))) (inr (resting e, tt)) (form_at cells h p c j) refl)
    where
      q : Kind
      q = (cell_at cells c).kind

      u : Tolerance
      u = tolerance_at cells c

      asking : (b : Bool) → asks q u (Calls j) (phase_at cells c h) ≡ true → runs_generator q u (accepts h) (phase_at cells c h) ≡ b → Asking cells h p c j b
      asking b e g = grind (arith, asks_writes, q, u, asks_due, unheld, unread)

      resting : asks q u (Calls j) (phase_at cells c h) ≡ false → Resting cells h p c j
      resting e = record { unasked = e; unwanted = asks_none q u j (phase_at cells c h) e }

  turned : (a : Act) (c : ℕ) (ws : List Wait) → Turning cells h p a c → IsMine c → IsFree c ws (lock_wanted (cell_at cells c).kind (tolerance_at cells c) Turns (phase_at cells c h))
      → Case cells h p a (answer_admitted (cell_at cells c).kind (tolerance_at cells c) c (accepts h) Turns (replay cells c h))
  turned a c ws t mine free = by (has (phase_at cells c h) initialized) refl free
    where
      by : (b : Bool) → has (phase_at cells c h) initialized ≡ b → IsFree c ws (if b then LockNature.Write else LockNature.None)
          → Case cells h p a (turn_answer_admitted (if b then LockNature.Write else LockNature.None) c)
      by true e f = Case.finalizing a c t e (λ alone. unheld c alone (readers cells c h) ws mine f)
      by false e f = Case.skipped a c t e

  -- what is barred
  barring : (a : Act) (c : ℕ) (w : Want) (way : How) → Tries cells h p a c w → Case cells h p a (answer_barred (is_fast w) (cell_at cells c).place way)
  barring a c w way t = barred (Case cells h p a) (is_fast w) (cell_at cells c).place way (λ e. Case.missed a c w e t) (λ v. Case.waiting a c w v t) (λ o. Case.owned a c w o t)

  pub attempted : (a : Act) (c : ℕ) (w : Want) (ws : List Wait) (chosen : Bool) → Tries cells h p a c w → IsMine c
      → Case cells h p a (due_attempt cells h p (record { cell = c; want = w }) ws chosen)
  attempted a c (Calls j) ws chosen t mine =
      in_turn (Case cells h p a) (initializes (cell_at cells c).kind (Calls j) && runs p c h) _ _ _ (Case.cyclic a c j t) (barring a c (Calls j) _ t)
      (λ free. called a c j ws t mine free)
  attempted a c Turns ws chosen t mine =
      waits_or (Case cells h p a) _ _ _ (barring a c Turns _ t) (λ free. turned a c ws t mine free)

  -- the call or turn that waits
  pub again : (o : Option Wait) → wait_of p (waits cells h) ≡ o → refusal_by cells (is_some o) h p Act.Again ≡ None → (ws : List Wait) (chosen : Bool)
      → Case cells h p Act.Again (due_tried cells h p (attempt_of_wait o) ws chosen)
  again None e f ws chosen = absurd (cc)
  again (Some w) e f ws chosen = attempted Act.Again w.cell w.want ws chosen (tries w.want refl) mine
    where
      does : latest_act p h ≡ act_for w.cell w.want
      does = subst (λ o. Matches (attempt_of_wait o) (latest_act p h)) e (wait-matches cells p h)

      mine : IsMine w.cell
      mine v g = let same : Some v ≡ Some w = sym g ∙ e in cc

      tries : (u : Want) → w.want ≡ u → Tries cells h p Act.Again w.cell u
      tries u d = grind (arith, does)

  -- a step of the exit
  pub exits : (o : Option ℕ) → first_of (registry cells h).left ≡ o → wait_of p (waits cells h) ≡ None → (ws : List Wait) (chosen : Bool)
      → Case cells h p Act.Exit (due_tried cells h p (attempt_of_turn o) ws chosen)
  exits None e f ws chosen =
      (elim ((registry cells h).pending) as (λ cs. (registry cells h).pending ≡ cs → Case cells h p Act.Exit (answer_of_look (look_at cs)))
      [ [] ↦ λ g. Case.closed g (none_first (registry cells h).left e) | c ∷ cs ↦ λ g. Case.round c cs g (none_first (registry cells h).left e) ]) refl
  exits (Some c) e f ws chosen = attempted Act.Exit c Turns ws chosen (record { tried = ap attempt_of_turn e; does = refl; acts = tt }) (mine_where_none c f)
