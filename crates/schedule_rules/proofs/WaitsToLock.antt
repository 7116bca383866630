-- What waits: a call for a lock or a turn, which is not fast, at a cell of no party's own, whose kind has the call.
use Rattle.schedule_rules.proofs.Words.{ℕ, arith, List, ◌≡◌, Bool, true, refl, Some, false, ◌∙◌, sym, ap, None, subst, not, find, ◌==◌, is_none, is_some, Option, asking, has_call}
use Rattle.schedule_rules.proofs.Words.{lends_value, Call, Answer, Line, Refusal, CellPlan, Act, Step, Calls, Turns, cell_at, tolerance_at, is_owned, is_of_other, is_fast, seeks}
use Rattle.schedule_rules.proofs.Words.{lock_asked, Event, count, Wait, waits, wait_of, Attempt, attempt, attempt_of_wait, is_barred, is_in_use, refusal, refusal_by, no_lending}
use Rattle.schedule_rules.proofs.Words.{refusal_free, no_call, IsLegal, IsLegalLine, answer_of, due_at, lends_at, waits_judged, is_attempted, is_waiting, is_made_to_wait}
use Rattle.schedule_rules.proofs.Words.{phase_met, ChangesNothing}
use Rattle.phase_seq.specs.declared.ask.Want.{Want as Sought}
use Rattle.schedule_rules.proofs.Facts.{first, second, apart, same_number}
use Rattle.schedule_rules.proofs.Found.{found_passes, only_one, none_counted}
use Rattle.schedule_rules.proofs.Counts.{one-wait}
use Rattle.schedule_rules.proofs.GoesOn.{Of, waiting, waits_so}
use Rattle.schedule_rules.proofs.Causes.{waits_where_barred}

-- what waits is so, where whatever a step attempts is so that waits by it
each_waits : (cells : List CellPlan) (T : Attempt → Type 0)
    → ((h : List Event) (s : Step) (l : Line) → IsLegalLine cells h s l → is_waiting l.answer ≡ true → Of T (waiting cells h s.party) → Of T (attempt cells h s))
    → (h : List Event) (p : ℕ) → IsLegal cells h → Of T (waiting cells h p)
each_waits cells T f =
    waits_so cells (IsLegal cells) (λ e h l. l.2) (λ h p. T) (record {
      other = λ h e p a l is t. t;
      refused = λ h e p a r is t. t;
      now = λ h e way l is t. f h e.step e.line l.0 (ap is_waiting is) t;
    })

-- what a step that waits is, by its cause
abbrev Waits : List CellPlan → Attempt → Type 0
Waits cells a = (is_some (seeks (cell_at cells a.cell).kind a.want) ≡ true) × (is_fast a.want ≡ false) × (is_owned (cell_at cells a.cell).place ≡ false)

module _ (cells : List CellPlan) where
  barred : (h : List Event) (s : Step) (l : Line) → IsLegalLine cells h s l → is_waiting l.answer ≡ true → Of (Waits cells) (attempt cells h s)
  barred h s l k w = by (attempt cells h s) (second (is_none (refusal cells h s)) _ (sym (waits_where_barred cells h s l k) ∙ w))
    where
      not_so : (b : Bool) → not b ≡ true → b ≡ false
      not_so b e = grind arith

      sought : (a : Attempt) (o : Option Sought) (x : _) → is_barred (lock_asked (asking o (is_fast a.want) (tolerance_at cells a.cell)) (phase_met cells h s.party a)) x ≡ true → is_some o ≡ true
      sought a o x e = grind arith

      by : (o : Option Attempt) → is_attempted (is_made_to_wait cells h s.party (waits_judged cells k.moment h s l.given)) o ≡ true → Of (Waits cells) o
      by o f = grind (arith, second, sought, first, not_so)

  waits-so : (h : List Event) (p : ℕ) (w : Wait) → IsLegal cells h → wait_of p (waits cells h) ≡ Some w → Waits cells (record { cell = w.cell; want = w.want })
  waits-so h p w k f = subst (λ o. Of (Waits cells) (attempt_of_wait o)) f (each_waits cells (Waits cells) (λ h s l k w i. barred h s l k w) h p k)

  -- what waits asks for a lock
  pub waiting-asks : (h : List Event) (p : ℕ) (w : Wait) → IsLegal cells h → wait_of p (waits cells h) ≡ Some w → is_some (seeks (cell_at cells w.cell).kind w.want) ≡ true
  waiting-asks h p w k f = (waits-so h p w k f).0

  -- is not fast
  pub waiting-slow : (h : List Event) (p : ℕ) (w : Wait) → IsLegal cells h → wait_of p (waits cells h) ≡ Some w → is_fast w.want ≡ false
  waiting-slow h p w k f = (waits-so h p w k f).1

  -- and is at a cell of no party's own
  pub waiting-shared : (h : List Event) (p : ℕ) (w : Wait) → IsLegal cells h → wait_of p (waits cells h) ≡ Some w → is_owned (cell_at cells w.cell).place ≡ false
  waiting-shared h p w k f = (waits-so h p w k f).2

  -- ---- the kind of its cell has the call

  abbrev HasCall : Attempt → Type 0
  HasCall a = (k : Call) → a.want ≡ Calls k → has_call (cell_at cells a.cell).kind k ≡ true

  turns_not : (k : Call) → Turns ≡ Calls k → ⊥
  turns_not k e = cc

  -- so where a step is not refused
  allowed : (h : List Event) (s : Step) → refusal cells h s ≡ None → Of HasCall (waiting cells h s.party) → Of HasCall (attempt cells h s)
  allowed h s n x = grind (arith, Of, turns_not)

  -- what waits is a call that the kind of its cell has
  has-waiting : (h : List Event) (p : ℕ) → IsLegal cells h → Of HasCall (waiting cells h p)
  has-waiting h p k = each_waits cells HasCall (λ h s l m w IH. allowed h s (unrefused h s l m w) IH) h p k
    where
      unrefused : (h : List Event) (s : Step) (l : Line) → IsLegalLine cells h s l → is_waiting l.answer ≡ true → refusal cells h s ≡ None
      unrefused h s l m w = none (refusal cells h s) (first (is_none (refusal cells h s)) _ (sym (waits_where_barred cells h s l m) ∙ w))
        where
          none : (o : Option Refusal) → is_none o ≡ true → o ≡ None
          none o e = grind arith

  -- so is what a step attempts that is not refused
  pub attempted-has : (h : List Event) (s : Step) (c : ℕ) (k : Call) → IsLegal cells h → refusal cells h s ≡ None → attempt cells h s ≡ Some (record { cell = c; want = Calls k })
      → has_call (cell_at cells c).kind k ≡ true
  attempted-has h s c k legal n e = subst (Of HasCall) e (allowed h s n (has-waiting h s.party legal)) k refl

  -- ---- cells of a party's own

  -- nothing waits there
  pub owned-never-waits : (h : List Event) (c : ℕ) → IsLegal cells h → is_owned (cell_at cells c).place ≡ true → count (λ w. w.cell == c) (waits cells h) ≡ 0
  owned-never-waits h c legal o = by (find (λ w. w.cell == c) (waits cells h)) refl
    where
      by : (x : Option Wait) → find (λ w. w.cell == c) (waits cells h) ≡ x → count (λ w. w.cell == c) (waits cells h) ≡ 0
      by None f = none_counted (λ w. w.cell == c) (waits cells h) f
      by (Some w) f =
          let here : (w.cell == c) ≡ true = found_passes (λ v. v.cell == c) (waits cells h) w f in
          let at : w.cell ≡ c = grind arith in
          let own : wait_of w.party (waits cells h) ≡ Some w = only_one (λ v. v.cell == c) (λ v. v.party == w.party) (waits cells h) w f (same_number w.party w.party refl) (one-wait cells w.party h) in
          absurd (apart (sym o ∙ ap (λ z. is_owned (cell_at cells z).place) (sym at) ∙ waiting-shared h w.party w legal own))

  -- what is refused as another's of a party that does not wait, changes nothing
  refused_so : (h : List Event) (s : Step) (l : Line) → IsLegalLine cells h s l → refusal_free cells h s.party s.act ≡ Some Refusal.NotOwner
      → is_none (wait_of s.party (waits cells h)) ≡ true → (l.answer ≡ Answer.Refused Refusal.NotOwner) × ChangesNothing cells h (record { step = s; line = l })
  refused_so h s l m e n =
      (answered, subst (λ r. ChangesNothing cells h (record { step = s; line = record { answer = r; given = l.given } })) (sym answered) nothing)
    where
      none : (x : Option Wait) → is_none x ≡ true → refusal_by cells (is_some x) h s.party s.act ≡ Some Refusal.NotOwner
      none x f = grind arith

      refuses : refusal cells h s ≡ Some Refusal.NotOwner
      refuses = none (wait_of s.party (waits cells h)) n

      answered : l.answer ≡ Answer.Refused Refusal.NotOwner
      answered = m.answered ∙ ap (λ r. answer_of r (due_at cells m.moment h s l.given m.chosen)) refuses

      nothing : ChangesNothing cells h (record { step = s; line = record { answer = Answer.Refused Refusal.NotOwner; given = l.given } })
      nothing = record {
        sections_stay = refl;
        guards_stay = refl;
        waits_stay = refl;
        published_stays = λ z. refl;
        registry_stays = refl;
        closing_stays = refl;
        owner_stays = refl;
        turns_stay = refl;
      }

  -- so is a call on it by another party
  pub other-refused : (h : List Event) (s : Step) (l : Line) (c : ℕ) (k : Call) → IsLegalLine cells h s l → s.act ≡ Act.Call c k → is_of_other (cell_at cells c).place s.party ≡ true
      → is_none (wait_of s.party (waits cells h)) ≡ true → (l.answer ≡ Answer.Refused Refusal.NotOwner) × ChangesNothing cells h (record { step = s; line = l })
  other-refused h s l c k m e o n = refused_so h s l m (ap (refusal_free cells h s.party) e ∙ ap (λ b. no_call b (has_call (cell_at cells c).kind k)) o) n

  -- and an act of it that is to lend its value
  pub lending-refused : (h : List Event) (s : Step) (l : Line) (c : ℕ) → IsLegalLine cells h s l → lends_at c s.act ≡ true → is_of_other (cell_at cells c).place s.party ≡ true
      → is_none (wait_of s.party (waits cells h)) ≡ true → (l.answer ≡ Answer.Refused Refusal.NotOwner) × ChangesNothing cells h (record { step = s; line = l })
  lending-refused h s l c m e o n = refused_so h s l m (by s.act e) n
    where
      other : (z : ℕ) → (z == c) ≡ true → no_lending (no_call (is_of_other (cell_at cells z).place s.party) (lends_value (cell_at cells z).kind)) (is_in_use cells z h) ≡ Some Refusal.NotOwner
      other z f = grind arith

      by : (a : Act) → lends_at c a ≡ true → refusal_free cells h s.party a ≡ Some Refusal.NotOwner
      by a f = grind (arith, other)
