-- A legal line shows that its step tried to register a cell exactly where it did.
use Rattle.schedule_rules.proofs.Words.{ℕ, arith, List, ◌≡◌, Bool, true, refl, Some, false, ◌∷◌, [], ◌∙◌, sym, ap, None, subst, ◌⊎◌, inl, ◌&&◌, not, ◌+◌, ◌≤◌, ◌||◌, ◌==◌}
use Rattle.schedule_rules.proofs.Words.{if◌then◌else◌, is_none, Option, phase_of, Phase, first_of, is_known, How, flags_refused, Call, Answer, Line, Refusal, CellPlan, Place, Act}
use Rattle.schedule_rules.proofs.Words.{Step, Calls, Turns, deed_waiting, deed_by, Event, accepts, is_exit, replay, registry, Wait, waits, Attempt, attempt, attempt_with}
use Rattle.schedule_rules.proofs.Words.{attempt_of_turn, refusal, answer_of_value, answer_barred, due_answer, due_attempt, IsLegal, IsLegalLine, answer_of, waits_judged}
use Rattle.schedule_rules.proofs.Words.{is_attempted, is_admitted, asks_registration, registrations, tries_to_register, tells_declined}
use Rattle.schedule_rules.proofs.Cases.{Visiting, step, Calling, Resting, Case}
use Rattle.schedule_rules.proofs.Registrations.{asks_so, deed_registers, shows_registration, registrations_shown, tries-unknown, registered-once, known-by-trying}
use Rattle.schedule_rules.proofs.Answered.{due_at-judged, denied}
use Rattle.schedule_rules.proofs.Steps.{of_legal}
use Rattle.schedule_rules.proofs.Facts.{apart}
use Rattle.schedule_rules.proofs.Tests.{IsBeyond}
use Rattle.schedule_rules.proofs.Causes.{unless_admitted}

-- a step that is answered so was refused, or turned back or put off
abbrev is_back : Answer → Bool
is_back Answer.Cyclic = true
is_back Answer.Borrowed = true
is_back Answer.Missed = true
is_back (Answer.Waiting way) = true
is_back (Answer.Refused q) = true
is_back _ = false

barred_back : (fast : Bool) (x : Place) (w : How) → is_back (answer_barred fast x w) ≡ true
barred_back fast x w = grind arith

beyond_back : IsBeyond is_back
beyond_back = grind arith

no_more : (b : Bool) → false ≡ (b && false)
no_more b = grind arith

module _ (cells : List CellPlan) (c : ℕ) where
  module _ (h : List Event) (p : ℕ) where
    -- what is known of the deed of a step that is answered so, where this is asked
    record Shows (r : Answer) (registers asks : Bool) : Type 0 where
      pub same : registers ≡ (not (is_back r) && asks)
      pub answers : registers ≡ true → (r ≡ Answer.Running) ⊎ (tells_declined r ≡ true)

    -- that of a step of the party
    abbrev Tried : Act → Answer → Type 0
    Tried a r = Shows r (shows_registration cells c h (step cells h p a) r) (asks_so cells c h (attempt cells h (step cells h p a)))

    -- and of a call
    abbrev asks_of : ℕ → Call → Bool
    asks_of d j = asks_so cells c h (Some (record { cell = d; want = Calls j }))

    abbrev Called : Act → ℕ → Call → Answer → Type 0
    Called a d j r = Shows r (deed_registers cells c h (deed_by (accepts h) (is_exit a) (Act.Call d j) r)) (asks_of d j)

    called : (a : Act) (d : ℕ) (j : Call) (r : Answer) → Calling cells h p a d j → Called a d j r → Tried a r
    called a d j r t k = grind (arith, shows_registration, step, asks_so, deed_registers)

    -- one that runs nothing, and says so where it is declined
    visited : (a : Act) (d : ℕ) (j : Call) (q : Phase) (T : Type 0) (r : Answer) → Calling cells h p a d j → Visiting cells h p d j q T → is_back r ≡ false
        → deed_registers cells c h (deed_by (accepts h) (is_exit a) (Act.Call d j) r) ≡ asks_of d j → (q ≡ phase_of flags_refused → tells_declined r ≡ true) → Tried a r
    visited a d j q T r t v on is tells = grind (arith, called, Visiting)

    -- one that gets what the cell holds
    shows_what_is : (a : Act) (d : ℕ) (j : Call) (r : Answer) → Calling cells h p a d j → Resting cells h p d j → deed_registers cells c h (deed_by (accepts h) (is_exit a) (Act.Call d j) r) ≡ false → Tried a r
    shows_what_is a d j r t q is = grind (arith, called, no_more)

    waited : (b : Bool) → deed_registers cells c h (deed_waiting b) ≡ false
    waited b = grind arith

    -- that of the turn of a cell
    turned : (o : Option Attempt) (d : ℕ) → o ≡ Some (record { cell = d; want = Turns }) → false ≡ asks_so cells c h o
    turned o d e = no_more (d == c) ∙ ap (asks_so cells c h) (sym e)

    -- and of a look
    looked : (cs : List ℕ) → cs ≡ [] → false ≡ asks_so cells c h (attempt_of_turn (first_of cs))
    looked cs e = ap (λ x. asks_so cells c h (attempt_of_turn (first_of x))) (sym e)

    each : (a : Act) (r : Answer) → Case cells h p a r → Tried a r
    each _ _ (Case.waiting a d w way t) = record { same = waited (is_exit a); answers = λ e. absurd (apart (sym e ∙ waited (is_exit a))) }
    each _ _ (Case.told a d j q t v) = visited a d j q _ (Answer.Phase q) t v refl refl (λ e. ap (λ z. tells_declined (Answer.Phase z)) e)
    each _ _ (Case.denied a d j q t v) = visited a d j q _ (Answer.Access q) t v refl refl (λ e. ap (λ z. tells_declined (Answer.Access z)) e)
    each _ _ (Case.erring a d j q t v e) = visited a d j q _ Answer.ErrGuard t v refl refl (λ e. refl)
    each _ _ (Case.shown a d j t q e) = shows_what_is a d j (answer_of_value (replay cells d h)) t q refl
    each _ _ (Case.reading a d j t q e) = shows_what_is a d j Answer.ReadGuard t q refl
    each _ _ (Case.writing a d j t q e w) = shows_what_is a d j Answer.WriteGuard t q refl
    each _ _ (Case.running a d j t q) = called a d j Answer.Running t (record { same = refl; answers = λ e. inl refl })
    each _ _ (Case.skipped a d t q) = record { same = turned _ d t.tried; answers = λ e. absurd (cc) }
    each _ _ (Case.finalizing a d t q u) = record { same = turned _ d t.tried; answers = λ e. absurd (cc) }
    each _ _ (Case.round d ds e n) = record { same = looked _ n; answers = λ f. absurd (cc) }
    each _ _ (Case.closed e n) = record { same = looked _ n; answers = λ f. absurd (cc) }
    each _ _ (Case.finished true left t g) = record { same = refl; answers = λ e. absurd (cc) }
    each _ _ (Case.finished false left t g) = record { same = refl; answers = λ e. absurd (cc) }
    each _ _ _ = record { same = refl; answers = λ e. absurd (cc) }

  module _ (h : List Event) (s : Step) (l : Line) (k : IsLegalLine cells h s l) where
    abbrev ws : List Wait
    ws = waits_judged cells k.moment h s l.given

    shows : Shows h s.party l.answer (shows_registration cells c h s l.answer) (asks_so cells c h (attempt cells h s))
    shows = of_legal cells h s l k (Tried h s.party) (λ a r. record { same = refl; answers = λ e. absurd (cc) }) (λ a r k n. each h s.party a r k)

    -- what is due for a step that attempts this
    due_of : (a : Act) (x : Attempt) → attempt_with cells (waits cells h) h s.party a ≡ Some x → due_answer cells h (record { party = s.party; act = a }) ws k.chosen ≡ due_attempt cells h s.party x ws k.chosen
    due_of a x e = grind arith

    -- it is not put off exactly where it is admitted
    not_back : (not (is_back l.answer) && asks_so cells c h (attempt cells h s)) ≡ tries_to_register cells c h s l.given k.moment
    not_back = by (refusal cells h s) (attempt cells h s) refl (k.answered ∙ ap (answer_of (refusal cells h s)) (due_at-judged cells k.moment h s l.given k.chosen))
      where
        twice : (b : Bool) → not (not b) ≡ b
        twice b = grind arith

        by : (r : Option Refusal) (o : Option Attempt) → attempt cells h s ≡ o → l.answer ≡ answer_of r (due_answer cells h s ws k.chosen)
            → (not (is_back l.answer) && asks_so cells c h o) ≡ (is_none r && is_attempted (λ a. is_admitted cells h s.party ws a && asks_registration cells c h a) o)
        by None (Some a) e f =
            ap (λ r. not (is_back r) && asks_registration cells c h a) (f ∙ due_of s.act a e)
            ∙ ap (λ b. not b && asks_registration cells c h a) (unless_admitted is_back cells h s.party ws k.chosen refl barred_back beyond_back a)
            ∙ ap (λ b. b && asks_registration cells c h a) (twice (is_admitted cells h s.party ws a))
        by r o x y = grind (arith, asks_so, no_more)

    -- a legal line shows it exactly where the step tries
    pub shown_where_tried : shows_registration cells c h s l.answer ≡ tries_to_register cells c h s l.given k.moment
    shown_where_tried = shows.same ∙ not_back

    -- a step that tries begins a run or is declined
    pub tried-runs-or-declines : tries_to_register cells c h s l.given k.moment ≡ true → (l.answer ≡ Answer.Running) ⊎ (tells_declined l.answer ≡ true)
    tried-runs-or-declines e = shows.answers (shown_where_tried ∙ e)

  -- where the registry does not know the cell
  pub tried-unknown : (h : List Event) (s : Step) (l : Line) → IsLegal cells h → (k : IsLegalLine cells h s l) → tries_to_register cells c h s l.given k.moment ≡ true
      → is_known (registry cells h) c ≡ false
  tried-unknown h s l legal k e = tries-unknown cells c h s l legal k (shown_where_tried h s l k ∙ e)

  same_count : (h : List Event) (k : IsLegal cells h) → registrations cells c h k ≡ registrations_shown cells c h
  same_count [] k = refl
  same_count (e ∷ h) k =
      ap (λ (b : Bool). if b then registrations cells c h k.2 + 1 else registrations cells c h k.2) (sym (shown_where_tried h e.step e.line k.0))
      ∙ ap (λ n. if shows_registration cells c h e.step e.line.answer then n + 1 else n) (same_count h k.2)

  -- at most once
  pub tried-once : (h : List Event) (k : IsLegal cells h) → registrations cells c h k ≤ 1
  tried-once h k = subst (λ n. n ≤ 1) (sym (same_count h k)) (registered-once cells c h k)

  -- and the registry knows the cell afterwards where cells may be registered
  pub tried-known : (h : List Event) (e : Event) (k : IsLegal cells (e ∷ h))
      → is_known (registry cells (e ∷ h)) c ≡ (is_known (registry cells h) c || (tries_to_register cells c h e.step e.line.given k.0.moment && accepts h))
  tried-known h e k =
      known-by-trying cells h e c k ∙ ap (λ b. is_known (registry cells h) c || (b && accepts h)) (shown_where_tried h e.step e.line k.0)
