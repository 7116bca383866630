-- A waiting call goes on with what its party did last: its wait says the same call as the party's latest act.
use Rattle.schedule_rules.proofs.Words.{ℕ, arith, List, ◌≡◌, Bool, true, refl, Some, false, ◌∷◌, [], ◌∙◌, None, ◌==◌, if◌then◌else◌, map, Option, Given, How, Answer, Refusal}
use Rattle.schedule_rules.proofs.Words.{CellPlan, Act, Step, Event, latest_act, latest_act_after, newer_act, Wait, waits, wait_of, Attempt, attempt, attempt_of_wait, without_wait}
use Rattle.schedule_rules.proofs.Words.{attempt_with, waits_given_with, with_wait, waits_answered, act_for, wait_woken}
use Rattle.schedule_rules.proofs.Facts.{numbers_apart, number_found}
use Rattle.schedule_rules.proofs.Opened.{wait_removed, wait_kept}

module _ (f : Wait → Wait) (same_party : (w : Wait) → (f w).party ≡ w.party) (same_attempt : (w : Wait) → attempt_of_wait (Some (f w)) ≡ attempt_of_wait (Some w)) where
  -- what keeps party, cell and want of each wait keeps what is attempted
  attempt_mapped : (p : ℕ) (ws : List Wait) → attempt_of_wait (wait_of p (map f ws)) ≡ attempt_of_wait (wait_of p ws)
  attempt_mapped p [] = refl
  attempt_mapped p (w ∷ ws) = grind (arith, attempt_mapped p ws, same_party w, same_attempt w)

woken_party : (b : Bool) (w : Wait) → (if b then wait_woken w else w).party ≡ w.party
woken_party b w = grind arith

woken_attempt : (b : Bool) (w : Wait) → attempt_of_wait (Some (if b then wait_woken w else w)) ≡ attempt_of_wait (Some w)
woken_attempt b w = grind arith

-- what is attempted again is the act
abbrev pub Matches : Option Attempt → Act → Type 0
Matches None a = Unit {0}
Matches (Some t) a = a ≡ act_for t.cell t.want

-- what is attempted is so
abbrev pub Of : (Attempt → Type 0) → Option Attempt → Type 0
Of T None = Unit {0}
Of T (Some a) = T a

pub each_of : (T U : Attempt → Type 0) → ((a : Attempt) → T a → U a) → (o : Option Attempt) → Of T o → Of U o
each_of T U f o t = grind arith

module _ (cells : List CellPlan) where
  -- a gift changes no attempt
  pub attempt_given : (all : List Wait) (h : List Event) (s : Step) (g : Given) (p : ℕ) (ws : List Wait) → attempt_of_wait (wait_of p (waits_given_with cells all h s g ws)) ≡ attempt_of_wait (wait_of p ws)
  attempt_given all h s g p ws = grind (arith, attempt_mapped, woken_party, woken_attempt)

  -- what waits for the party
  abbrev pub waiting : List Event → ℕ → Option Attempt
  waiting h p = attempt_of_wait (wait_of p (waits cells h))

  -- what is said of whatever waits, at each history of which this holds
  module _ (L : List Event → Type 0) (earlier : (e : Event) (h : List Event) → L (e ∷ h) → L h) (T : List Event → ℕ → Attempt → Type 0) where
    -- steps of others and refused steps keep it, and it is so of what a step attempts that waits by it
    pub record Goes : Type 0 where
      pub other : (h : List Event) (e : Event) (p : ℕ) (a : Attempt) → L (e ∷ h) → (e.step.party == p) ≡ false → T h p a → T (e ∷ h) p a
      pub refused : (h : List Event) (e : Event) (p : ℕ) (a : Attempt) (r : Refusal) → e.line.answer ≡ Answer.Refused r → T h p a → T (e ∷ h) p a
      pub now : (h : List Event) (e : Event) (way : How) → L (e ∷ h) → e.line.answer ≡ Answer.Waiting way → Of (T h e.step.party) (waiting h e.step.party) → Of (T (e ∷ h) e.step.party) (attempt cells h e.step)

    module _ (k : Goes) where
      module _ (h : List Event) (e : Event) (p : ℕ) (l : L (e ∷ h)) (IH : (q : ℕ) → Of (T h q) (waiting h q)) where
        -- the calls of others, after what the step gave
        abbrev others : List Wait
        others = waits_given_with cells (waits cells h) h e.step e.line.given (without_wait e.step.party (waits cells h))

        left_over : (b : Bool) → (e.step.party == p) ≡ b → Of (T (e ∷ h) p) (attempt_of_wait (wait_of p others))
        left_over b is = grind (arith, attempt_given, number_found, wait_removed, wait_kept, numbers_apart, each_of)

        again : (way : How) (b : Bool) → (e.step.party == p) ≡ b → (o : Option Attempt) → (b ≡ true → Of (T (e ∷ h) p) o) → Of (T (e ∷ h) p) (attempt_of_wait (wait_of p (with_wait e.step.party way o others)))
        again way b o x f = grind (arith, left_over)

        after : (r : Answer) → e.line.answer ≡ r → Of (T (e ∷ h) p) (attempt_of_wait (wait_of p (waits_answered cells h e.step e.line.given r (waits cells h))))
        after r is = grind (arith, each_of, again, number_found, left_over)

      -- so it is said of all that waits
      pub waits_so : (h : List Event) (p : ℕ) → L h → Of (T h p) (waiting h p)
      waits_so [] p l = tt
      waits_so (e ∷ h) p l = after h e p l (λ q. waits_so h q (earlier e h l)) e.line.answer refl

  matches_now : (ws : List Wait) (h : List Event) (s : Step) (older : Act) → Matches (attempt_of_wait (wait_of s.party ws)) older → Matches (attempt_with cells ws h s.party s.act) (newer_act true s.act older)
  matches_now ws h s older x = grind arith

  -- a party's wait and its latest act say the same call
  abbrev Says : List Event → ℕ → Attempt → Type 0
  Says h p a = latest_act p h ≡ act_for a.cell a.want

  matches_of : (h : List Event) (p : ℕ) (o : Option Attempt) → Of (Says h p) o → Matches o (latest_act p h)
  matches_of h p o t = grind arith

  of_matches : (h : List Event) (p : ℕ) (o : Option Attempt) → Matches o (latest_act p h) → Of (Says h p) o
  of_matches h p o t = grind arith

  latest_other : (r : Answer) (a older : Act) → latest_act_after r false a older ≡ older
  latest_other r a older = grind arith

  pub wait-matches : (p : ℕ) (h : List Event) → Matches (attempt_of_wait (wait_of p (waits cells h))) (latest_act p h)
  wait-matches p h = matches_of h p (waiting h p) (waits_so (λ h. Unit {0}) (λ e h l. tt) Says (record { other = other; refused = refused; now = now }) h p tt)
    where
      other : (h : List Event) (e : Event) (p : ℕ) (a : Attempt) → Unit {0} → (e.step.party == p) ≡ false → Says h p a → Says (e ∷ h) p a
      other h e p a l is t = rw is (latest_other e.line.answer e.step.act (latest_act p h) ∙ t)

      refused : (h : List Event) (e : Event) (p : ℕ) (a : Attempt) (r : Refusal) → e.line.answer ≡ Answer.Refused r → Says h p a → Says (e ∷ h) p a
      refused h e p a r is t = rw is t

      now : (h : List Event) (e : Event) (way : How) → Unit {0} → e.line.answer ≡ Answer.Waiting way → Of (Says h e.step.party) (waiting h e.step.party) → Of (Says (e ∷ h) e.step.party) (attempt cells h e.step)
      now h e way l is t = grind (arith, of_matches, matches_now, matches_of)
