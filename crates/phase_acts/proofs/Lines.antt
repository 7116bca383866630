-- Lines that are legal.
use Rattle.phase_acts.proofs.Words.{◌&&◌, ◌==◌, ◌||◌, ◌∙◌, ◌∷◌, ◌≡◌, Act, Answer, answer_of, ap, arith, cell_at, cell_concerned, CellPlan, downgrades, due_answer, Event, event, false}
use Rattle.phase_acts.proofs.Words.{Given, is_freed_last, is_parking, is_readers, is_some, IsGift, IsLegalLine, IsTrue, Last, List, may_give, may_give_last, may_give_on, MayGive}
use Rattle.phase_acts.proofs.Words.{MayGiveDown, None, none_without, Option, or_right, other_waits, reaches, refl, Refusal, refusal, refusal_by, refusal_free, Some, standing, Step}
use Rattle.phase_acts.proofs.Words.{step_of, subst, sym, true, wait_of, waits, ℕ}
use Rattle.phase_locker.specs.declared.ways.Given.TheVariants as given
use Rattle.schedule_rules.specs.declared.line.Answer.TheVariants as answer

module _ (cells : List CellPlan) (h : List Event) (s : Step) where
  legal_as : (a : Answer) (d : Given) (o : Option Refusal) → refusal cells h s ≡ o → answer_of o (due_answer cells h s (other_waits cells h s) false) ≡ a → IsTrue (may_give cells o Last h s (record { answer = a; given = d })) → IsLegalLine cells h s (record { answer = a; given = d })
  legal_as a d o is due gave = record { moment = Last; chosen = false; answered = sym (ap (λ o. answer_of o (due_answer cells h s (other_waits cells h s) false)) is ∙ due); gave = subst (λ o. IsTrue (may_give cells o Last h s (record { answer = a; given = d }))) (sym is) gave }

  -- a step that is to be refused
  pub legal_refused : (r : Refusal) → refusal cells h s ≡ Some r → IsLegalLine cells h s (record { answer = answer.Refused r; given = given.Nobody })
  legal_refused r some = legal_as (answer.Refused r) given.Nobody (Some r) some refl refl

  -- a step that is not, gives last
  pub legal_last : (a : Answer) (d : Given) → refusal cells h s ≡ None → due_answer cells h s (other_waits cells h s) false ≡ a → may_give_last cells h s a d ≡ true → IsLegalLine cells h s (record { answer = a; given = d })
  legal_last a d none due gave = legal_as a d None none due gave

module _ (cells : List CellPlan) (h : List Event) (p : ℕ) (act : Act) (a : Answer) (c : ℕ) (concerned : cell_concerned cells h (step_of p act) ≡ Some c) where
  on_cell : (d : Given) → is_parking (cell_at cells c).place ≡ true → reaches c d (other_waits cells h (step_of p act)) ≡ true → ((is_readers d && downgrades cells h (step_of p act) a) || is_freed_last cells h (step_of p act) a c) ≡ true → may_give_on cells h (step_of p act) (cell_concerned cells h (step_of p act)) a d ≡ true
  on_cell d parks reach free = subst (λ o. may_give_on cells h (step_of p act) o a d ≡ true) (sym concerned) (rw (parks, reach, free) refl)

  -- where nothing stands on the cell after the step
  freed : (d : Given) → IsGift c (standing cells (event p act (record { answer = a; given = given.Nobody }) ∷ h)) d → waits cells (event p act (record { answer = a; given = given.Nobody }) ∷ h) ≡ other_waits cells h (step_of p act) → may_give_on cells h (step_of p act) (cell_concerned cells h (step_of p act)) a d ≡ true
  freed d k same =
      on_cell d k.parks (ap (reaches c d) (sym same) ∙ k.reach) (or_right (is_readers d && downgrades cells h (step_of p act) a) (is_freed_last cells h (step_of p act) a c) (ap (λ n. n == 0) k.free))

  pub gave_freed : (d : Given) → MayGive c (standing cells (event p act (record { answer = a; given = given.Nobody }) ∷ h)) d → waits cells (event p act (record { answer = a; given = given.Nobody }) ∷ h) ≡ other_waits cells h (step_of p act) → may_give_last cells h (step_of p act) a d ≡ true
  gave_freed d k same = grind (arith)

  -- where the step downgrades
  pub gave_readers : is_parking (cell_at cells c).place ≡ true → reaches c given.Readers (other_waits cells h (step_of p act)) ≡ true → downgrades cells h (step_of p act) a ≡ true → may_give_last cells h (step_of p act) a given.Readers ≡ true
  gave_readers parks reach down = on_cell given.Readers parks reach (rw down refl)

module _ (cells : List CellPlan) (h : List Event) (p : ℕ) (awake : wait_of p (waits cells h) ≡ None) where
  -- why the act of a party that does not wait is refused
  pub refusal_awake : (a : Act) → refusal cells h (step_of p a) ≡ refusal_free cells h p a
  refusal_awake a = ap (λ o. refusal_by cells (is_some o) h p a) awake

  -- the others that wait are all that wait
  pub others_all : (a : Act) → other_waits cells h (step_of p a) ≡ waits cells h
  others_all a = none_without p (waits cells h) awake

  pub gave_down : (act : Act) (a : Answer) (c : ℕ) → cell_concerned cells h (step_of p act) ≡ Some c → (d : Given) → MayGiveDown c (standing cells h) d → downgrades cells h (step_of p act) a ≡ true → may_give_last cells h (step_of p act) a d ≡ true
  gave_down act a c concerned given.Nobody k down = refl
  gave_down act a c concerned (given.Writer q) k down = absurd k
  gave_down act a c concerned given.Readers k down = gave_readers cells h p act a c concerned k.parks (ap (reaches c given.Readers) (others_all act) ∙ k.reach) down
