-- A step, by whether its party waits.
use Rattle.phase_acts.proofs.Words.{◌∙◌, ◌≡◌, ◌≢◌, Act, ap, arith, AwaitsBy, CellPlan, Event, HasStepped, Holders, is_some, IsAwake, IsNext, IsTried, IsTrying, KeptWith, length, Line}
use Rattle.phase_acts.proofs.Words.{List, LockerKind, None, Option, refl, refusal, refusal_by, refusal_waiting, Rows, Some, standing, Step, step_of, subst, sym, Target, target_of}
use Rattle.phase_acts.proofs.Words.{true, Wait, wait_of, waits}
use Rattle.schedule_rules.specs.declared.line.Refusal.TheVariants as refused
use Rattle.schedule_rules.specs.declared.step.Act.TheVariants as act
use Rattle.phase_acts.proofs.Causes.{again_trying, again_steps}

-- only an Again goes on
refusal_other : (a : Act) → a ≢ act.Again → refusal_waiting a ≡ Some refused.Waits
refusal_other a ne = grind (arith, ne)

module _ {L : Type 0} {held : L → Holders} {place : L → LockerKind} {cells : List CellPlan} {h : List Event} {old : Rows L} {s : Step} (next : IsNext held place cells h old s) (r : Option Target) (tells : AwaitsBy held place old s.party r) where
  told : r ≡ target_of (wait_of s.party (waits cells h))
  told = tells (length old.guards.items) (standing cells h) next.follows.rests.stands next.known.party

  -- its party does not wait
  pub awake : r ≡ None → IsAwake held place cells h old s.party s.act
  awake e = record { next = next; awake = by (wait_of s.party (waits cells h)) (sym e ∙ told) }
    where
      by : (o : Option Wait) → None ≡ target_of o → o ≡ None
      by None f = refl
      by (Some w) f = absurd (cc)

  module _ (t : Target) (some : r ≡ Some t) where
    -- it waits, and does not go on
    pub waits_refused : s.act ≢ act.Again → refusal cells h s ≡ Some refused.Waits
    waits_refused ne = by (wait_of s.party (waits cells h)) refl (sym told ∙ some) ∙ refusal_other s.act ne
      where
        by : (o : Option Wait) → wait_of s.party (waits cells h) ≡ o → target_of o ≡ Some t → refusal cells h s ≡ refusal_waiting s.act
        by None e f = absurd (cc)
        by (Some w) e f = ap (λ x. refusal_by cells (is_some x) h s.party s.act) e

    -- it goes on
    module _ (goes_on : s.act ≡ act.Again) where
      next_is : IsNext held place cells h old (step_of s.party act.Again)
      next_is = subst (λ a. IsNext held place cells h old (step_of s.party a)) goes_on next

      pub may_go_on : IsTrying held place (standing cells h) old s.party t true
      may_go_on = again_trying t next_is (sym told ∙ some)

      pub went_on : (l : Line) (new : Rows L) → IsTried held place (length old.guards.items) (standing cells h) s.party t l new → KeptWith 1 old new → HasStepped held place cells h old s l new
      went_on l new tried kept = subst (λ a. HasStepped held place cells h old (step_of s.party a) l new) (sym goes_on) (again_steps t next_is (sym told ∙ some) l tried kept)
