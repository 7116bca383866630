-- Which guard a party has, by what it sees, and why it is refused what it does with it.
use Rattle.phase_acts.proofs.Words.{◌==◌, ◌∙◌, ◌≡◌, Act, ap, arith, Bool, CellPlan, Event, false, Guard, guard_of, guards, Held, held_of, Holders, HoldsBy, if◌then◌else◌, IsAwake}
use Rattle.phase_acts.proofs.Words.{List, LockerKind, None, not, numbered, Option, own, refl, Refusal, refusal, refusal_free, Rows, seen_by, Some, Standing, standing, step_of, sym}
use Rattle.phase_acts.proofs.Words.{true, writes_of, ℕ}
use Rattle.phase_acts.proofs.Lines.{refusal_awake}

-- what is not so
pub turned : (b c : Bool) → not b ≡ c → b ≡ not c
turned b c e = grind (arith, e)

-- a party's guard is found by its number, and is its own
pub found_of : (g p : ℕ) (gs : List Guard) (x : Guard) → guard_of g p gs ≡ Some x → (numbered g gs ≡ Some x) × (x.party ≡ p)
found_of g p gs x e = by (numbered g gs) e
  where
    by : (o : Option Guard) → own p o ≡ Some x → (o ≡ Some x) × (x.party ≡ p)
    by None e = absurd (cc)
    by (Some y) e = if_own (y.party == p) refl e
      where
        if_own : (b : Bool) → (y.party == p) ≡ b → (if b then Some y else None) ≡ Some x → (Some y ≡ Some x) × (x.party ≡ p)
        if_own true is e = (e, grind (arith, e, is))
        if_own false is e = absurd (cc)

-- nothing is seen where there is none
none_held : (m : Standing) (o : Option Guard) → None ≡ held_of m o → o ≡ None
none_held m o e = grind (arith, e)

-- and else this guard shows it
pub record Shows (m : Standing) (o : Option Guard) (y : Held) : Type 0 where
  pub x : Guard
  pub is : o ≡ Some x
  pub at : y.cell ≡ x.cell
  pub writes : y.writes ≡ x.writes
  pub value : y.value ≡ (if x.writes then seen_by m x else m.content x.cell).value

shows : (m : Standing) (o : Option Guard) (y : Held) → Some y ≡ held_of m o → Shows m o y
shows m o y e = grind (arith, e)

module _ {L : Type 0} {held : L → Holders} {place : L → LockerKind} {cells : List CellPlan} {h : List Event} {old : Rows L} {p : ℕ} {a : Act} (is : IsAwake held place cells h old p a) (g : ℕ) (r : Option Held) (by : HoldsBy held place old p g r) where
  abbrev its : Option Guard
  its = guard_of g p (guards h)

  pub has : (y : Held) → r ≡ Some y → Shows (standing cells h) its y
  has y e = shows (standing cells h) its y (sym e ∙ by (standing cells h) is.next.follows.rests)

  -- its act is refused by whether its guard writes
  module _ (no : Option Bool → Option Refusal) (why : refusal_free cells h p a ≡ no (writes_of (guard_of g p (guards h)))) where
    pub has_none : r ≡ None → refusal cells h (step_of p a) ≡ no None
    has_none e = refusal_awake cells h p is.awake a ∙ why ∙ ap (λ o. no (writes_of o)) (none_held (standing cells h) its (sym e ∙ by (standing cells h) is.next.follows.rests))

    pub has_one : (y : Held) → r ≡ Some y → (b : Bool) → y.writes ≡ b → refusal cells h (step_of p a) ≡ no (Some b)
    has_one y e b w = let f = has y e in refusal_awake cells h p is.awake a ∙ why ∙ ap (λ o. no (writes_of o)) f.is ∙ ap (λ b. no (Some b)) (sym f.writes ∙ w)
