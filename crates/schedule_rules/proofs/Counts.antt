-- How many calls wait and how many turns there are, after one is taken off or added.
use Rattle.schedule_rules.proofs.Words.{ℕ, arith, List, ◌≡◌, Bool, refl, Some, ◌∷◌, [], None, ◌+◌, ◌≤◌, cond, ◌++◌, ◌==◌, if◌then◌else◌, map, Option, cells_of_turns, first_of}
use Rattle.schedule_rules.proofs.Words.{rest_of, occurs, Turn, Turned, Given, Answer, CellPlan, Step, Want, Turns, Event, count, Wait, waits, wait_of, Attempt, attempt_of_wait}
use Rattle.schedule_rules.proofs.Words.{without_wait, waits_given_with, with_wait, attempt_of_turn, waits_answered, wait_woken}

-- 1 where the test holds
abbrev pub one_if : Bool → ℕ
one_if b = cond b 1 0

-- ---- turns

pub occurs_joined : (c : ℕ) (xs ys : List ℕ) → occurs c (xs ++ ys) ≡ occurs c xs + occurs c ys
occurs_joined c [] ys = omega arith
occurs_joined c (x ∷ xs) ys = let e : _ = occurs_joined c xs ys in omega (arith, e)

pub occurs_ended : (c d : ℕ) (t : Turn) (ts : List Turned) → occurs c (cells_of_turns (ts ++ record { cell = d; turn = t } ∷ [])) ≡ occurs c (cells_of_turns ts) + cond (d == c) 1 0
occurs_ended c d t [] = omega arith
occurs_ended c d t (x ∷ ts) = let e : _ = occurs_ended c d t ts in omega (arith, e)

-- ---- waits

-- what a gift leaves alone counts as before
pub count_mapped : (t : Wait → Bool) (f : Wait → Wait) → ((w : Wait) → t (f w) ≡ t w) → (ws : List Wait) → count t (map f ws) ≡ count t ws
count_mapped t f same [] = refl
count_mapped t f same (w ∷ ws) = grind (arith, count_mapped t f same ws, same w)

module _ (t : Wait → Bool) (keeps : (w : Wait) → t (wait_woken w) ≡ t w) where
  woken : (b : Bool) (w : Wait) → t (if b then wait_woken w else w) ≡ t w
  woken b w = grind (arith, keeps)

  pub count_given : (cells : List CellPlan) (all : List Wait) (h : List Event) (s : Step) (g : Given) (ws : List Wait) → count t (waits_given_with cells all h s g ws) ≡ count t ws
  count_given cells all h s g ws = grind (arith, count_mapped, woken)

-- where the party does not wait, all are others
pub without_none : (p : ℕ) (ws : List Wait) → wait_of p ws ≡ None → without_wait p ws ≡ ws
without_none p [] e = refl
without_none p (w ∷ ws) e = grind (arith, without_none p ws)

none_waits : (p : ℕ) (ws : List Wait) → count (λ w. w.party == p) ws ≡ 0 → wait_of p ws ≡ None
none_waits p [] e = refl
none_waits p (w ∷ ws) e = grind (arith, none_waits p ws)

-- where it waits once, one less is counted without it
pub count_without : (t : Wait → Bool) (p : ℕ) (ws : List Wait) (w : Wait) → wait_of p ws ≡ Some w → count (λ v. v.party == p) ws ≤ 1
    → count t ws ≡ count t (without_wait p ws) + cond (t w) 1 0
count_without t p [] w e n = absurd (cc)
count_without t p (v ∷ ws) w e n = grind (arith, count_without t p ws w, without_none p ws, none_waits p ws)

-- without the waits of a party no more wait
without_fewer : (t : Wait → Bool) (p : ℕ) (ws : List Wait) → count t (without_wait p ws) ≤ count t ws
without_fewer t p [] = omega arith
without_fewer t p (w ∷ ws) = grind (arith, without_fewer t p ws)

-- and none of its own
none_own : (p : ℕ) (ws : List Wait) → count (λ w. w.party == p) (without_wait p ws) ≡ 0
none_own p [] = refl
none_own p (w ∷ ws) = grind (arith, none_own p ws)

module _ (cells : List CellPlan) (p : ℕ) where
  -- the party waits with no more calls than before, besides one that waits by this step
  module _ (h : List Event) (s : Step) (g : Given) (ws : List Wait) (n : count (λ w. w.party == p) ws ≤ 1) where
    abbrev others : List Wait
    others = waits_given_with cells ws h s g (without_wait s.party ws)

    given_others : count (λ w. w.party == p) others ≡ count (λ w. w.party == p) (without_wait s.party ws)
    given_others = count_given (λ w. w.party == p) (λ w. refl) cells ws h s g (without_wait s.party ws)

    few : count (λ w. w.party == p) others ≤ 1
    few = let m : _ = without_fewer (λ w. w.party == p) s.party ws in omega (arith, given_others, m, n)

    one_more : (way : _) (o : Option Attempt) → count (λ w. w.party == p) (with_wait s.party way o others) ≤ 1
    one_more way o = grind (arith, few, none_own, given_others)

    one_answered : (r : Answer) → count (λ w. w.party == p) (waits_answered cells h s g r ws) ≤ 1
    one_answered r = grind (arith, one_more, few)

  -- a party waits with one call at most
  pub one-wait : (h : List Event) → count (λ w. w.party == p) (waits cells h) ≤ 1
  one-wait [] = omega arith
  one-wait (e ∷ h) = one_answered h e.step e.line.given (waits cells h) (one-wait h) e.line.answer

-- what has a first begins with it
pub begins : (cs : List ℕ) (d : ℕ) → first_of cs ≡ Some d → cs ≡ d ∷ rest_of cs
begins cs d e = grind arith

pub waits_so : (o : Option Wait) (d : ℕ) (v : Want) → attempt_of_wait o ≡ Some (record { cell = d; want = v }) → (w : Wait) × (o ≡ Some w) × (w.cell ≡ d) × (w.want ≡ v)
waits_so o d v e = grind arith

-- a turn that is attempted is the first left
pub first_so : (o : Option ℕ) (d : ℕ) → attempt_of_turn o ≡ Some (record { cell = d; want = Turns }) → o ≡ Some d
first_so o d e = grind arith
