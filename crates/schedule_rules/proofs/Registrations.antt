-- Which lines show that their step tried to register a cell, and that it is tried at most once at a cell.
use Rattle.schedule_rules.proofs.Words.{ℕ, arith, List, ◌≡◌, Bool, true, refl, Some, false, ◌∷◌, [], ◌∙◌, sym, subst, ◌⊎◌, inl, ◌<◌, ◌&&◌, inr, ◌≢◌, ◌+◌, ◌≤◌, cond, ◌||◌}
use Rattle.schedule_rules.proofs.Words.{get_or-set_other, get_or-set_same, ◌==◌, if◌then◌else◌, Option, is_known, Call, Answer, Line, CellPlan, Step, Calls, cell_at, tolerance_at}
use Rattle.schedule_rules.proofs.Words.{asks, Change, Asked, Deed, Visits, Opens, Event, deed_of, accepts, phase_at, registry, registry_by, Attempt, write_holds, IsLegal}
use Rattle.schedule_rules.proofs.Words.{IsLegalLine, IsExclusive, is_attempted, asks_registration}
use Rattle.schedule_rules.proofs.Exclusion.{alone}
use Rattle.schedule_rules.proofs.Cases.{Asking, Resting}
use Rattle.schedule_rules.proofs.Finds.{Visit, Finds, finds}
use Rattle.schedule_rules.proofs.Leaves.{left_at, holds_left}
use Rattle.schedule_rules.proofs.Held.{IsHeld, held-stays}
use Rattle.schedule_rules.proofs.Registered.{fresh-unknown, known_taken, finalizable-inside}
use Rattle.schedule_rules.proofs.Facts.{first, second}
use Rattle.schedule_rules.proofs.Accepts.{open-accepts, known-length}

module _ (cells : List CellPlan) where
  -- something is attempted that asks for a run which registers the cell
  abbrev pub asks_so : ℕ → List Event → Option Attempt → Bool
  asks_so c h o = is_attempted (asks_registration cells c h) o

  -- what happens in a section at once tries to register the cell: its call asks so
  abbrev pub visit_registers : ℕ → List Event → ℕ → List Change → Bool
  visit_registers c h d (Asked o k ∷ chs) = asks_so c h (Some (record { cell = d; want = Calls k }))
  visit_registers c h d _ = false

  -- the deed does: it begins such a run, or its call is declined
  abbrev pub deed_registers : ℕ → List Event → Deed → Bool
  deed_registers c h (Opens d (Calls k) taken) = asks_so c h (Some (record { cell = d; want = Calls k }))
  deed_registers c h (Visits d chs reads) = visit_registers c h d chs
  deed_registers c h _ = false

  -- the step with this answer does
  abbrev pub shows_registration : ℕ → List Event → Step → Answer → Bool
  shows_registration c h s r = deed_registers c h (deed_of h s r)

  -- how many lines show it
  abbrev pub registrations_shown : ℕ → List Event → ℕ
  registrations_shown c [] = 0
  registrations_shown c (e ∷ h) =
      if shows_registration c h e.step e.line.answer then registrations_shown c h + 1 else registrations_shown c h

module _ (cells : List CellPlan) (c : ℕ) where
  module _ (h : List Event) (p : ℕ) (only : IsExclusive cells h c) where
    -- the cell is touched after the deed
    abbrev IsHeldBy : Deed → Type 0
    IsHeldBy d = ((left_at cells h p d c).phase ≢ 0) ⊎ (0 < holds_left cells h p d c)

    -- where the deed tries to register the cell, it was not touched before, and is touched by it
    abbrev IsFresh : Deed → Type 0
    IsFresh d =
        deed_registers cells c h d ≡ true → (phase_at cells c h ≡ 0) × (write_holds c h ≡ 0) × IsHeldBy d

    -- what a call asks that tries to register the cell
    tried : (d : ℕ) (j : Call) → asks_so cells c h (Some (record { cell = d; want = Calls j })) ≡ true
        → (d ≡ c) × (asks (cell_at cells d).kind (tolerance_at cells d) (Calls j) (phase_at cells d h) ≡ true) × (phase_at cells d h ≡ 0)
    tried d j e = grind (arith, first, second)

    asked : (d : ℕ) (j : Call) (x : Deed) → (IsExclusive cells h d → write_holds d h ≡ 0) → (d ≡ c → IsHeldBy x)
        → (d ≡ c) × (asks (cell_at cells d).kind (tolerance_at cells d) (Calls j) (phase_at cells d h) ≡ true) × (phase_at cells d h ≡ 0)
        → (phase_at cells c h ≡ 0) × (write_holds c h ≡ 0) × IsHeldBy x
    asked d j x unheld is (here, n, empty) = (subst (λ z. phase_at cells z h ≡ 0) here empty, subst (λ z. IsExclusive cells h z → write_holds z h ≡ 0) here unheld only, is here)

    running : (d : ℕ) (j : Call) (taken : Bool) → Asking cells h p d j true → IsFresh (Opens d (Calls j) taken)
    running d j taken q e = asked d j (Opens d (Calls j) taken) q.unheld (λ here. inr (let same : (d == c) ≡ true = grind arith in rw same (omega arith))) (tried d j e)

    visits : (d : ℕ) (chs : List Change) (reads : Bool) → Visit cells h p d chs reads → IsFresh (Visits d chs reads)
    visits d chs reads v e = grind (arith, tried, Asking, Resting)

    pub freshly : (d : Deed) → Finds cells h p d → IsFresh d
    freshly d f = grind (arith, running, visits)

  -- a legal line that tries to register the cell
  fresh : (h : List Event) (s : Step) (l : Line) → IsLegal cells h → IsLegalLine cells h s l → shows_registration cells c h s l.answer ≡ true
      → (phase_at cells c h ≡ 0) × (write_holds c h ≡ 0) × IsHeld cells (record { step = s; line = l } ∷ h) c
  fresh h s l k m = freshly h s.party (alone cells h k c) (deed_of h s l.answer) (finds cells h s l m)

  -- it does so where the registry does not know the cell
  pub tries-unknown : (h : List Event) (s : Step) (l : Line) → IsLegal cells h → IsLegalLine cells h s l → shows_registration cells c h s l.answer ≡ true
      → is_known (registry cells h) c ≡ false
  tries-unknown h s l k m e = let f : _ = fresh h s l k m e in fresh-unknown cells h c k f.0 f.1

  -- no step tried to register the cell, or one did, and then it is touched
  abbrev IsTried : List Event → Type 0
  IsTried h = (registrations_shown cells c h ≡ 0) ⊎ ((registrations_shown cells c h ≡ 1) × IsHeld cells h c)

  counted : (h : List Event) → IsLegal cells h → IsTried h
  counted [] k = inl refl
  counted (e ∷ h) k = by (shows_registration cells c h e.step e.line.answer) refl (counted h k.2)
    where
      never : (phase_at cells c h ≡ 0) × (write_holds c h ≡ 0) × IsHeld cells (e ∷ h) c → IsHeld cells h c → ⊥
      never f x = grind arith

      by : (b : Bool) → shows_registration cells c h e.step e.line.answer ≡ b → IsTried h
          → (cond b (registrations_shown cells c h + 1) (registrations_shown cells c h) ≡ 0) ⊎ ((cond b (registrations_shown cells c h + 1) (registrations_shown cells c h) ≡ 1) × IsHeld cells (e ∷ h) c)
      by true f (inl none) = inr (omega (arith, none), (fresh h e.step e.line k.2 k.0 f).2)
      by true f (inr one) = absurd (never (fresh h e.step e.line k.2 k.0 f) one.1)
      by false f (inl none) = inl none
      by false f (inr one) = inr (one.0, held-stays cells h e c k one.1)

  -- so registration is tried at most once
  pub registered-once : (h : List Event) → IsLegal cells h → registrations_shown cells c h ≤ 1
  registered-once h k = grind (arith, counted)

-- ---- what a step registers

or_none : (b : Bool) → (b || false) ≡ b
or_none b = grind arith

or_all : (b : Bool) → (b || true) ≡ true
or_all b = grind arith

module _ (cells : List CellPlan) (c : ℕ) (h : List Event) (p : ℕ) (legal : IsLegal cells h) where
  -- after the deed the registry knows the cell where it did, or where the deed tries to register it and cells may be
  -- registered
  abbrev IsRegistering : Deed → Type 0
  IsRegistering d = is_known (registry_by cells h d (registry cells h)) c ≡ (is_known (registry cells h) c || (deed_registers cells c h d && accepts h))

  -- one that leaves what is known
  leaves_known : (k : Bool) → k ≡ is_known (registry cells h) c → k ≡ (is_known (registry cells h) c || (false && accepts h))
  leaves_known k e = e ∙ sym (or_none (is_known (registry cells h) c))

  -- a call that leaves nothing open registers nothing
  visits_none : (d : ℕ) (chs : List Change) (reads : Bool) (v : Visit cells h p d chs reads) → (visit_registers cells c h d chs && accepts h) ≡ false
  visits_none d chs reads v = grind arith

  -- a call that begins a run
  run_registers : (d : ℕ) (j : Call) (taken : Bool) → Asking cells h p d j true → IsRegistering (Opens d (Calls j) taken)
  run_registers d j taken q = grind (arith, open-accepts, finalizable-inside, first, known-length, get_or-set_same, get_or-set_other, or_all, or_none)

  pub registering : (d : Deed) → Finds cells h p d → IsRegistering d
  registering (Opens d (Calls j) taken) f = run_registers d j taken f
  registering d x = grind (arith, leaves_known, known_taken, or_none, visits_none)

-- the registry knows a cell after a step where it did before, or where the step tries to register it and cells may be
-- registered
pub known-by-trying : (cells : List CellPlan) (h : List Event) (e : Event) (c : ℕ) → IsLegal cells (e ∷ h)
    → is_known (registry cells (e ∷ h)) c ≡ (is_known (registry cells h) c || (shows_registration cells c h e.step e.line.answer && accepts h))
known-by-trying cells h e c k = registering cells c h e.step.party k.2 (deed_of h e.step e.line.answer) (finds cells h e.step e.line k.0)
