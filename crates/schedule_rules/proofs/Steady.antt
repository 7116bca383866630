-- What is published of a cell stays while a section of it is open.
use Rattle.schedule_rules.proofs.Words.{ℕ, arith, List, ◌≡◌, true, refl, Some, ◌∷◌, [], ◌∙◌, sym, ap, ◌<◌, length, ◌≤◌, AllByRecursion, ◌==◌, CellPlan, cell_at, Content, effect}
use Rattle.schedule_rules.proofs.Words.{Deed, Event, deed_of, before, sections, Section, innermost, Guard, guards, numbered, replay, inside, IsLegal, IsExclusive, IsAsAt}
use Rattle.schedule_rules.proofs.Exclusion.{alone}
use Rattle.schedule_rules.proofs.Found.{each_found}
use Rattle.schedule_rules.proofs.Finds.{Finds, finds}
use Rattle.schedule_rules.proofs.Leaves.{NewOf, Says, sections_say, guards_say}

-- the events before an earlier step are the same after one more
pub before_more : (n : ℕ) (e : Event) (h : List Event) → n ≤ length h → before n (e ∷ h) ≡ before n h
before_more n e h le = grind arith

-- those before the next step are all
pub before_now : (h : List Event) → before (length h) h ≡ h
before_now [] = refl
before_now (e ∷ h) = grind arith

module _ (cells : List CellPlan) (h : List Event) where
  -- the section was opened before now, and nothing of its cell was given back since: this is still published there
  abbrev SteadySection : Content → Section → Type 0
  SteadySection y s = (s.start < length h) × (replay cells s.cell (before s.start h) ≡ y)

  -- so was the section of a guard that writes
  abbrev SteadyGuard : Content → Guard → Type 0
  SteadyGuard y x = x.writes ≡ true → (x.start < length h) × (replay cells x.cell (before x.start h) ≡ y)

  record IsSteady : Type 0 where
    pub in_sections : AllByRecursion (λ s. SteadySection (replay cells s.cell h) s) (sections h)
    pub in_guards : AllByRecursion (λ x. SteadyGuard (replay cells x.cell h) x) (guards h)

module _ (cells : List CellPlan) (h : List Event) (e : Event) (only : (c : ℕ) → IsExclusive cells h c) where
  -- an earlier moment is the same after one more event
  later : (n c : ℕ) (y : Content) → n < length h → replay cells c (before n h) ≡ y → replay cells c (before n (e ∷ h)) ≡ y
  later n c y l k = ap (replay cells c) (before_more n e h (omega (arith, l))) ∙ k

  -- what opens now finds what is published
  now : (c : ℕ) → replay cells c (before (length h) (e ∷ h)) ≡ replay cells c h
  now c = ap (replay cells c) (before_more (length h) e h (omega arith) ∙ before_now h)

  new : (d : Deed) (f : Finds cells h e.step.party d) → NewOf cells h e.step.party only (SteadySection cells h) (SteadySection cells (e ∷ h)) (SteadyGuard cells h) (SteadyGuard cells (e ∷ h)) d f
  new d f = grind (arith, now, later)

  says : (d : Deed) (f : Finds cells h e.step.party d) → Says cells h e.step.party only (SteadySection cells h) (SteadySection cells (e ∷ h)) (SteadyGuard cells h) (SteadyGuard cells (e ∷ h)) d f
  says d f = grind (arith, later, new)

-- in a legal history
steady : (cells : List CellPlan) (h : List Event) → IsLegal cells h → IsSteady cells h
steady cells [] k = record { in_sections = tt; in_guards = tt }
steady cells (e ∷ h) k =
    let old : _ = steady cells h k.2 in
    let d : Deed = deed_of h e.step e.line.answer in
    let f : Finds cells h e.step.party d = finds cells h e.step e.line k.0 in
    record {
      in_sections = sections_say cells h e.step.party (alone cells h k.2) (SteadySection cells h) (SteadySection cells (e ∷ h)) (SteadyGuard cells h) (SteadyGuard cells (e ∷ h)) d f (says cells h e (alone cells h k.2) d f) old.in_sections;
      in_guards = guards_say cells h e.step.party (alone cells h k.2) (SteadySection cells h) (SteadySection cells (e ∷ h)) (SteadyGuard cells h) (SteadyGuard cells (e ∷ h)) d f (says cells h e (alone cells h k.2) d f) old.in_sections old.in_guards;
    }

module _ (cells : List CellPlan) where
  pub section-steady : (h : List Event) (p : ℕ) (s : Section) → IsLegal cells h → innermost p (sections h) ≡ Some s → IsAsAt cells h s.cell s.start
  section-steady h p s k f = sym (each_found (λ t. t.party == p) (λ t. SteadySection cells h (replay cells t.cell h) t) (sections h) s f (steady cells h k).in_sections).1

  pub guard-steady : (h : List Event) (g : ℕ) (x : Guard) → IsLegal cells h → numbered g (guards h) ≡ Some x → x.writes ≡ true → IsAsAt cells h x.cell x.start
  guard-steady h g x k f w = sym (each_found (λ y. y.number == g) (λ y. SteadyGuard cells h (replay cells y.cell h) y) (guards h) x f (steady cells h k).in_guards w).1

  -- so a write guard shows what happened in its section, on what is published
  pub guard-shows : (h : List Event) (g : ℕ) (x : Guard) → IsLegal cells h → numbered g (guards h) ≡ Some x → x.writes ≡ true
      → inside cells h x ≡ effect (cell_at cells x.cell) x.changes (replay cells x.cell h)
  guard-shows h g x k f w = ap (effect (cell_at cells x.cell) x.changes) (sym (guard-steady h g x k f w))
