-- What a legal step leaves: each section stands on the phase that it needs, each holder of a write guard sees a value, and
-- INITIALIZED is never cleared.
use Rattle.schedule_rules.proofs.Words.{ℕ, arith, List, ◌≡◌, Bool, true, refl, Some, false, ◌∷◌, [], ap, and_or_apart, and_or_self, bit_or, bit_and, AllByRecursion, ◌==◌, has}
use Rattle.schedule_rules.proofs.Words.{initialized, phase_of, shall_init, CellPlan, Want, Calls, Turns, cell_at, tolerance_of, Content, effect, Change, Ran, Deed, Event, deed_of}
use Rattle.schedule_rules.proofs.Words.{sections, Section, is_turn, Guard, guards, numbered, replay, phase_at, IsLegal, IsExclusive}
use Rattle.schedule_rules.proofs.Found.{each_found}
use Rattle.schedule_rules.proofs.Cases.{Asking, Resting, AsksToLend, Reach}
use Rattle.schedule_rules.proofs.Finds.{Inside, Visit, Comes, Lending, accessed_there, Finds, finds}
use Rattle.schedule_rules.proofs.Leaves.{left_at, sections_left, guards_left, NewOf, Says, sections_say, guards_say, GivesOf, moves}
use Rattle.schedule_rules.proofs.Exclusion.{alone}

-- a run that succeeds sets it
pub has_made : (p : ℕ) → has (bit_or p initialized) initialized ≡ true
has_made p = rw (and_or_self 1 p) refl

-- other flags leave it
pub has_more : (p m : ℕ) → bit_and m initialized ≡ 0 → has (bit_or p m) initialized ≡ has p initialized
has_more p m e = ap (λ z. z == 1) (and_or_apart 1 p m e)

-- what a section needs of the phase of its cell: a generator that a run is wanted, and a finalizer that there is a value
abbrev pub Needs : Want → CellPlan → ℕ → Type 0
Needs (Calls k) x p = shall_init (tolerance_of x) (phase_of p) ≡ true
Needs Turns x p = has p initialized ≡ true

-- a generator's section needs a phase that lacks INITIALIZED
pub needs-lacks : (w : Want) (x : CellPlan) (p : ℕ) → is_turn w ≡ false → Needs w x p → has p initialized ≡ false
needs-lacks w x p d n = grind arith

-- a generator ended in the section
abbrev pub HasRun : List Change → Type 0
HasRun [] = ⊥
HasRun (Ran o m ∷ chs) = Unit {0}
HasRun (ch ∷ chs) = HasRun chs

-- on this content the holder of the guard sees a value, and where it was made in the guard's section none was there
abbrev pub SeesValue : CellPlan → Guard → Content → Type 0
SeesValue q x y = (has (effect q x.changes y).phase initialized ≡ true) × (HasRun x.changes → has y.phase initialized ≡ false)

module _ (cells : List CellPlan) where
  -- the section stands on the phase that it needs
  abbrev pub IsStanding : List Event → Section → Type 0
  IsStanding h s = Needs s.want (cell_at cells s.cell) (phase_at cells s.cell h)

  -- the holder of a write guard sees a value
  abbrev pub IsReady : List Event → Guard → Type 0
  IsReady h x = x.writes ≡ true → SeesValue (cell_at cells x.cell) x (replay cells x.cell h)

  -- each section stands on the phase that it needs, and each holder of a write guard sees a value
  pub record IsSound (h : List Event) : Type 0 where
    pub standing : AllByRecursion (IsStanding h) (sections h)
    pub ready : AllByRecursion (IsReady h) (guards h)

  -- what a legal step leaves of it, and no value is lost
  module _ (h : List Event) (p : ℕ) (alone : (c : ℕ) → IsExclusive cells h c) where
    -- the same of what a cell holds
    abbrev Stands : Content → Section → Type 0
    Stands y s = Needs s.want (cell_at cells s.cell) y.phase

    abbrev Sees : Content → Guard → Type 0
    Sees y x = x.writes ≡ true → SeesValue (cell_at cells x.cell) x y

    new : (d : Deed) (f : Finds cells h p d) → NewOf cells h p alone Stands Stands Sees Sees d f
    new d f = grind (arith, accessed_there, has_made, needs-lacks)

    says : (d : Deed) (f : Finds cells h p d) → Says cells h p alone Stands Stands Sees Sees d f
    says d f = grind (arith, new)

    module _ (k : IsSound h) where
      pub sound-after : (d : Deed) (f : Finds cells h p d) → AllByRecursion (λ s. Stands (left_at cells h p d s.cell) s) (sections_left cells h p d) × AllByRecursion (λ x. Sees (left_at cells h p d x.cell) x) (guards_left cells h p d)
      sound-after d f = (
        sections_say cells h p alone Stands Stands Sees Sees d f (says d f) k.standing,
        guards_say cells h p alone Stands Stands Sees Sees d f (says d f) k.standing k.ready,
      )

      -- where a generator runs there is no value
      pub lacks : (f : Inside cells h p false) → has (phase_at cells f.section.cell h) initialized ≡ false
      lacks f = needs-lacks f.section.want (cell_at cells f.section.cell) (phase_at cells f.section.cell h) f.kind (each_found (λ s. s.party == p) (IsStanding h) (sections h) f.section f.found k.standing)

      -- no value is lost
      abbrev Keeps : ℕ → Content → Content → Type 0
      Keeps c y z = has y.phase initialized ≡ true → has z.phase initialized ≡ true

      ready : (g : ℕ) (x : Guard) → numbered g (guards h) ≡ Some x → x.writes ≡ true → Keeps x.cell (replay cells x.cell h) (effect (cell_at cells x.cell) x.changes (replay cells x.cell h))
      ready g x f w r = (each_found (λ y. y.number == g) (IsReady h) (guards h) x f k.ready w).0

      visits : (c : ℕ) (chs : List Change) (reads : Bool) (v : Visit cells h p c chs reads) → Keeps c (replay cells c h) (effect (cell_at cells c) chs (replay cells c h))
      visits c chs reads v r = grind (arith, Asking, Resting)

      lends : (c : ℕ) (chs : List Change) (f : Lending cells h p c chs) → Keeps c (replay cells c h) (effect (cell_at cells c) chs (replay cells c h))
      lends c chs f r = grind (arith, AsksToLend, Comes, Reach)

      gives : (d : Deed) (f : Finds cells h p d) → GivesOf cells h p alone Keeps d f
      gives d f = grind (arith, lacks, has_more, has_made, ready, visits, lends)

      pub kept-after : (d : Deed) (f : Finds cells h p d) (c : ℕ) → Keeps c (replay cells c h) (left_at cells h p d c)
      kept-after d f c = moves cells h p alone Keeps d f (λ z n r. r) (gives d f) c

module _ (cells : List CellPlan) where
  -- what a legal history goes on by
  pub sound : (h : List Event) → IsLegal cells h → IsSound cells h
  sound [] k = record { standing = tt; ready = tt }
  sound (e ∷ h) k =
      let after : _ = sound-after cells h e.step.party (alone cells h k.2) (sound h k.2) (deed_of h e.step e.line.answer) (finds cells h e.step e.line k.0) in
      record { standing = after.0; ready = after.1 }

  -- INITIALIZED stays
  pub initialized-stays : (h : List Event) (e : Event) (c : ℕ) → IsLegal cells (e ∷ h) → has (phase_at cells c h) initialized ≡ true → has (phase_at cells c (e ∷ h)) initialized ≡ true
  initialized-stays h e c k r =
      kept-after cells h e.step.party (alone cells h k.2) (sound h k.2) (deed_of h e.step e.line.answer) (finds cells h e.step e.line k.0) c r
