-- A phase that is not 0 never is 0 again; and a cell that was touched stays so: its phase is not 0, or a section runs in it,
-- or a guard writes it.
use Rattle.schedule_rules.proofs.Words.{ℕ, arith, List, ◌≡◌, Bool, true, Some, ◌∷◌, [], ◌∙◌, sym, None, subst, ◌⊎◌, inl, ◌<◌, inr, ◌≢◌, cond, and_or_self, bit_or, bit_and}
use Rattle.schedule_rules.proofs.Words.{AllByRecursion, ◌==◌, Option, has, initialized, CellPlan, cell_at, Content, effect, Change, Ran, Asked, Put, content_after, Ended}
use Rattle.schedule_rules.proofs.Words.{RanIfAsked, Deed, Makes, EndsToRead, Ends, Finishes, DropsToRead, Drops, Event, deed_of, sections, Section, Guard, guards, numbered, replay}
use Rattle.schedule_rules.proofs.Words.{phase_at, Back, back_of_step, content_after_back, write_holds, IsLegal, IsExclusive}
use Rattle.schedule_rules.proofs.Exclusion.{alone}
use Rattle.schedule_rules.proofs.Found.{each_of, each_found}
use Rattle.schedule_rules.proofs.Finds.{Finds, accessed_there, finds}
use Rattle.schedule_rules.proofs.Leaves.{left_at, guards_left, GivenAt, holds_left, Holding, holding, NewOf, guards_say, GivesOf, moves}
use Rattle.schedule_rules.proofs.Facts.{apart}

-- a phase with a flag is not 0
with_flag : (p m : ℕ) → (bit_and 0 m ≡ m → ⊥) → bit_or p m ≢ 0
with_flag p m f e = f (subst (λ z. bit_and z m ≡ m) e (and_or_self m p))

-- a generator or a finalizer ended in the section
abbrev pub HasEnded : List Change → Type 0
HasEnded [] = ⊥
HasEnded (Ran o m ∷ chs) = Unit {0}
HasEnded (Ended fine left ∷ chs) = Unit {0}
HasEnded (ch ∷ chs) = HasEnded chs

module _ (x : CellPlan) where
  ran_touches : (o : Bool) (made : Option ℕ) (y : Content) → (content_after x (Ran o made) y).phase ≢ 0
  ran_touches o made y = grind (arith, with_flag)

  ended_touches : (fine : Bool) (left : Option ℕ) (y : Content) → (content_after x (Ended fine left) y).phase ≢ 0
  ended_touches fine left y = grind (arith, with_flag y.phase 64, with_flag y.phase 128)

  asked_keeps : (o : Bool) (k : _) (y : Content) → y.phase ≢ 0 → (content_after x (Asked o k) y).phase ≢ 0
  asked_keeps o k y ne = grind arith

  lent_keeps : (o : Bool) (made : Option ℕ) (y : Content) → y.phase ≢ 0 → (content_after x (RanIfAsked o made) y).phase ≢ 0
  lent_keeps o made y ne = grind (arith, ran_touches)

  -- what happens in a section keeps a phase that is not 0
  pub effect_keeps : (chs : List Change) (y : Content) → y.phase ≢ 0 → (effect x chs y).phase ≢ 0
  effect_keeps [] y ne = ne
  effect_keeps (Ran o m ∷ chs) y ne = ran_touches o m (effect x chs y)
  effect_keeps (Ended fine left ∷ chs) y ne = ended_touches fine left (effect x chs y)
  effect_keeps (Asked o k ∷ chs) y ne = asked_keeps o k (effect x chs y) (effect_keeps chs y ne)
  effect_keeps (Put v ∷ chs) y ne = effect_keeps chs y ne
  effect_keeps (RanIfAsked o m ∷ chs) y ne = lent_keeps o m (effect x chs y) (effect_keeps chs y ne)

  -- and whatever it was, it is not 0 after a generator or a finalizer
  pub effect_touches : (chs : List Change) (y : Content) → HasEnded chs → (effect x chs y).phase ≢ 0
  effect_touches [] y r = absurd r
  effect_touches (Ran o m ∷ chs) y r = ran_touches o m (effect x chs y)
  effect_touches (Ended fine left ∷ chs) y r = ended_touches fine left (effect x chs y)
  effect_touches (Asked o k ∷ chs) y r = asked_keeps o k (effect x chs y) (effect_touches chs y r)
  effect_touches (Put v ∷ chs) y r = effect_touches chs y r
  effect_touches (RanIfAsked o m ∷ chs) y r = lent_keeps o m (effect x chs y) (effect_touches chs y r)

-- what is given back keeps a phase that is not 0
back_keeps : (cells : List CellPlan) (c : ℕ) (b : Option Back) (y : Content) → y.phase ≢ 0 → (content_after_back cells c b y).phase ≢ 0
back_keeps cells c None y ne = ne
back_keeps cells c (Some b) y ne = by (b.cell == c)
  where
    by : (d : Bool) → (cond d (effect (cell_at cells c) b.changes y) y).phase ≢ 0
    by d = grind (arith, effect_keeps)

-- a published phase that is not 0 stays so
pub phase_stays : (cells : List CellPlan) (c : ℕ) (e : Event) (h : List Event) → phase_at cells c h ≢ 0 → phase_at cells c (e ∷ h) ≢ 0
phase_stays cells c e h ne = back_keeps cells c (back_of_step h e.step e.line.answer) (replay cells c h) ne

-- what has a flag is not 0
pub has_none : (p : ℕ) → has p initialized ≡ true → p ≢ 0
has_none p e z = grind arith

module _ (cells : List CellPlan) where
  -- on this content the holder of a write guard sees a phase that is not 0, whatever the section stands on or by what ended
  -- in it
  abbrev IsGood : Content → Guard → Type 0
  IsGood y x = x.writes ≡ true → (y.phase ≢ 0) ⊎ HasEnded x.changes

  abbrev IsAny : Content → Section → Type 0
  IsAny y s = Unit {0}

  abbrev AllGood : List Event → Type 0
  AllGood h = AllByRecursion (λ x. IsGood (replay cells x.cell h) x) (guards h)

  -- the phase is not 0, or a section runs in the cell or a guard writes it
  abbrev pub IsHeld : List Event → ℕ → Type 0
  IsHeld h c = (phase_at cells c h ≢ 0) ⊎ (0 < write_holds c h)

  module _ (h : List Event) (p : ℕ) (alone : (c : ℕ) → IsExclusive cells h c) where
    new : (d : Deed) (f : Finds cells h p d) → NewOf cells h p alone IsAny IsAny IsGood IsGood d f
    new d f = grind (arith, has_none, accessed_there)

    good-after : (d : Deed) (f : Finds cells h p d) → AllGood h → AllByRecursion (λ x. IsGood (left_at cells h p d x.cell) x) (guards_left cells h p d)
    good-after d f k =
        guards_say cells h p alone IsAny IsAny IsGood IsGood d f
        (record { section = λ s u. u; guard = λ x u. u; beside = λ y x e u w. absurd (apart (sym w ∙ e)); reads = λ y c w. absurd (cc); sets = λ v y x u. u; new = new d f })
        (each_of (λ s. IsAny (replay cells s.cell h) s) (sections h) (λ s. tt)) k

    -- what is held is touched when it is given back
    abbrev Touches : Deed → ℕ → Content → Content → Type 0
    Touches d c y z = 0 < write_holds c h → (z.phase ≢ 0) ⊎ (0 < holds_left cells h p d c)

    stays : (d : Deed) (f : Finds cells h p d) (c : ℕ) → (GivenAt cells h p d c → ⊥) → Touches d c (replay cells c h) (replay cells c h)
    stays d f c none n = grind (arith, holding, alone, Holding, holds_left)

    dropped : (d : Deed) (g : ℕ) (x : Guard) → numbered g (guards h) ≡ Some x → AllGood h → x.writes ≡ true → Touches d x.cell (replay cells x.cell h) (effect (cell_at cells x.cell) x.changes (replay cells x.cell h))
    dropped d g x f k w n = grind (arith, each_found, effect_keeps, effect_touches)

    gives : (d : Deed) (f : Finds cells h p d) → AllGood h → GivesOf cells h p alone (Touches d) d f
    gives (Ends (Makes made)) f k = λ n. inl (effect_touches (cell_at cells f.section.cell) (Ran f.section.is_open made ∷ []) (replay cells f.section.cell h) tt)
    gives (Ends (Finishes fine left)) f k = λ n. inl (effect_touches (cell_at cells f.section.cell) (Ended fine left ∷ []) (replay cells f.section.cell h) tt)
    gives (EndsToRead v) f k = λ n. inl (effect_touches (cell_at cells f.section.cell) (Ran f.section.is_open (Some v) ∷ []) (replay cells f.section.cell h) tt)
    gives (Drops g) f k = dropped (Drops g) g f.guard f.found k
    gives (DropsToRead g) f k = dropped (DropsToRead g) g f.guard f.found k f.way
    gives d f x = grind arith

    held-after : (d : Deed) (f : Finds cells h p d) → AllGood h → (c : ℕ) → Touches d c (replay cells c h) (left_at cells h p d c)
    held-after d f k c = moves cells h p alone (Touches d) d f (stays d f) (gives d f k) c

  -- each holder of a write guard sees such a phase
  good : (h : List Event) → IsLegal cells h → AllGood h
  good [] k = tt
  good (e ∷ h) k = good-after h e.step.party (alone cells h k.2) (deed_of h e.step e.line.answer) (finds cells h e.step e.line k.0) (good h k.2)

  -- what was touched stays so
  pub held-stays : (h : List Event) (e : Event) (c : ℕ) → IsLegal cells (e ∷ h) → IsHeld h c → IsHeld (e ∷ h) c
  held-stays h e c k (inl ne) = inl (phase_stays cells c e h ne)
  held-stays h e c k (inr n) = held-after h e.step.party (alone cells h k.2) (deed_of h e.step e.line.answer) (finds cells h e.step e.line k.0) (good h k.2) c n
