-- A cell that the registry knows was touched, and is registered at most once.
use Rattle.schedule_rules.proofs.Words.{ℕ, arith, List, ◌≡◌, Bool, true, refl, Some, false, ◌∷◌, [], ◌∙◌, sym, ◌⊎◌, inl, ◌<◌, inr, length, get_or_past, get_or-set_other}
use Rattle.schedule_rules.proofs.Words.{length-replicate, get_or-replicate, AllByRecursion, ◌==◌, slice_index_or, replicate, first_of, is_known, rest_of, Registry, after_register}
use Rattle.schedule_rules.proofs.Words.{is_finalizable, CellPlan, cell_at, Deed, Event, deed_of, count, sections, runs_in, sections_by, phase_at, registry, registry_by}
use Rattle.schedule_rules.proofs.Words.{registry_taken, registry_of_run, write_holds, IsLegal}
use Rattle.schedule_rules.proofs.Facts.{apart, first}
use Rattle.schedule_rules.proofs.Held.{IsHeld, held-stays}

-- a turn that is taken leaves which are known
pub known_taken : (b : Bool) (m : Registry) (c : ℕ) → is_known (registry_taken b m) c ≡ is_known m c
known_taken true m c = refl
known_taken false m c = refl

-- what is known after a registration, was known or is registered
known_more : (c d : ℕ) (m : Registry) → is_known (after_register c m) d ≡ true → ((c == d) ≡ true) ⊎ (is_known m d ≡ true)
known_more c d m e = grind (arith, get_or-set_other)

-- no cell is known at first
pub none_known : (n c : ℕ) → slice_index_or (replicate n false) c false ≡ false
none_known n c = grind (arith, get_or-replicate, get_or_past, length-replicate)

module _ (cells : List CellPlan) where
  -- what is known after a deed, was known before, or the section that it opens is in the cell
  known_by : (c : ℕ) (h : List Event) (p : ℕ) (d : Deed) → is_known (registry_by cells h d (registry cells h)) c ≡ true
      → (is_known (registry cells h) c ≡ true) ⊎ (0 < count (runs_in c) (sections_by h p d (sections h)))
  known_by c h p d known = grind (arith, known_more, known_taken)

  -- what is known after an event was known before it, or is held after it
  known_before : (c : ℕ) (e : Event) (h : List Event) → is_known (registry cells (e ∷ h)) c ≡ true → (is_known (registry cells h) c ≡ true) ⊎ IsHeld cells (e ∷ h) c
  known_before c e h known = grind (arith, known_by, IsHeld)

  -- what the registry knows is held
  known-held : (c : ℕ) (h : List Event) → IsLegal cells h → is_known (registry cells h) c ≡ true → IsHeld cells h c
  known-held c [] k known = let none : _ = none_known (length cells) c in absurd (apart (sym known ∙ none))
  known-held c (e ∷ h) k known = elim (known_before c e h known) [ inl was ↦ held-stays cells h e c k (known-held c h k.2 was) | inr is ↦ is ]

  -- so one whose phase is 0, and that nothing holds to write, is not known
  pub fresh-unknown : (h : List Event) (c : ℕ) → IsLegal cells h → phase_at cells c h ≡ 0 → write_holds c h ≡ 0 → is_known (registry cells h) c ≡ false
  fresh-unknown h c k empty unheld = grind (arith, IsHeld, known-held)

  -- ---- what is registered is of a kind that is

  abbrev IsRegistered : ℕ → Type 0
  IsRegistered c = is_finalizable (cell_at cells c).kind ≡ true

  -- so of each cell whose turn is to come
  record AreRegistered (m : Registry) : Type 0 where
    pub pending : AllByRecursion IsRegistered m.pending
    pub left : AllByRecursion IsRegistered m.left

  registers : (c p : ℕ) (m : Registry) → AreRegistered m → AreRegistered (registry_of_run cells c p m)
  registers c p m k = grind (arith, first)

  takes : (b : Bool) (m : Registry) → AreRegistered m → AreRegistered (registry_taken b m)
  takes true m k = record { pending = k.pending; left = (elim (m.left) as (λ cs. AllByRecursion IsRegistered cs → AllByRecursion IsRegistered (rest_of cs)) [ [] ↦ λ r. tt | c ∷ cs ↦ λ r. r.1 ]) k.left }
  takes false m k = k

  registered_by : (h : List Event) (d : Deed) (m : Registry) → AreRegistered m → AreRegistered (registry_by cells h d m)
  registered_by h d m k = grind (arith, registers, takes)

  are_registered : (h : List Event) → AreRegistered (registry cells h)
  are_registered [] = record { pending = tt; left = tt }
  are_registered (e ∷ h) = registered_by h (deed_of h e.step e.line.answer) (registry cells h) (are_registered h)

  -- so the first cell left is of a kind that is registered
  pub left-finalizable : (h : List Event) (c : ℕ) → first_of (registry cells h).left ≡ Some c → is_finalizable (cell_at cells c).kind ≡ true
  left-finalizable h c e = grind (arith, are_registered)

-- a cell that is registered is one of the plan
pub finalizable-inside : (cells : List CellPlan) (c : ℕ) → is_finalizable (cell_at cells c).kind ≡ true → c < length cells
finalizable-inside cells c e = grind (arith, get_or_past)
