-- The registry is open as long as a cell may be registered, and knows of each cell whether it was registered.
use Rattle.schedule_rules.proofs.Words.{ℕ, arith, List, ◌≡◌, Bool, true, refl, false, ◌∷◌, [], ◌∙◌, length, not, length-replicate, length-set, closed, Registry, after_register}
use Rattle.schedule_rules.proofs.Words.{CellPlan, Deed, Event, deed_of, accepts, closed_by, is_closed, registry, registry_by, registry_taken, registry_of_run, IsLegal}
use Rattle.schedule_rules.proofs.Finds.{Finds, finds}

-- a registration changes neither whether the registry is open nor of how many cells it knows
module _ (m : Registry) (c : ℕ) where
  length_registered : length (after_register c m).known ≡ length m.known
  length_registered = grind (arith, length-set)

length_taken : (b : Bool) (m : Registry) → length (registry_taken b m).known ≡ length m.known
length_taken true m = refl
length_taken false m = refl

module _ (cells : List CellPlan) where
  -- nor does a run
  module _ (c p : ℕ) (m : Registry) where
    length_run : length (registry_of_run cells c p m).known ≡ length m.known
    length_run = grind (arith, length_registered)

  module _ (h : List Event) where
    length_by : (d : Deed) (m : Registry) → length (registry_by cells h d m).known ≡ length m.known
    length_by d m = grind (arith, length_run, length_taken)

    module _ (p : ℕ) where
      opens : (d : Deed) → Finds cells h p d → (registry cells h).is_open ≡ accepts h → (registry_by cells h d (registry cells h)).is_open ≡ not (closed_by d (is_closed h))
      opens d f e = grind arith

      closes : (d : Deed) → Finds cells h p d → (is_closed h ≡ true → registry cells h ≡ closed (registry cells h)) → closed_by d (is_closed h) ≡ true
          → registry_by cells h d (registry cells h) ≡ closed (registry_by cells h d (registry cells h))
      closes d f k e = grind arith

  -- the registry knows of each cell of the plan whether it was registered
  pub known-length : (h : List Event) → length (registry cells h).known ≡ length cells
  known-length [] = length-replicate (length cells) false
  known-length (e ∷ h) = length_by h (deed_of h e.step e.line.answer) (registry cells h) ∙ known-length h

  -- it is open exactly where a cell may be registered
  pub open-accepts : (h : List Event) → IsLegal cells h → (registry cells h).is_open ≡ accepts h
  open-accepts [] k = refl
  open-accepts (e ∷ h) k = opens h e.step.party (deed_of h e.step e.line.answer) (finds cells h e.step e.line k.0) (open-accepts h k.2)

  -- once a look found no cell, none is left and none can be registered
  pub closed-registry : (h : List Event) → IsLegal cells h → is_closed h ≡ true → registry cells h ≡ closed (registry cells h)
  closed-registry [] k e = absurd (cc)
  closed-registry (x ∷ h) k e = closes h x.step.party (deed_of h x.step x.line.answer) (finds cells h x.step x.line k.0) (closed-registry h k.2) e

  -- and the registry stays as it is
  pub closed-stays : (h : List Event) (e : Event) → IsLegal cells h → is_closed h ≡ true → registry cells (e ∷ h) ≡ registry cells h
  closed-stays h e k is = grind (arith, closed-registry)
