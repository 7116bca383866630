-- Boxes of one type of cell that is not registered for the exit.
use Rattle.std.proofs.Common.{◌≡◌, ◌≢◌, ℕ, Option, Some, None, false, inl, inr, sym, ap, ◌∙◌}
use Rattle.std.specs.Prelude.{◌⊎◌}
use Rattle.std.specs.declared.dyn_box.DynBox.{DynBox}
use Rattle.exit_registry.specs.Registry.{Registry}
use Rattle.lazy_cells.specs.Startup.{Standing, MayStart, is_own}

module _ {A : Type 0} {D : Unit {0} ⊎ ⊥ → Type 0} where
  -- none has a number
  abbrev pub NoNumber : (DynBox (Unit {0} ⊎ ⊥) A D → Option ℕ) → Type 0
  NoNumber num = (x : DynBox (Unit {0} ⊎ ⊥) A D) → (d : D (inl tt)) → num (record { ptr = x.ptr; vtable = inl tt; alloc = x.alloc; value = d }) ≡ None

  no_number : (num : DynBox (Unit {0} ⊎ ⊥) A D → Option ℕ) → NoNumber num → (x : DynBox (Unit {0} ⊎ ⊥) A D) → num x ≡ None
  no_number num h x = go x.vtable x.value
    where
      go : (v : Unit {0} ⊎ ⊥) (d : D v) → num (record { ptr = x.ptr; vtable = v; alloc = x.alloc; value = d }) ≡ None
      go (inl tt) d = h x d
      go (inr e) d = absurd e

  -- it may be started beside any registry, wherever it is
  pub may_start : (st : DynBox (Unit {0} ⊎ ⊥) A D → Standing) (E : ℕ → DynBox (Unit {0} ⊎ ⊥) A D → Type 0) (m : Registry) → NoNumber (λ x. (st x).cell) → (k : ℕ) (x : DynBox (Unit {0} ⊎ ⊥) A D) → E k x → MayStart (st x) m
  may_start st E m h k x e = record { may = λ c f. let g : Some c ≡ None = sym f ∙ no_number (λ y. (st y).cell) h x in absurd (cc) }

  -- their numbers are distinct
  pub are_distinct : (num : DynBox (Unit {0} ⊎ ⊥) A D → Option ℕ) (E F : ℕ → DynBox (Unit {0} ⊎ ⊥) A D → Type 0) → NoNumber num → (j k : ℕ) → j ≢ k → (x y : DynBox (Unit {0} ⊎ ⊥) A D) → E j x → F k y → (c : ℕ) → num y ≡ Some c → is_own (num x) c ≡ false
  are_distinct num E F h j k n x y ex ey c f = ap (λ (o : Option ℕ). is_own o c) (no_number num h x)
