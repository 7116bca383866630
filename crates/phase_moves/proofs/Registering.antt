-- A cell is registered where a run of its generator begins, and not where the run is refused.
use Rattle.phase_moves.proofs.Words.{arith, ◌≡◌, ℕ, ◌==◌, refl, Bool, true, false, ◌∙◌, ap, sym, not, ◌&&◌, ◌||◌, Some, if◌then◌else◌, has, number, Phase, Registry}
use Rattle.phase_moves.proofs.Words.{after_register, registered as registered_in, flags_generate, flags_staying, registered_of_phases as registered}
use Rattle.phase_moves.proofs.Words.{registration, after_asking, is_refused}

open_flag : (o : Bool) → has (registration o) registered ≡ false → o ≡ false
open_flag o e = grind (arith, e)

neither : (a b : Bool) → (a || b) ≡ false → a ≡ false
neither a b e = grind (arith, e)

-- a call that is refused at an empty phase met a closed registry
refused_closed : (leak o : Bool) (n : ℕ) → (n == 0) ≡ true → not (flags_generate leak (flags_staying o n)) ≡ true → o ≡ false
refused_closed leak o n z e = grind (arith, z, e)

closed_stays : (c : ℕ) (m : Registry) → m.is_open ≡ false → after_register c m ≡ m
closed_stays c m e = ap (λ b. if b then registered_in c m else m) e

module _ (leak : Bool) (m : Registry) (c : ℕ) (p : Phase) where
  nothing : (runs z : Bool) → (number p == 0) ≡ z → not (flags_generate leak (flags_staying m.is_open (number p))) ≡ true → (if runs && z then after_register c m else m) ≡ m
  nothing runs z is e = grind (arith, is, e, closed_stays c m, refused_closed leak m.is_open (number p))

  -- the registry is as after a run that begins
  pub asked_as_run : (runs b : Bool) → b ≡ (if is_refused leak (Some m) p then false else runs) → after_asking runs c p m ≡ after_asking b c p m
  asked_as_run runs b e = by (is_refused leak (Some m) p) refl e where
    by : (r : Bool) → is_refused leak (Some m) p ≡ r → b ≡ (if r then false else runs) → after_asking runs c p m ≡ after_asking b c p m
    by true is f = nothing runs (number p == 0) refl is ∙ sym (ap (λ d. if d && (number p == 0) then after_register c m else m) f)
    by false is f = ap (λ d. if d && (number p == 0) then after_register c m else m) (sym f)

pub some_same : {X : Type 0} (x y : X) → Some x ≡ Some y → x ≡ y
some_same x y e = cc
