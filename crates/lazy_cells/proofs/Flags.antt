-- Where the phase of a cell has INITIALIZED.
use Rattle.std.proofs.Common.{◌≡◌, ℕ, Bool, true, false, Option, Some, None, refl, ap, ◌∙◌, subst, sym, arith}
use Rattle.std.specs.Prelude.{◌==◌, ◌^◌, ◌-◌, not, if◌then◌else◌}
use Rattle.std.specs.Int.RustNames.{bit_or}
use Rattle.std.specs.Int.Bits.{and_zero_r}
use Rattle.std.proofs.lemmas.Nat.{and_assoc, and_or_self, and_or_apart}
use Rattle.phase_bits.specs.Flags.{has, without_flags, initialized}
use Rattle.phase_bits.specs.Number.{number}
use Rattle.phase_bits.specs.declared.phase.Phase.{Phase}
use Rattle.exit_registry.specs.Registry.{Registry}
use Rattle.phase_seq.specs.declared.tolerance.Tolerance.{Tolerance}
use Rattle.phase_seq.specs.Asks.{shall_init}
use Rattle.phase_seq.specs.Phases.{registration, initialization_flags}
use Rattle.phase_seq.specs.Registers.{is_refused}
use Rattle.phase_seq.specs.Direct.{enlisted, stays_at}

-- a run that succeeds sets it
pub made_has : (p : ℕ) → has (bit_or p initialized) initialized ≡ true
made_has p = rw (and_or_self 1 p) refl

-- one that fails leaves it
pub failed_lacks : (p : ℕ) → has p initialized ≡ false → has (bit_or p 6) initialized ≡ false
failed_lacks p e = ap (λ (z : ℕ). z == 1) (and_or_apart 1 p 6 refl) ∙ e

-- the flags that stay beside those of a run lack it
pub stays_lack : (p : ℕ) (is_empty is_open : Bool) → has (if is_empty then registration is_open else without_flags p initialization_flags) initialized ≡ false
stays_lack p true true = refl
stays_lack p true false = refl
stays_lack p false is_open = ap (λ (z : ℕ). z == 1) (and_assoc 1 p (2 ^ 32 - 1 - 7) ∙ and_zero_r p)

-- a run is due only where it lacks
pub due_lacks : (t : Tolerance) (p : Phase) → shall_init t p ≡ true → has (number p) initialized ≡ false
due_lacks t p = by t.retry (number p)
  where
    flip : (b : Bool) → not b ≡ true → b ≡ false
    flip false e = refl
    flip true e = absurd (cc)

    by : (retry : Bool) (n : ℕ) → (if retry then not (has n initialized) else (n == 0)) ≡ true → has n initialized ≡ false
    by true n e = flip (has n initialized) e
    by false n e = let empty : n ≡ 0 = grind arith in subst (λ (q : ℕ). has q initialized ≡ false) (sym empty) refl

-- none is due where it is there
pub there_done : (t : Tolerance) (p : Phase) → has (number p) initialized ≡ true → shall_init t p ≡ false
there_done t p e = by (shall_init t p) (due_lacks t p)
  where
    by : (b : Bool) → (b ≡ true → has (number p) initialized ≡ false) → b ≡ false
    by false f = refl
    by true f = let g : true ≡ false = sym e ∙ f refl in absurd (cc)

-- flags that stay, which lack it
abbrev pub Lacks : Option Phase → Type 0
Lacks None = Unit {0}
Lacks (Some s) = has (number s) initialized ≡ false

-- those that stay beside a registration do
pub enlisted_lack : (leak : Bool) (m : Registry) (p : Phase) → Lacks (enlisted leak (Some m) p)
enlisted_lack leak m p = by (is_refused leak (Some m) p)
  where
    by : (b : Bool) → Lacks (if b then None else Some (stays_at (Some m) p))
    by true = tt
    by false = stays_lack (number p) (number p == 0) m.is_open
