-- A registry stays sound.
use Rattle.std.proofs.Common.{◌≡◌, ◌≢◌, ℕ, zero, suc, ◌^◌, ◌<◌, ◌≤◌, ◌==◌, Bool, true, false, cond, List, [], ◌∷◌, ◌++◌, length, refl, arith, sym, subst, inl, inr, All}
use Rattle.std.specs.Prelude.{replicate, slice_index_or}
use Rattle.std.proofs.Math.ListN.{length-set, length-replicate, get_or}
use Rattle.std.proofs.lemmas.List.{get_or-set_other, get_or-set_same}
use Rattle.std.proofs.lemmas.Bool.{cases_eq}
use Rattle.std.proofs.lemmas.List.Elements.{All-nil, All-cons}
pub use Rattle.phase_bits.proofs.Lists.{eq_self, occurs-append}
use Rattle.exit_registry.specs.Registry.{Registry, IsSound, cells_of, is_known, rest_of, occurs, new_registry, registered, looked, after_turn, due}

-- ---- how often a cell is in a list

-- two numbers differ
pub apart : (c d : ℕ) → c ≢ d → (c == d) ≡ false
apart c d n = grind arith

-- a cell that is put first is there once more
pub occurs-first : (c : ℕ) (cs : List ℕ) → occurs c (c ∷ cs) ≡ suc (occurs c cs)
occurs-first c cs = rw (eq_self c) (omega arith)

-- another cell that is put first does not count
pub occurs-other : (c d : ℕ) (cs : List ℕ) → d ≢ c → occurs c (d ∷ cs) ≡ occurs c cs
occurs-other c d cs n = rw (apart d c n) (omega arith)

-- a cell that is not in a list is not its first, and not in the rest
pub none_first : (d c : ℕ) (cs : List ℕ) → occurs d (c ∷ cs) ≡ 0 → (c ≢ d) × (occurs d cs ≡ 0)
none_first d c cs h = ((λ e. let f : occurs d (d ∷ cs) ≡ 0 = subst (λ x. occurs d (x ∷ cs) ≡ 0) e h in omega (arith, f, occurs-first d cs)), omega (arith, h))

-- ---- cells that are known

-- a known cell is one of the registry
pub known_below : (known : List Bool) (c : ℕ) → slice_index_or known c false ≡ true → c < length known
known_below [] c h = cc
known_below (k ∷ ks) zero h = omega arith
known_below (k ∷ ks) (suc c) h = omega (arith, known_below ks c h)

-- what is listed at all is known
as_known : (b : Bool) (n : ℕ) → 0 < n → n ≤ cond b 1 0 → b ≡ true
as_known true n p h = refl
as_known false n p h = absurd (omega arith)

-- cells that are listed only where they are known are below the number of cells
pub once_below : (known : List Bool) (cs : List ℕ) → ((c : ℕ) → occurs c cs ≤ cond (slice_index_or known c false) 1 0) → All (λ c. c < length known) cs
once_below known [] h = All-nil (λ c. c < length known)
once_below known (d ∷ ds) h =
    All-cons (λ c. c < length known) d ds
    (known_below known d (as_known (slice_index_or known d false) (occurs d (d ∷ ds)) (omega (arith, occurs-first d ds)) (h d)))
    (once_below known ds (λ c. omega (arith, h c)))

-- ---- the registry

-- a new registry is sound
pub sound-new : (cells : ℕ) → cells < 2 ^ 32 → IsSound (new_registry cells)
sound-new cells h = record {
  once = λ c. omega arith;
  below = All-nil (λ c. c < length (replicate cells false));
  closed = λ e. refl;
  few = omega (arith, h, length-replicate cells false);
}

-- a cell that is not known has no turn to come
pub not_due : (r : Registry) (c : ℕ) → IsSound r → is_known r c ≡ false → occurs c (due r) ≡ 0
not_due r c s u = let h = rw u at (s.once c) in omega (arith, h)

-- the registered cell is known, and comes once
registered_once : (r : Registry) (c x : ℕ) → IsSound r → c < cells_of r → is_known r c ≡ false → occurs x (due (registered c r)) ≤ cond (is_known (registered c r) x) 1 0
registered_once r c x s l u = elim (cases_eq c x) [
  | inl e ↦ subst (λ y. occurs y (due (registered c r)) ≤ cond (is_known (registered c r) y) 1 0) e
      (rw (get_or-set_same r.known c true false l) (omega (arith, not_due r c s u, occurs-append c r.left r.pending, occurs-append c r.left (c ∷ r.pending), occurs-first c r.pending)))
  | inr n ↦ rw (get_or-set_other r.known c x true false (λ e. n (sym e))) (omega (arith, s.once x, occurs-append x r.left r.pending, occurs-append x r.left (c ∷ r.pending), occurs-other x c r.pending n))
]

-- it stays sound when a cell is registered
pub sound-registered : (r : Registry) (c : ℕ) → IsSound r → c < cells_of r → is_known r c ≡ false → r.is_open ≡ true → IsSound (registered c r)
sound-registered r c s l u o = record {
  once = λ x. registered_once r c x s l u;
  below = once_below (registered c r).known (due (registered c r)) (λ x. registered_once r c x s l u);
  closed = λ e. absurd (cc);
  few = omega (arith, s.few, length-set r.known c true);
}

-- a look moves the cells
looked_once : (r : Registry) (x : ℕ) → IsSound r → r.left ≡ [] → occurs x (due (looked r)) ≤ cond (is_known r x) 1 0
looked_once r x s e = let h = rw e at (s.once x) in omega (arith, h, occurs-append x r.pending [])

-- it stays sound at a look
pub sound-looked : (r : Registry) → IsSound r → r.left ≡ [] → IsSound (looked r)
sound-looked r s e = record {
  once = λ x. looked_once r x s e;
  below = once_below r.known (due (looked r)) (λ x. looked_once r x s e);
  closed = λ c. refl;
  few = s.few;
}

-- no cell comes more often when a turn is taken
rest_occurs : (x : ℕ) (cs ds : List ℕ) → occurs x (rest_of cs ++ ds) ≤ occurs x (cs ++ ds)
rest_occurs x [] ds = omega arith
rest_occurs x (c ∷ cs) ds = omega arith

-- so no cell comes more often than it did
turn_once : (r : Registry) (x : ℕ) → IsSound r → occurs x (due (after_turn r)) ≤ cond (is_known r x) 1 0
turn_once r x s = omega (arith, s.once x, rest_occurs x r.left r.pending)

-- it stays sound at a turn
pub sound-after_turn : (r : Registry) → IsSound r → IsSound (after_turn r)
sound-after_turn r s = record {
  once = λ x. turn_once r x s;
  below = once_below r.known (due (after_turn r)) (λ x. turn_once r x s);
  closed = s.closed;
  few = s.few;
}
