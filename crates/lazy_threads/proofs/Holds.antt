-- How many views have a hold of a kind: after one view changes, where one has it, where two have it, and after one more view comes.
use Rattle.std.proofs.Common.{◌++◌, ◌≡◌, ◌≢◌, ℕ, zero, suc, ◌+◌, ◌<◌, ◌≤◌, Bool, true, List, [], ◌∷◌, refl, arith, ap, sym, cond}
use Rattle.std.proofs.Math.ListN.{set}
use mathlib.Core.Option.{some, some-injective, some-ne-none}
use lib.ListN.{get_elem?}
use Rattle.lazy_threads.specs.declared.view.View.{View}
use Rattle.lazy_threads.specs.declared.view.Hold.{Hold}
use Rattle.lazy_threads.specs.Rule.{how_many}

abbrev pub one_if : Bool → ℕ
one_if b = cond b 1 0

pub how_many-set : (kind : Hold → Bool) (vs : List View) (id : ℕ) (v w : View) → get_elem? vs id ≡ some v → how_many kind (set vs id w) + one_if (kind v.hold) ≡ how_many kind vs + one_if (kind w.hold)
how_many-set kind [] id v w at = absurd (some-ne-none v (sym at))
how_many-set kind (x ∷ xs) zero v w at = let same : x ≡ v = some-injective x v at in rw same (omega arith)
how_many-set kind (x ∷ xs) (suc id) v w at = omega (arith, how_many-set kind xs id v w at)

pub how_many-one : (kind : Hold → Bool) (vs : List View) (id : ℕ) (v : View) → get_elem? vs id ≡ some v → kind v.hold ≡ true → 0 < how_many kind vs
how_many-one kind [] id v at has = absurd (some-ne-none v (sym at))
how_many-one kind (x ∷ xs) zero v at has = let same : x ≡ v = some-injective x v at in rw (same, has) (omega arith)
how_many-one kind (x ∷ xs) (suc id) v at has = omega (arith, how_many-one kind xs id v at has)

pub how_many-two : (kind : Hold → Bool) (vs : List View) (i j : ℕ) (v u : View) → i ≢ j → get_elem? vs i ≡ some v → get_elem? vs j ≡ some u → kind v.hold ≡ true → kind u.hold ≡ true → how_many kind vs ≤ 1 → ⊥
how_many-two kind [] i j v u apart at at' has has' most = some-ne-none v (sym at)
how_many-two kind (x ∷ xs) zero zero v u apart at at' has has' most = apart refl
how_many-two kind (x ∷ xs) zero (suc j) v u apart at at' has has' most =
    let same : x ≡ v = some-injective x v at in
    let rest : 1 + how_many kind xs ≤ 1 = rw (same, has) at most in
    omega (arith, rest, how_many-one kind xs j u at' has')
how_many-two kind (x ∷ xs) (suc i) zero v u apart at at' has has' most =
    let same : x ≡ u = some-injective x u at' in
    let rest : 1 + how_many kind xs ≤ 1 = rw (same, has') at most in
    omega (arith, rest, how_many-one kind xs i v at has)
how_many-two kind (x ∷ xs) (suc i) (suc j) v u apart at at' has has' most =
    how_many-two kind xs i j v u (λ e. apart (ap suc e)) at at' has has' (omega (arith, most))

pub how_many-more : (kind : Hold → Bool) (vs : List View) (w : View) → how_many kind (vs ++ w ∷ []) ≡ how_many kind vs + one_if (kind w.hold)
how_many-more kind [] w = omega arith
how_many-more kind (x ∷ xs) w = omega (arith, how_many-more kind xs w)
