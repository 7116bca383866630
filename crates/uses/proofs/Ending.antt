-- The turns of an exit over one object that is initialized, and that nobody holds.
use Rattle.std.proofs.Common.{◌≡◌, ℕ, zero, suc, true, false, [], ◌∷◌, Some, refl, ap, ◌∙◌}
use Rattle.std.specs.Prelude.{List, slice_get}
use Rattle.exit_registry.specs.declared.turns.Turn.{Turn}
use Rattle.exit_registry.specs.declared.turns.Turn.TheVariants.{Skipped, Done, Failed, Busy}
use Rattle.exit_registry.specs.declared.turns.Turned.{Turned}
use Rattle.exit_registry.specs.Exits.{HasTurnedAt}
use Rattle.exit_registry.specs.Turns.{Meanings, Answers, is_still}

-- such an object has no turn that runs no finalizer
ends_by : (x : Meanings) (t : Turn) → x.initialized ≡ true → x.held ≡ false → Answers x t → is_still t ≡ false
ends_by x Skipped i h a = absurd (cc)
ends_by x Busy i h (a, b) = absurd (cc)
ends_by x Done i h a = refl
ends_by x Failed i h a = refl

-- it is the only one
only : {X : Type 0} (b x : X) (k : ℕ) → slice_get (b ∷ []) k ≡ Some x → x ≡ b
only b x zero e = cc
only b x (suc k) e = absurd (cc)

pub ends : {X : Type 0} (m : X → Meanings) (b : X) (new : List X) (t : Turned) → HasTurnedAt m t (b ∷ []) new → (m b).initialized ≡ true → (m b).held ≡ false → is_still t.turn ≡ false
ends m b new t h i f =
    let same = only b h.before t.cell h.was in
    ends_by (m h.before) t.turn (ap (λ x. (m x).initialized) same ∙ i) (ap (λ x. (m x).held) same ∙ f) h.turned.answers
