-- The phases that a cell can have are known: they have no bit above the eight flags.
use Rattle.phase_moves.proofs.Words.{ℕ, ◌<◌, List, [], ◌∷◌, arith, Bool, true, false, None, Some, is_finalizable, tolerance_of, Option, and_le_l, or_of_8, if◌then◌else◌}
use Rattle.phase_moves.proofs.Words.{IsKnown, phase_of, final_outcome, flags_finalized, flags_reached, flags_staying, outcome, CellPlan, Want, flags_kept, phase_reached}
use Rattle.phase_moves.proofs.Words.{NoRun, Content, Change, Ran, Asked, Put, RanIfAsked, Ended, asks_to_lend, content_after, content_of_run, effect, is_declined, stays_in}

-- the flags that stay beside those of a run
staying_known : (is_open : Bool) (p : ℕ) → p < 256 → flags_staying is_open p < 256
staying_known is_open p k = grind (arith, and_le_l)

kept_known : (x : CellPlan) (is_open : Bool) (p : ℕ) → p < 256 → flags_kept x.kind is_open p < 256
kept_known x is_open p k = elim (is_finalizable x.kind) as (λ b. (if b then flags_staying is_open p else 0) < 256) [ true ↦ staying_known is_open p k | false ↦ omega arith ]

-- those of a section that runs
pub stays_known : (x : CellPlan) (w : Want) (is_open : Bool) (p : ℕ) → IsKnown (phase_of p) → IsKnown (stays_in x w is_open p)
stays_known x w is_open p known = grind (arith, kept_known)

-- the flags that a run and a finalizer reach
reached_known : (stays : ℕ) (made : Bool) → stays < 256 → flags_reached stays made < 256
reached_known stays made k = or_of_8 stays (outcome made) k ((elim made as (λ b. outcome b < 256) [ true ↦ omega arith | false ↦ omega arith ]))

finalized_known : (p : ℕ) (fine : Bool) → p < 256 → flags_finalized p fine < 256
finalized_known p fine k = or_of_8 p (final_outcome fine) k ((elim fine as (λ b. final_outcome b < 256) [ true ↦ omega arith | false ↦ omega arith ]))

-- a change keeps it
pub change_known : (x : CellPlan) (ch : Change) (y : Content) → IsKnown (phase_of y.phase) → IsKnown (phase_of (content_after x ch y).phase)
change_known x (Ran is_open (Some v)) y k = record { below = reached_known (flags_kept x.kind is_open y.phase) true (kept_known x is_open y.phase k.below) }
change_known x (Ran is_open None) y k = record { below = reached_known (flags_kept x.kind is_open y.phase) false (kept_known x is_open y.phase k.below) }
change_known x (Asked is_open c) y k = by (is_declined x.kind (tolerance_of x) c is_open y.phase) where
  by : (b : Bool) → IsKnown (phase_of (if b then record { phase = phase_reached x.kind is_open y.phase NoRun; value = y.value } else y).phase)
  by b = grind arith
change_known x (Put v) y k = k
change_known x (RanIfAsked is_open made) y k = by (asks_to_lend x.kind (tolerance_of x) y.phase) made where
  by : (b : Bool) (o : Option ℕ) → IsKnown (phase_of (if b then content_of_run x.kind is_open o y else y).phase)
  by true (Some v) = record { below = reached_known (flags_kept x.kind is_open y.phase) true (kept_known x is_open y.phase k.below) }
  by true None = record { below = reached_known (flags_kept x.kind is_open y.phase) false (kept_known x is_open y.phase k.below) }
  by false o = k
change_known x (Ended fine left) y k = record { below = finalized_known y.phase fine k.below }

-- so do changes one after another
pub effect_known : (x : CellPlan) (chs : List Change) (y : Content) → IsKnown (phase_of y.phase) → IsKnown (phase_of (effect x chs y).phase)
effect_known x [] y k = k
effect_known x (ch ∷ chs) y k = change_known x ch (effect x chs y) (effect_known x chs y k)
