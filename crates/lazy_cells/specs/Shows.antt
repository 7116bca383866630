-- What is written of a cell.
use Rattle.std.specs.Prelude.{ℕ, Bool, true, false, List, codes, Option, Some, None}

-- the value's own text, where it is told, or that there is no value
abbrev pub debug_text : {T : Type 0} → (T → Option (List ℕ)) → Option T → Option (List ℕ)
debug_text text None = Some (codes "UnInitialized")
debug_text text (Some v) = text v

-- the same of a locked cell, of which nothing is told while it is written
abbrev pub locked_text : {T : Type 0} → (T → Option (List ℕ)) → Bool → Option T → Option (List ℕ)
locked_text text true o = Some (codes "Locked")
locked_text text false o = debug_text text o
