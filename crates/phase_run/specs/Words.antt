-- The words that the program is called with.
use Rattle.std.specs.Prelude.{ℕ, ◌≡◌, List, [], ◌∷◌, codes, ⊤}

-- the words of a call that runs a schedule: none, or the one word `schedule`
abbrev pub IsScheduleCall : List (List ℕ) → Type 0
IsScheduleCall [] = ⊤
IsScheduleCall (w ∷ []) = w ≡ codes "schedule"
IsScheduleCall (w ∷ v ∷ ws) = ⊥
