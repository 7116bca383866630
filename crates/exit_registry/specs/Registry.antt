-- The cells that are registered for the exit, and the rounds in which it takes them.
use Rattle.std.specs.Prelude.{◌≡◌, ℕ, ◌^◌, ◌<◌, ◌≤◌, Bool, true, false, ◌&&◌, not, if◌then◌else◌, List, [], ◌∷◌, ◌++◌, length, replicate, slice_index_or, slice_set, All}
pub use Rattle.phase_bits.specs.Lists.{is_empty, first_of, occurs}
use Rattle.exit_registry.specs.declared.registry.Look.{Look}
use Rattle.exit_registry.specs.declared.registry.Look.TheVariants.{Round, Closed}

-- the cells registered since the last look, in the order in which the next look would take them;
-- the cells left of the last look, in the order of their turns;
-- for each cell whether it was ever registered; and whether cells may still be registered
pub record Registry : Type 0 where
  pub pending : List ℕ
  pub left : List ℕ
  pub known : List Bool
  pub is_open : Bool

-- the number of cells that it was made for
abbrev pub cells_of : Registry → ℕ
cells_of r = length r.known

-- this cell was registered
abbrev pub is_known : Registry → ℕ → Bool
is_known r c = slice_index_or r.known c false

-- ---- lists

-- all but the first
abbrev pub rest_of : List ℕ → List ℕ
rest_of [] = []
rest_of (c ∷ cs) = cs

-- ---- registration and rounds

-- an open registry of which no cell is registered
abbrev pub new_registry : ℕ → Registry
new_registry cells = record { pending = []; left = []; known = replicate cells false; is_open = true }

-- the order of a round: a cell that is registered goes before those that were registered since the last look
abbrev pub round_with : ℕ → List ℕ → List ℕ
round_with c cs = c ∷ cs

-- the cell is registered
abbrev pub registered : ℕ → Registry → Registry
registered c r = record { pending = round_with c r.pending; left = r.left; known = slice_set r.known c true; is_open = r.is_open }

-- where it is closed no cell is registered
abbrev pub after_register : ℕ → Registry → Registry
after_register c r = if r.is_open then registered c r else r

-- what a look answers where these cells were registered since the last one
abbrev pub look_at : List ℕ → Look
look_at [] = Closed
look_at (c ∷ cs) = Round (length (c ∷ cs))

-- the cells registered since the last look are left; where there are none the registry is closed
abbrev pub looked : Registry → Registry
looked r = record { pending = []; left = r.pending; known = r.known; is_open = not (is_empty r.pending) && r.is_open }

-- the first of the cells left has its turn
abbrev pub after_turn : Registry → Registry
after_turn r = record { pending = r.pending; left = rest_of r.left; known = r.known; is_open = r.is_open }

-- the cells whose turns are still to come, in order: those left, then those of the next look
abbrev pub due : Registry → List ℕ
due r = r.left ++ r.pending

-- ---- what always holds

-- a turn is to come at most once for a cell, and for registered cells alone;
-- so all of them are below the number of cells;
-- a closed registry has no cell for a next look
pub record IsSound (r : Registry) : Type 0 where
  pub once : (c : ℕ) → occurs c (due r) ≤ (if is_known r c then 1 else 0)
  pub below : All (λ c. c < cells_of r) (due r)
  pub closed : r.is_open ≡ false → r.pending ≡ []
  pub few : cells_of r < 2 ^ 32
