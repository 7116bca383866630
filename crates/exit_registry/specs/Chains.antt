-- Rows, each with the number of the next cell of its round.
use Rattle.std.specs.Prelude.{ℕ, zero, suc, ◌+◌, ◌≤◌, Bool, false, List, [], ◌∷◌, map, count_by, slice_index_or}
use Rattle.exit_registry.specs.declared.registry.Row.{Row}
use Rattle.exit_registry.specs.declared.registry.Chain.{Chain}
use Rattle.exit_registry.specs.Registry.{Registry, IsSound}

-- the row of a cell that was not registered
abbrev pub unknown : Row
unknown = record { known = false; next = 0 }

-- the row of this cell
abbrev pub row_at : List Row → ℕ → Row
row_at rows c = slice_index_or rows c unknown

-- so many cells from this one on
unfoldable pub walk : ℕ → List Row → ℕ → List ℕ
walk zero rows c = []
walk (suc n) rows c = c ∷ walk n rows (row_at rows c).next

-- the cells of a round
abbrev pub cells_in : List Row → Chain → List ℕ
cells_in rows chain = walk chain.count rows chain.first

-- what is seen of the rows
abbrev pub seen : List Row → Chain → Chain → Bool → Registry
seen rows pending left is_open = record {
  pending = cells_in rows pending;
  left = cells_in rows left;
  known = map (λ r. r.known) rows;
  is_open = is_open;
}

-- what is kept: a sound registry, with no more cells in its rounds than were registered
pub record IsKept (rows : List Row) (pending left : Chain) (is_open : Bool) : Type 0 where
  pub sound : IsSound (seen rows pending left is_open)
  pub room : pending.count + left.count ≤ count_by (λ r. r.known) rows
