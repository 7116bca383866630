-- The cells of a plan.
use Rattle.std.specs.Prelude.{ℕ, Bool, true, false, not, List, ◌==◌, ◌&&◌, slice_index_or, nat_lt}
use Rattle.phase_seq.specs.declared.tolerance.Tolerance.{Tolerance}
use Rattle.lazy_cells.specs.declared.kind.Kind.{Kind}
use Rattle.lazy_cells.specs.declared.kind.Kind.TheVariants as kind
use Rattle.schedule_rules.specs.declared.plan.CellPlan.{CellPlan}
use Rattle.schedule_rules.specs.declared.plan.Place.{Place}
use Rattle.schedule_rules.specs.declared.plan.Place.TheVariants as place

-- a cell that no plan has
abbrev pub no_cell : CellPlan
no_cell = record { kind = kind.LockedLazy; retry = true; leak = false; place = place.Spin; prime = 0 }

-- the cell with this number
abbrev pub cell_at : List CellPlan → ℕ → CellPlan
cell_at cells c = slice_index_or cells c no_cell

-- what a cell of this plan puts up with
abbrev pub tolerance_of : CellPlan → Tolerance
tolerance_of x = record { retry = x.retry; leak = x.leak }

-- what the cell with this number puts up with
abbrev pub tolerance_at : List CellPlan → ℕ → Tolerance
tolerance_at cells c = tolerance_of (cell_at cells c)

-- barred calls of the cell park
abbrev pub is_parking : Place → Bool
is_parking place.Park = true
is_parking place.Spin = false
is_parking (place.Own p) = false

-- the cell belongs to a party
abbrev pub is_owned : Place → Bool
is_owned place.Park = false
is_owned place.Spin = false
is_owned (place.Own p) = true

-- the cell belongs to another party
abbrev pub is_of_other : Place → ℕ → Bool
is_of_other place.Park p = false
is_of_other place.Spin p = false
is_of_other (place.Own q) p = not (q == p)

-- cells of this kind may belong to a party
abbrev pub may_be_owned : Kind → Bool
may_be_owned kind.Lazy = true
may_be_owned kind.LockedLazy = true
may_be_owned _ = false

-- so many parties may have a cell of this kind at this place: one that belongs to a party belongs to one of them
abbrev pub is_placed : ℕ → Kind → Place → Bool
is_placed parties q place.Park = true
is_placed parties q place.Spin = true
is_placed parties q (place.Own p) = may_be_owned q && nat_lt p parties
