-- What the kinds of cells are.
use Rattle.std.specs.Prelude.{Bool, true, false, ◌&&◌, ◌||◌, not}
use Rattle.phase_bits.specs.declared.phase.Phase.{Phase}
use Rattle.phase_bits.specs.Flags.{has, initialized}
use Rattle.phase_bits.specs.Number.{number}
use Rattle.phase_seq.specs.Phases.{finalized_flag, finalization_panicked}
use Rattle.lazy_cells.specs.declared.kind.Kind.{Kind}
use Rattle.lazy_cells.specs.declared.kind.Kind.TheVariants.{Lazy, LazyFinalize, LockedLazy, LockedLazyFinalize, LockedLazyDroped, PrimedLockedLazy, PrimedLockedLazyDroped}

-- cells of this kind have no lock that a user holds
abbrev pub is_plain : Kind → Bool
is_plain Lazy = true
is_plain LazyFinalize = true
is_plain LockedLazy = false
is_plain LockedLazyFinalize = false
is_plain LockedLazyDroped = false
is_plain PrimedLockedLazy = false
is_plain PrimedLockedLazyDroped = false

-- they hold a value from the start
abbrev pub is_primed : Kind → Bool
is_primed Lazy = false
is_primed LazyFinalize = false
is_primed LockedLazy = false
is_primed LockedLazyFinalize = false
is_primed LockedLazyDroped = false
is_primed PrimedLockedLazy = true
is_primed PrimedLockedLazyDroped = true

-- they are registered for the exit
abbrev pub is_finalizable : Kind → Bool
is_finalizable Lazy = false
is_finalizable LazyFinalize = true
is_finalizable LockedLazy = false
is_finalizable LockedLazyFinalize = true
is_finalizable LockedLazyDroped = true
is_finalizable PrimedLockedLazy = false
is_finalizable PrimedLockedLazyDroped = true

-- a finalizer takes their value out of reach
abbrev pub is_hard : Kind → Bool
is_hard Lazy = false
is_hard LazyFinalize = false
is_hard LockedLazy = false
is_hard LockedLazyFinalize = false
is_hard LockedLazyDroped = true
is_hard PrimedLockedLazy = false
is_hard PrimedLockedLazyDroped = true

-- the value of a cell of this kind that nobody else uses is lent to its user
abbrev pub lends_value : Kind → Bool
lends_value Lazy = true
lends_value LazyFinalize = false
lends_value LockedLazy = true
lends_value LockedLazyFinalize = false
lends_value LockedLazyDroped = false
lends_value PrimedLockedLazy = false
lends_value PrimedLockedLazyDroped = false

-- a finalizer ran at some time before this phase
abbrev pub is_finalized : Phase → Bool
is_finalized p = has (number p) finalized_flag || has (number p) finalization_panicked

-- the value is in reach at this phase, where a finalizer takes it out of reach or not
abbrev pub is_within_reach : Bool → Phase → Bool
is_within_reach hard p = has (number p) initialized && not (hard && is_finalized p)

-- the value of a cell of this kind may be reached at this phase
abbrev pub is_accessible : Kind → Phase → Bool
is_accessible k p = is_within_reach (is_hard k) p
