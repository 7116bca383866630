-- Short words for cells, what they are left with, and the turns of the exit that ended.
use Rattle.std.specs.Prelude.{ℕ, true, false}
use Rattle.std.specs.declared.option.Option.{Option}
use Rattle.std.specs.declared.option.Option.TheVariants.{None, Some}
use Rattle.phase_bits.specs.Number.{phase_of}
use Rattle.lazy_cells.specs.declared.kind.Kind.{Kind}
use Rattle.lazy_cells.specs.declared.kind.Kind.TheVariants as kind
use Rattle.schedule_rules.specs.declared.plan.Place.TheVariants as place
use Rattle.schedule_rules.specs.declared.plan.CellPlan.{CellPlan}
use Rattle.exit_registry.specs.declared.turns.Turn.TheVariants as turn
use Rattle.exit_registry.specs.declared.turns.Turned.{Turned}
use Rattle.schedule_rules.specs.declared.transcript.Final.{Final}

-- ---- cells, with retry and without leak

-- of this kind, where calls spin
abbrev pub spinning : Kind → CellPlan
spinning q = record { kind = q; retry = true; leak = false; place = place.Spin; prime = 0 }

-- of this kind, where calls park
abbrev pub parking : Kind → CellPlan
parking q = record { kind = q; retry = true; leak = false; place = place.Park; prime = 0 }

-- of this kind and this party's own
abbrev pub owned : ℕ → Kind → CellPlan
owned p q = record { kind = q; retry = true; leak = false; place = place.Own p; prime = 0 }

-- the same without retry
abbrev pub once : CellPlan → CellPlan
once x = record { kind = x.kind; retry = false; leak = x.leak; place = x.place; prime = x.prime }

-- the same, that puts up with not being registered
abbrev pub leaking : CellPlan → CellPlan
leaking x = record { kind = x.kind; retry = x.retry; leak = true; place = x.place; prime = x.prime }

-- the same, with this value from the start
abbrev pub primed : ℕ → CellPlan → CellPlan
primed v x = record { kind = x.kind; retry = x.retry; leak = x.leak; place = x.place; prime = v }

-- ---- cells that are read and written

abbrev pub cell : CellPlan
cell = spinning kind.LockedLazy

abbrev pub parking_cell : CellPlan
parking_cell = parking kind.LockedLazy

abbrev pub once_cell : CellPlan
once_cell = once cell

abbrev pub parking_once_cell : CellPlan
parking_once_cell = once parking_cell

-- this party's own
abbrev pub own_cell : ℕ → CellPlan
own_cell p = owned p kind.LockedLazy

-- ---- the same, that are registered for the exit, which finalizes them

abbrev pub exit_cell : CellPlan
exit_cell = spinning kind.LockedLazyFinalize

abbrev pub parking_exit_cell : CellPlan
parking_exit_cell = parking kind.LockedLazyFinalize

abbrev pub once_exit_cell : CellPlan
once_exit_cell = once exit_cell

abbrev pub leaking_cell : CellPlan
leaking_cell = leaking exit_cell

abbrev pub parking_once_leaking_cell : CellPlan
parking_once_leaking_cell = leaking (once parking_exit_cell)

-- ---- cells without guards

abbrev pub lazy_cell : CellPlan
lazy_cell = spinning kind.Lazy

abbrev pub parking_lazy_cell : CellPlan
parking_lazy_cell = parking kind.Lazy

abbrev pub once_lazy_cell : CellPlan
once_lazy_cell = once lazy_cell

abbrev pub own_lazy_cell : ℕ → CellPlan
own_lazy_cell p = owned p kind.Lazy

-- registered for the exit
abbrev pub lazy_exit_cell : CellPlan
lazy_exit_cell = spinning kind.LazyFinalize

abbrev pub parking_lazy_exit_cell : CellPlan
parking_lazy_exit_cell = parking kind.LazyFinalize

abbrev pub leaking_lazy_cell : CellPlan
leaking_lazy_cell = leaking lazy_exit_cell

-- ---- cells whose value a finalizer drops, and cells with a value from the start

abbrev pub dropped_cell : CellPlan
dropped_cell = spinning kind.LockedLazyDroped

abbrev pub parking_dropped_cell : CellPlan
parking_dropped_cell = parking kind.LockedLazyDroped

abbrev pub primed_cell : ℕ → CellPlan
primed_cell v = primed v (spinning kind.PrimedLockedLazy)

abbrev pub parking_once_primed_cell : ℕ → CellPlan
parking_once_primed_cell v = primed v (once (parking kind.PrimedLockedLazy))

abbrev pub primed_dropped_cell : ℕ → CellPlan
primed_dropped_cell v = primed v (spinning kind.PrimedLockedLazyDroped)

abbrev pub parking_primed_dropped_cell : ℕ → CellPlan
parking_primed_dropped_cell v = primed v (parking kind.PrimedLockedLazyDroped)

-- ---- what cells are left with

abbrev pub left_with : ℕ → Option ℕ → Final
left_with p v = record { phase = phase_of p; value = v }

abbrev pub untouched : Final
untouched = left_with 0 None

-- a primed cell that no run has touched
abbrev pub untouched_with : ℕ → Final
untouched_with v = left_with 0 (Some v)

abbrev pub initialized_with : ℕ → Final
initialized_with v = left_with 1 (Some v)

abbrev pub left_failed : Final
left_failed = left_with 6 None

-- a primed cell whose run failed
abbrev pub failed_with : ℕ → Final
failed_with v = left_with 6 (Some v)

-- what cells are left with that are registered for the exit, or were refused there. The flags are those of the phases
abbrev pub registered_with : ℕ → Final
registered_with v = left_with 9 (Some v)

abbrev pub leaked_with : ℕ → Final
leaked_with v = left_with 33 (Some v)

abbrev pub left_declined : Final
left_declined = left_with 36 None

-- a primed cell whose run was declined
abbrev pub declined_with : ℕ → Final
declined_with v = left_with 36 (Some v)

abbrev pub left_registered_failed : Final
left_registered_failed = left_with 14 None

abbrev pub finalized_with : ℕ → Final
finalized_with v = left_with 73 (Some v)

-- a cell whose finalizer dropped its value
abbrev pub left_dropped : Final
left_dropped = left_with 73 None

abbrev pub finalizer_failed_with : ℕ → Final
finalizer_failed_with v = left_with 137 (Some v)

-- ---- the turns of the exit that ended

abbrev pub was_done : ℕ → Turned
was_done c = record { cell = c; turn = turn.Done }

abbrev pub was_failed : ℕ → Turned
was_failed c = record { cell = c; turn = turn.Failed }

abbrev pub was_skipped : ℕ → Turned
was_skipped c = record { cell = c; turn = turn.Skipped }
