use Rattle.lazy_cells.specs.StartAll.{AreStarted}
use Rattle.lazy_cells.proofs.start_list.start_all.Given as goal

-- the cells before this place were started
abbrev pub invariant-loop-index : goal.invariant-loop-index
invariant-loop-index g l =
    AreStarted (λ b. (goal.Lesser-dyn g (b.vtable, b.value)).standing b.value) (λ b. (goal.Lesser-dyn g (b.vtable, b.value)).may_run b.value) l.index l.initial.cells l.cells l.initial.reg l.reg
