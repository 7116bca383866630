use Rattle.std.proofs.Common.{◌≡◌, length}
use Rattle.exit_registry.specs.Registry.{due}
use Rattle.exit_registry.proofs.Exiting.{Exiting}
use Rattle.exit_registry.proofs.registry.ExitRegistry.run_exit.Given as goal

abbrev pub invariant-loop-cell : goal.invariant-loop-cell
invariant-loop-cell g l =
    Exiting (λ b. (goal.Finalizable-dyn g (b.vtable, b.value)).meanings b.value) l.initial.self l.self l.initial.cells l.cells l.log.turns
    × (l.log.cells ≡ l.initial.log.cells)

abbrev pub decreases-loop-cell : goal.decreases-loop-cell
decreases-loop-cell g l = length (due l.self)
