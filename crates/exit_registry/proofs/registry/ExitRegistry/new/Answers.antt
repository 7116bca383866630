use Rattle.std.proofs.Common.{◌≡◌, arith, rules, replicate}
use Rattle.exit_registry.specs.Chains.{unknown}
use Rattle.exit_registry.proofs.Walks.{new_kept}
use Rattle.exit_registry.proofs.registry.ExitRegistry.new.Goals as goal

rows_are : (c : goal.In_ok-rows) → c.in_ok-rows.rows.items ≡ replicate c.args.cells unknown
rows_are c = c.in_ok-rows.ensures.items_if_clones_equal (search rules)

pub invariant_of-result : goal.invariant_of-result
invariant_of-result c = (new_kept c.args.cells c.in_ok-rows.rows.items (rows_are c) (omega arith)).1

pub returns : goal.returns
returns c = (new_kept c.args.cells c.in_ok-rows.rows.items (rows_are c) (omega arith)).0
