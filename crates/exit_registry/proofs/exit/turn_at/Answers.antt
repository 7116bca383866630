use Rattle.exit_registry.proofs.Exiting.{turned_at, set_others}
use Rattle.exit_registry.proofs.exit.turn_at.Goals as goal

pub returns-clause-turned : goal.returns-clause-turned
returns-clause-turned g c =
    turned_at _ _ _ c.args.cells.now c.index-cells-cell.result c.turn_of-turn.new.object c.requires (record { answers = c.turn_of-turn.ensures.answers; leaves = c.turn_of-turn.ensures.leaves; still = c.turn_of-turn.ensures.still })

pub returns-clause-others : goal.returns-clause-others
returns-clause-others g c = set_others c.args.cell c.args.cells.now c.turn_of-turn.new.object
