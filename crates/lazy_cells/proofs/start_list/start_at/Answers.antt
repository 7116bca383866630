use Rattle.lazy_cells.proofs.Lists.{started_at}
use Rattle.lazy_cells.proofs.start_list.start_at.Goals as goal

pub returns : goal.returns
returns g c =
    started_at _ _ c.args.index c.args.cells.now c.index-cells-index.result c.start_of.new.cell c.start_of.result c.args.reg.now c.start_of.new.reg c.requires.inside c.start_of.ensures.starts c.start_of.ensures.again
