use Rattle.phase_moves.proofs.Words.{refl, ◌<◌, length, arith}
use Rattle.phase_moves.proofs.Setting.{puts, set_inside}
use Rattle.phase_moves.proofs.rows.Rows.set.Goals as goal

pub index_mut-requires : goal.index_mut-requires
index_mut-requires g c = let lt : c.args.cell < length c.args.self.now.cells.items = set_inside g.L.PhaseLocker.held g.L.PhaseLocker.place _ c.args.self.now _ _ c.args.value _ c.requires.is c.requires.at in grind arith

pub returns-clause-sets : goal.returns-clause-sets
returns-clause-sets g c = λ m k x is at.
    puts g.L.PhaseLocker.held g.L.PhaseLocker.place m c.args.self.now k c.args.cell c.args.value x is at _ c.index_mut.result.now _ c.index_mut.ensures.value refl refl refl refl refl refl
