use Rattle.phase_moves.proofs.Words.{refl}
use Rattle.phase_moves.proofs.Exiting.{skips}
use Rattle.phase_moves.proofs.rows.Rows.skip.Goals as goal

pub returns-clause-skips : goal.returns-clause-skips
returns-clause-skips g c = λ hand m t. skips g.L.PhaseLocker.held g.L.PhaseLocker.place hand m c.args.self.now t c.args.cell _ refl refl c.push_reserved.ensures.items
