use Rattle.phase_moves.proofs.Exiting.{owns}
use Rattle.phase_moves.proofs.rows.Rows.own.Goals as goal

pub returns-clause-owns : goal.returns-clause-owns
returns-clause-owns g c = λ hand m t. owns g.L.PhaseLocker.held g.L.PhaseLocker.place hand m c.args.self.now t c.args.party
