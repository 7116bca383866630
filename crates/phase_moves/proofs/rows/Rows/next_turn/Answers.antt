use Rattle.phase_moves.proofs.Exiting.{takes_turn}
use Rattle.phase_moves.proofs.rows.Rows.next_turn.Goals as goal

pub returns-clause-takes : goal.returns-clause-takes
returns-clause-takes g c = λ hand m t. takes_turn g.L.PhaseLocker.held g.L.PhaseLocker.place hand m c.args.self.now t c.next_turn.result _ c.next_turn.ensures.cell c.next_turn.ensures.after c.next_turn.ensures.sound.0
