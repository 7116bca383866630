use Rattle.phase_moves.proofs.Words.{refl}
use Rattle.phase_moves.proofs.Opening.{pushed_rests}
use Rattle.phase_moves.proofs.rows.Rows.push.Goals as goal

pub returns-clause-pushes : goal.returns-clause-pushes
returns-clause-pushes g c = λ m t is. pushed_rests g.L.PhaseLocker.held g.L.PhaseLocker.place m c.args.self.now _ c.args.row t is c.push_reserved.ensures.items refl refl refl refl
