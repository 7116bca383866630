use Rattle.phase_moves.proofs.Words.{◌∙◌, ap, Registry}
use Rattle.phase_moves.proofs.Exiting.{looks}
use Rattle.phase_moves.proofs.rows.Rows.look.Goals as goal

pub look-requires : goal.look-requires
look-requires g c = ap (λ (r : Registry). r.left) c.requires.stands.exit.registry_is ∙ c.requires.none_left

pub returns-clause-looks : goal.returns-clause-looks
returns-clause-looks g c = λ hand m t. looks g.L.PhaseLocker.held g.L.PhaseLocker.place hand m c.args.self.now t c.look.result _ c.look.ensures.look c.look.ensures.after
