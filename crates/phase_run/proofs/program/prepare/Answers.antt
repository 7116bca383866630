use Rattle.phase_run.proofs.Handed.{is_ready}
use Rattle.phase_run.proofs.program.prepare.Goals as goal

pub returns-clause-ready : goal.returns-clause-ready
returns-clause-ready g c = is_ready _ _ _ _ _ c.in_ok-text.ensures.fits c.in_ok-text.ensures.whole c.in_ok-run.ensures.begun c.in-Ok.ensures
