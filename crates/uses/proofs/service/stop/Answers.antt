use Rattle.uses.proofs.Ending.{ends}
use Rattle.uses.proofs.service.stop.Goals as goal

pub returns-clause-ended : goal.returns-clause-ended
returns-clause-ended g c =
    λ k d l. ends _ _ _ _ (c.run_exit.ensures.turns k d l) c.requires.started c.requires.free
