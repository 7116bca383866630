use Rattle.schedule_examples.proofs.GoesLegally.{goes-is-legal}
use Rattle.schedule_examples.proofs.legality.what_goes_is_legal.Goals as goal

pub returns : goal.returns
returns c = goes-is-legal
