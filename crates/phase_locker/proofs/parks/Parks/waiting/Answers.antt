use Rattle.phase_locker.proofs.Shown.{shown_value}
use Rattle.phase_locker.proofs.parks.Parks.waiting.Goals as goal

pub returns-clause-sound : goal.returns-clause-sound
returns-clause-sound c = (shown_value c.self.inside.rows.items c.self.inside.links.items c.self.inside.queues.items c.args.self.now c.self.view_is c.self.invariant).0.sound
