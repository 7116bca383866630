use Rattle.std.proofs.Common.{refl}
use Rattle.phase_locker.proofs.Shown.{shown_value, lent_readers, some_there}
use Rattle.phase_locker.proofs.parks.Parks.has_readers.Goals as goal

pub returns-clause-readers : goal.returns-clause-readers
returns-clause-readers c =
    let lent = lent_readers c.self.inside.rows.items c.self.inside.links.items c.self.inside.links.items c.self.inside.queues.items c.index.result.now c.args.self.now c.args.cell c.self.view_is c.self.invariant refl c.index.ensures c.requires in
    some_there c.self.inside.links.items c.index.result.now.readers _ (rw lent.is at lent.queue)

pub returns-clause-sound : goal.returns-clause-sound
returns-clause-sound c = (shown_value c.self.inside.rows.items c.self.inside.links.items c.self.inside.queues.items c.args.self.now c.self.view_is c.self.invariant).0.sound
