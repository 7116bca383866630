use Rattle.std.proofs.Common.{refl}
use Rattle.phase_locker.proofs.Shown.{lent_writers, some_there}
use Rattle.phase_locker.proofs.parks.Parks.has_writers.Goals as goal

pub returns : goal.returns
returns c =
    let lent = lent_writers c.self.inside.rows.items c.self.inside.links.items c.self.inside.links.items c.self.inside.queues.items c.index.result.now c.args.self.now c.args.cell c.self.view_is c.self.invariant refl c.index.ensures c.requires in
    some_there c.self.inside.links.items c.index.result.now.writers _ (rw lent.is at lent.queue)
