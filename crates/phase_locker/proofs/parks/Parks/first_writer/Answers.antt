use Rattle.std.proofs.Common.{◌≡◌, ◌∙◌, refl}
use Rattle.phase_locker.specs.Rows.{writers_of}
use Rattle.phase_locker.specs.Rows.{first_of}
use Rattle.phase_locker.proofs.Shown.{shown_value, lent_writers, first_is, first_once, first_none}
use Rattle.phase_locker.proofs.Sound.{writers_roster}
use Rattle.phase_locker.proofs.parks.Parks.first_writer.Goals as goal

pub returns-clause-first : goal.returns-clause-first
returns-clause-first c =
    let lent = lent_writers c.self.inside.rows.items c.self.inside.links.items c.self.inside.links.items c.self.inside.queues.items c.index.result.now c.args.self.now c.args.cell c.self.view_is c.self.invariant refl c.index.ensures c.requires in
    c.then_some.ensures ∙ first_is c.self.inside.links.items c.index.result.now.writers _ (rw lent.is at lent.queue)

pub returns-clause-writer : goal.returns-clause-writer
returns-clause-writer c =
    let lent = lent_writers c.self.inside.rows.items c.self.inside.links.items c.self.inside.links.items c.self.inside.queues.items c.index.result.now c.args.self.now c.args.cell c.self.view_is c.self.invariant refl c.index.ensures c.requires in
    let first : c.then_some.result ≡ first_of (writers_of c.args.self.now c.args.cell) = c.then_some.ensures ∙ first_is c.self.inside.links.items c.index.result.now.writers _ (rw lent.is at lent.queue) in
    rw first (first_once _ (writers_of c.args.self.now c.args.cell) (writers_roster c.args.self.now c.args.cell (shown_value c.self.inside.rows.items c.self.inside.links.items c.self.inside.queues.items c.args.self.now c.self.view_is c.self.invariant).0.sound c.requires))

pub returns-clause-nobody : goal.returns-clause-nobody
returns-clause-nobody c =
    let lent = lent_writers c.self.inside.rows.items c.self.inside.links.items c.self.inside.links.items c.self.inside.queues.items c.index.result.now c.args.self.now c.args.cell c.self.view_is c.self.invariant refl c.index.ensures c.requires in
    let first : c.then_some.result ≡ first_of (writers_of c.args.self.now c.args.cell) = c.then_some.ensures ∙ first_is c.self.inside.links.items c.index.result.now.writers _ (rw lent.is at lent.queue) in
    rw first (first_none (writers_of c.args.self.now c.args.cell))
