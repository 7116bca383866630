use Rattle.std.proofs.Common.{◌≡◌, ap}
use Rattle.std.proofs.Math.ListN.{set}
use Rattle.phase_locker.specs.Rows.{put, row_of}
use Rattle.phase_locker.specs.Links.{IsShown}
use Rattle.phase_locker.proofs.Sound.{free_unparked}
use Rattle.phase_locker.proofs.Shown.{shown_value, shown_plain, shown_kept, shown_seen}
use Rattle.phase_locker.proofs.parks.Parks.put.Goals as goal

old : (c : goal.After-self-1) → IsShown c.self.inside.links.items c.self.inside.queues.items c.args.self.now × (c.self.inside.rows.items ≡ c.args.self.now.rows)
old c = shown_value c.self.inside.rows.items c.self.inside.links.items c.self.inside.queues.items c.args.self.now c.self.view_is c.self.invariant

new : (c : goal.After-self-1) → IsShown c.self.inside.links.items c.self.inside.queues.items (put c.args.waiting c.args.cell c.args.party c.args.self.now)
new c = shown_plain c.self.inside.links.items c.self.inside.queues.items c.args.self.now c.args.party (record { waiting = c.args.waiting; cell = c.args.cell }) (old c).0 c.requires.party (free_unparked (row_of c.args.self.now c.args.party) c.requires.free) c.requires.waiting

pub invariant_of-self : goal.invariant_of-self
invariant_of-self c = shown_kept _ c.self.inside.links.items c.self.inside.queues.items _ (ap (λ x. set x c.args.party (record { waiting = c.args.waiting; cell = c.args.cell })) (old c).1) (new c)

pub returns : goal.returns
returns c = shown_seen _ c.self.inside.links.items c.self.inside.queues.items _ (ap (λ x. set x c.args.party (record { waiting = c.args.waiting; cell = c.args.cell })) (old c).1) (new c)
