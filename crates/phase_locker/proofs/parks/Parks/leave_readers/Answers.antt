use Rattle.std.proofs.Common.{◌≡◌, ◌++◌, arith, ap, take, drop, length}
use Rattle.std.proofs.Math.ListN.{set}
use Rattle.std.proofs.lemmas.List.{take_at}
use Rattle.phase_locker.specs.declared.ways.Waiting.TheVariants as way
use Rattle.phase_locker.specs.Rows.{Rows, left}
use Rattle.phase_locker.specs.Links.{IsShown}
use Rattle.phase_locker.proofs.Shown.{shown_kept, shown_seen, lent_readers, reader_gone, reader_inside}
use Rattle.phase_locker.proofs.parks.Parks.leave_readers.Goals as goal

pub index_mut-requires : goal.index_mut-requires
index_mut-requires c = omega (arith, reader_inside c.self.inside.rows.items c.self.inside.links.items c.self.inside.queues.items c.args.self.now c.args.cell c.args.party c.self.view_is c.self.invariant c.requires.cell c.requires.parked)

pub unlink-requires-clause-queue : goal.unlink-requires-clause-queue
unlink-requires-clause-queue c = (lent_readers c.self.inside.rows.items c.self.inside.links.items c.deref_mut.result.now c.self.inside.queues.items c.index_mut-2.result.now c.args.self.now c.args.cell c.self.view_is c.self.invariant c.deref_mut.ensures.value c.index_mut-2.ensures.value c.requires.cell).queue

pub unlink-requires-clause-roster : goal.unlink-requires-clause-roster
unlink-requires-clause-roster c = (lent_readers c.self.inside.rows.items c.self.inside.links.items c.deref_mut.result.now c.self.inside.queues.items c.index_mut-2.result.now c.args.self.now c.args.cell c.self.view_is c.self.invariant c.deref_mut.ensures.value c.index_mut-2.ensures.value c.requires.cell).roster

pub unlink-requires-clause-member : goal.unlink-requires-clause-member
unlink-requires-clause-member c =
    let lent = lent_readers c.self.inside.rows.items c.self.inside.links.items c.deref_mut.result.now c.self.inside.queues.items c.index_mut-2.result.now c.args.self.now c.args.cell c.self.view_is c.self.invariant c.deref_mut.ensures.value c.index_mut-2.ensures.value c.requires.cell in
    rw lent.is c.requires.parked

links_now : (c : goal.After-self-3-1) → take c.self.inside.links.len (c.unlink.new.links ++ drop (length c.unlink.new.links) c.self.inside.links.items) ≡ c.unlink.new.links
links_now c = take_at c.unlink.new.links (drop (length c.unlink.new.links) c.self.inside.links.items) c.self.inside.links.len (omega (arith, c.unlink.auto.links, c.deref_mut.ensures.len))

rows_now : (c : goal.After-self-3-1) → set c.self.inside.rows.items c.args.party (record { waiting = way.Free; cell = 0 }) ≡ set c.args.self.now.rows c.args.party (record { waiting = way.Free; cell = 0 })
rows_now c = ap (λ x. set x c.args.party (record { waiting = way.Free; cell = 0 })) (ap (λ (t : Rows). t.rows) c.self.view_is)

new : (c : goal.After-self-3-1) → IsShown c.unlink.new.links (set c.self.inside.queues.items c.args.cell (record { readers = c.unlink.new.queue; writers = c.index_mut-2.result.now.writers })) (left way.ParkedRead c.args.cell c.args.party c.args.self.now)
new c =
    reader_gone c.self.inside.rows.items c.self.inside.links.items c.deref_mut.result.now c.self.inside.queues.items c.index_mut-2.result.now c.args.self.now c.args.cell c.self.view_is c.self.invariant c.deref_mut.ensures.value c.index_mut-2.ensures.value c.requires.cell
    c.unlink.new.links c.unlink.new.queue c.args.party c.unlink.auto.links c.requires.parked c.unlink.ensures.queue c.unlink.ensures.others

pub invariant_of-self : goal.invariant_of-self
invariant_of-self c = rw (links_now c) (shown_kept _ _ _ _ (rows_now c) (new c))

pub returns : goal.returns
returns c = rw (links_now c) (shown_seen _ _ _ _ (rows_now c) (new c))
