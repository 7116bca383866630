use Rattle.std.proofs.Common.{◌≡◌, ◌++◌, arith, ap, take, drop, length}
use Rattle.std.proofs.Math.ListN.{set}
use Rattle.std.proofs.lemmas.List.{take_at}
use Rattle.phase_locker.specs.declared.ways.Waiting.TheVariants as way
use Rattle.phase_locker.specs.Rows.{Rows, park_writer}
use Rattle.phase_locker.specs.Links.{IsShown}
use Rattle.phase_locker.proofs.Sound.{unlisted_writer}
use Rattle.phase_locker.proofs.Shown.{shown_value, shown_kept, shown_seen, lent_writers, writer_parked}
use Rattle.phase_locker.proofs.parks.Parks.park_writer.Goals as goal

pub append-requires-clause-queue : goal.append-requires-clause-queue
append-requires-clause-queue c = (lent_writers c.self.inside.rows.items c.self.inside.links.items c.deref_mut.result.now c.self.inside.queues.items c.index_mut-2.result.now c.args.self.now c.args.cell c.self.view_is c.self.invariant c.deref_mut.ensures.value c.index_mut-2.ensures.value c.requires.cell).queue

pub append-requires-clause-roster : goal.append-requires-clause-roster
append-requires-clause-roster c = (lent_writers c.self.inside.rows.items c.self.inside.links.items c.deref_mut.result.now c.self.inside.queues.items c.index_mut-2.result.now c.args.self.now c.args.cell c.self.view_is c.self.invariant c.deref_mut.ensures.value c.index_mut-2.ensures.value c.requires.cell).roster

pub append-requires-clause-apart : goal.append-requires-clause-apart
append-requires-clause-apart c =
    let lent = lent_writers c.self.inside.rows.items c.self.inside.links.items c.deref_mut.result.now c.self.inside.queues.items c.index_mut-2.result.now c.args.self.now c.args.cell c.self.view_is c.self.invariant c.deref_mut.ensures.value c.index_mut-2.ensures.value c.requires.cell in
    let k = (shown_value c.self.inside.rows.items c.self.inside.links.items c.self.inside.queues.items c.args.self.now c.self.view_is c.self.invariant).0 in
    rw lent.is (unlisted_writer c.args.self.now c.args.party c.args.cell k.sound c.requires.cell c.requires.free)

pub append-requires-clause-few : goal.append-requires-clause-few
append-requires-clause-few c = (lent_writers c.self.inside.rows.items c.self.inside.links.items c.deref_mut.result.now c.self.inside.queues.items c.index_mut-2.result.now c.args.self.now c.args.cell c.self.view_is c.self.invariant c.deref_mut.ensures.value c.index_mut-2.ensures.value c.requires.cell).few

links_now : (c : goal.After-self-3-1) → take c.self.inside.links.len (c.append.new.links ++ drop (length c.append.new.links) c.self.inside.links.items) ≡ c.append.new.links
links_now c = take_at c.append.new.links (drop (length c.append.new.links) c.self.inside.links.items) c.self.inside.links.len (omega (arith, c.append.auto.links, c.deref_mut.ensures.len))

rows_now : (c : goal.After-self-3-1) → set c.self.inside.rows.items c.args.party (record { waiting = way.ParkedWrite; cell = c.args.cell }) ≡ set c.args.self.now.rows c.args.party (record { waiting = way.ParkedWrite; cell = c.args.cell })
rows_now c = ap (λ x. set x c.args.party (record { waiting = way.ParkedWrite; cell = c.args.cell })) (ap (λ (t : Rows). t.rows) c.self.view_is)

new : (c : goal.After-self-3-1) → IsShown c.append.new.links (set c.self.inside.queues.items c.args.cell (record { readers = c.index_mut-2.result.now.readers; writers = c.append.new.queue })) (park_writer c.args.cell c.args.party c.args.self.now)
new c =
    writer_parked c.self.inside.rows.items c.self.inside.links.items c.deref_mut.result.now c.self.inside.queues.items c.index_mut-2.result.now c.args.self.now c.args.cell c.self.view_is c.self.invariant c.deref_mut.ensures.value c.index_mut-2.ensures.value c.requires.cell
    c.append.new.links c.append.new.queue c.args.party c.append.auto.links c.requires.party c.requires.free c.append.ensures.queue c.append.ensures.others

pub invariant_of-self : goal.invariant_of-self
invariant_of-self c = rw (links_now c) (shown_kept _ _ _ _ (rows_now c) (new c))

pub returns : goal.returns
returns c = rw (links_now c) (shown_seen _ _ _ _ (rows_now c) (new c))
