use Rattle.std.proofs.Common.{◌≡◌, ◌∙◌, ◌++◌, List, arith, ap, sym, take, drop, length}
use Rattle.std.proofs.Math.ListN.{set}
use Rattle.std.proofs.lemmas.List.{take_at}
use Rattle.phase_locker.specs.declared.ways.Row.{Row}
use Rattle.phase_locker.specs.Rows.{Rows, readers_of, shared, rows_to_readers}
use Rattle.phase_locker.specs.Links.{IsShown}
use Rattle.phase_locker.proofs.Shown.{shown_kept, shown_seen, lent_readers, readers_given, as_many}
use Rattle.phase_locker.proofs.parks.Parks.give_readers.Goals as goal

pub share-requires-clause-same : goal.share-requires-clause-same
share-requires-clause-same c = as_many c.self.inside.rows.items c.self.inside.links.items c.deref.result.now c.self.inside.queues.items c.index.result.now c.args.self.now c.args.cell c.self.view_is c.self.invariant c.deref.ensures.value c.index.ensures c.requires ∙ ap (λ (x : List Row). length x) (sym c.deref_mut.ensures.value)

pub share-requires-clause-roster : goal.share-requires-clause-roster
share-requires-clause-roster c =
    let lent = lent_readers c.self.inside.rows.items c.self.inside.links.items c.deref.result.now c.self.inside.queues.items c.index.result.now c.args.self.now c.args.cell c.self.view_is c.self.invariant c.deref.ensures.value c.index.ensures c.requires in
    let same : length c.deref_mut.result.now ≡ length c.deref.result.now = ap (λ (x : List Row). length x) c.deref_mut.ensures.value ∙ sym (as_many c.self.inside.rows.items c.self.inside.links.items c.deref.result.now c.self.inside.queues.items c.index.result.now c.args.self.now c.args.cell c.self.view_is c.self.invariant c.deref.ensures.value c.index.ensures c.requires) in
    rw same lent.roster

rows_now : (c : goal.After-self-2-1) → take c.self.inside.rows.len (c.share.new.rows ++ drop (length c.share.new.rows) c.self.inside.rows.items) ≡ shared c.args.cell (readers_of c.args.self.now c.args.cell) c.args.self.now.rows
rows_now c =
    let lent = lent_readers c.self.inside.rows.items c.self.inside.links.items c.deref.result.now c.self.inside.queues.items c.index.result.now c.args.self.now c.args.cell c.self.view_is c.self.invariant c.deref.ensures.value c.index.ensures c.requires in
    take_at c.share.new.rows (drop (length c.share.new.rows) c.self.inside.rows.items) c.self.inside.rows.len (omega (arith, c.share.auto.rows, c.deref_mut.ensures.len))
    ∙ c.share.ensures
    ∙ ap (λ ps. shared c.args.cell ps c.deref_mut.result.now) lent.is
    ∙ ap (λ r. shared c.args.cell (readers_of c.args.self.now c.args.cell) r) (c.deref_mut.ensures.value ∙ ap (λ (t : Rows). t.rows) c.self.view_is)

new : (c : goal.After-self-2-1) → IsShown c.self.inside.links.items (set c.self.inside.queues.items c.args.cell (record { readers = record { count = 0; first = 0; last = 0 }; writers = c.index_mut.result.now.writers })) (rows_to_readers c.args.cell c.args.self.now)
new c = readers_given c.self.inside.rows.items c.self.inside.links.items c.deref.result.now c.self.inside.queues.items c.index_mut.result.now c.args.self.now c.args.cell c.self.view_is c.self.invariant c.deref.ensures.value c.index_mut.ensures.value c.requires

pub invariant_of-self : goal.invariant_of-self
invariant_of-self c = shown_kept _ _ _ _ (rows_now c) (new c)

pub returns-clause-rows : goal.returns-clause-rows
returns-clause-rows c = shown_seen _ _ _ _ (rows_now c) (new c)

pub returns-clause-count : goal.returns-clause-count
returns-clause-count c = (lent_readers c.self.inside.rows.items c.self.inside.links.items c.deref.result.now c.self.inside.queues.items c.index.result.now c.args.self.now c.args.cell c.self.view_is c.self.invariant c.deref.ensures.value c.index.ensures c.requires).count

pub returns-clause-few : goal.returns-clause-few
returns-clause-few c = (lent_readers c.self.inside.rows.items c.self.inside.links.items c.deref.result.now c.self.inside.queues.items c.index.result.now c.args.self.now c.args.cell c.self.view_is c.self.invariant c.deref.ensures.value c.index.ensures c.requires).few
