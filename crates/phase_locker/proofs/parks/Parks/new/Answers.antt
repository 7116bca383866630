use Rattle.std.proofs.Common.{rules}
use Rattle.phase_locker.specs.Rows.{no_rows}
use Rattle.phase_locker.proofs.Shown.{shown_kept, shown_seen, shown_made}
use Rattle.phase_locker.proofs.parks.Parks.new.Goals as goal

pub invariant_of-result : goal.invariant_of-result
invariant_of-result c =
    shown_kept _ c.in_ok-links.links.items c.in_ok-queues.queues.items (no_rows c.args.cells c.args.parties) (c.in_ok-rows.ensures.items_if_clones_equal (search rules))
    (shown_made _ _ c.args.cells c.args.parties c.requires (c.in_ok-links.ensures.items_if_clones_equal (search rules)) (c.in_ok-queues.ensures.items_if_clones_equal (search rules)))

pub returns : goal.returns
returns c =
    shown_seen _ c.in_ok-links.links.items c.in_ok-queues.queues.items (no_rows c.args.cells c.args.parties) (c.in_ok-rows.ensures.items_if_clones_equal (search rules))
    (shown_made _ _ c.args.cells c.args.parties c.requires (c.in_ok-links.ensures.items_if_clones_equal (search rules)) (c.in_ok-queues.ensures.items_if_clones_equal (search rules)))
