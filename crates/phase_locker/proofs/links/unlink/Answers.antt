use Rattle.std.proofs.Common.{inl, inr, arith}
use Rattle.phase_locker.specs.Links.{listed}
use Rattle.phase_locker.proofs.Unlinked.{LedPast, LedBack, neighbours, passed_last, unlinked, unlinked_others}
use Rattle.phase_locker.specs.Links.{link_of}
use Rattle.phase_locker.proofs.links.unlink.Goals.{then-queue-party, else-queue-party, then-queue-party-2, else-queue-party-2}
use Rattle.phase_locker.proofs.links.unlink.Goals as goal

pub bounds-links-link : goal.bounds-links-link
bounds-links-link c =
    c.requires.roster.below _ ((neighbours c.args.links.now c.args.queue.now c.args.party _ c.requires.queue c.requires.roster (omega (arith, c.requires.member))).0 c.if-queue-party.false)

led_past : (c : goal.After-struct_known-else-queue-party-2-1) → LedPast c.args.links.now c.args.queue.now c.args.party c.if-queue-party.links c.if-queue-party.queue
led_past c = elim c.if-queue-party.branch [
  | then-queue-party w ↦ inl (w.if-queue-party.true, w.links-is, w.queue-is)
  | else-queue-party w ↦ inr (w.if-queue-party.false, w.links-is, w.queue-is)
]

pub bounds-links-link-else-queue-party-2 : goal.bounds-links-link-else-queue-party-2
bounds-links-link-else-queue-party-2 c =
    let same = passed_last c.args.links.now c.if-queue-party.links c.args.queue.now c.if-queue-party.queue c.args.party (led_past c) in
    let beside = neighbours c.args.links.now c.args.queue.now c.args.party (listed c.args.links.now c.args.queue.now) c.requires.queue c.requires.roster (omega (arith, c.requires.member)) in
    omega (arith, same.1, c.requires.roster.below _ (beside.1 (λ e. c.if-queue-party-2.false (omega (arith, same.0, e)))))

past : (c : goal.After-queue-2-1) → LedPast c.args.links.now c.args.queue.now c.args.party c.if-queue-party.links c.if-queue-party.queue
past c = elim c.if-queue-party.branch [
  | then-queue-party w ↦ inl (w.if-queue-party.true, w.links-is, w.queue-is)
  | else-queue-party w ↦ inr (w.if-queue-party.false, w.links-is, w.queue-is)
]

back : (c : goal.After-queue-2-1) → LedBack c.if-queue-party.links c.if-queue-party.queue c.args.party (link_of c.args.links.now c.args.party) c.if-queue-party-2.links c.if-queue-party-2.queue
back c = elim c.if-queue-party-2.branch [
  | then-queue-party-2 w ↦ inl (w.if-queue-party-2.true, w.links-is, w.queue-is)
  | else-queue-party-2 w ↦ inr (w.if-queue-party-2.false, w.links-is, w.queue-is)
]

pub returns-clause-queue : goal.returns-clause-queue
returns-clause-queue c =
    unlinked c.args.links.now c.if-queue-party.links c.if-queue-party-2.links c.args.queue.now c.if-queue-party.queue c.if-queue-party-2.queue c.args.party (past c) (back c) _ c.requires.queue c.requires.roster (omega (arith, c.requires.member))

pub returns-clause-others : goal.returns-clause-others
returns-clause-others c =
    unlinked_others c.args.links.now c.if-queue-party.links c.if-queue-party-2.links c.args.queue.now c.if-queue-party.queue c.if-queue-party-2.queue c.args.party (listed c.args.links.now c.args.queue.now) c.requires.queue c.requires.roster (omega (arith, c.requires.member)) (past c) (back c)
