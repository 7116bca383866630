use Rattle.std.proofs.Common.{inl, inr}
use Rattle.phase_locker.specs.Links.{listed}
use Rattle.phase_locker.proofs.Appended.{LedOn, queue_last, appended, appended_others}
use Rattle.phase_locker.proofs.links.append.Goals.{then-queue-eq0, else-queue-eq0}
use Rattle.phase_locker.proofs.links.append.Goals as goal

pub bounds-links-last : goal.bounds-links-last
bounds-links-last c = c.requires.roster.below _ (queue_last c.args.links.now c.args.queue.now _ c.requires.queue c.if-queue-eq0.false)

led_on : (c : goal.After-queue-3-1) → LedOn c.args.links.now c.args.queue.now c.args.party c.if-queue-eq0.links c.if-queue-eq0.queue
led_on c = elim c.if-queue-eq0.branch [
  | then-queue-eq0 w ↦ inl (w.if-queue-eq0.true, w.links-is, w.queue-is)
  | else-queue-eq0 w ↦ inr (w.if-queue-eq0.false, w.links-is, w.queue-is)
]

pub returns-clause-queue : goal.returns-clause-queue
returns-clause-queue c =
    appended c.args.links.now c.if-queue-eq0.links c.args.queue.now c.if-queue-eq0.queue c.args.party (listed c.args.links.now c.args.queue.now) c.requires.party c.requires.roster c.requires.apart c.requires.queue (led_on c)

pub returns-clause-others : goal.returns-clause-others
returns-clause-others c =
    appended_others c.args.links.now c.if-queue-eq0.links c.args.queue.now c.if-queue-eq0.queue c.args.party (listed c.args.links.now c.args.queue.now) c.requires.queue (led_on c)
