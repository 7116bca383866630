use Rattle.std.proofs.Common.{◌≡◌, ◌∙◌, ◌-◌, refl, arith, sym, ap}
use Rattle.phase_locker.specs.Rows.{shared}
use Rattle.phase_locker.proofs.Sharing.{walk_end, shared_none, shared_more, below_first, below_rest}
use Rattle.phase_locker.proofs.links.share.Goals as goal

pub loop-init : goal.loop-init
loop-init c =
    let all : c.args.queue.count - 0 ≡ c.args.queue.count = omega arith in
    rw all (record { shares = refl; below = c.requires.roster.below })

pub bounds-rows-party : goal.bounds-rows-party
bounds-rows-party c = omega (arith, c.loop.auto.rows, below_first c.args.queue.count c.loop.counter c.loop.party _ c.args.links.now c.loop-test.true c.loop.invariant.below)

pub bounds-links-party : goal.bounds-links-party
bounds-links-party c = omega (arith, c.requires.same, below_first c.args.queue.count c.loop.counter c.loop.party _ c.args.links.now c.loop-test.true c.loop.invariant.below)

pub loop-preserved : goal.loop-preserved
loop-preserved c = record {
  shares = sym (shared_more c.args.cell c.args.queue.count c.loop.counter c.loop.party c.args.links.now c.loop.rows c.loop-test.true) ∙ c.loop.invariant.shares;
  below = below_rest c.args.queue.count c.loop.counter c.loop.party _ c.args.links.now c.loop-test.true c.loop.invariant.below;
}

pub returns : goal.returns
returns c =
    let none = walk_end c.args.queue.count c.loop.counter c.args.links.now c.loop.party (omega (arith, c.loop-test.false)) in
    sym (shared_none c.args.cell c.loop.rows) ∙ ap (λ ps. shared c.args.cell ps c.loop.rows) (sym none) ∙ c.loop.invariant.shares
