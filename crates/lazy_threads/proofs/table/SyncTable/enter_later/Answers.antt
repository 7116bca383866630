use Rattle.std.proofs.Common.{◌≡◌, refl, sym, ◌∙◌}
use Rattle.lazy_threads.specs.Calls.{Enters, nature_got}
use Rattle.lazy_threads.specs.Seats.{view_of}
use Rattle.lazy_threads.proofs.Entering.{waits_first, waits_more, enters_later}
use Rattle.lazy_threads.proofs.table.SyncTable.enter_later.Goals as goal
use Rattle.lazy_threads.proofs.table.SyncTable.enter_later.Goals.{in-None, in-Some+in-Some-try_enter}

pub loop-init : goal.loop-init
loop-init g c = (tt, tt, record { table = refl; id = refl }, record { trail = refl; recorded = refl }, waits_first _ c.requires.hold)

pub returns-clause-enters : goal.returns-clause-enters
returns-clause-enters g c =
    elim c.match-next.branch as (λ x. Enters (λ p n. g.F.Fn.post c.args.how.now (p, tt) n) (view_of c.args.seat.now) (view_of c.match-next.seat) (nature_got c.unwrap.result)) [
      | in-None w ↦ absurd (let never = rw w.in-None.is at c.next.ensures.steps in cc)
      | in-Some+in-Some-try_enter w ↦
          let found : w.in-Some-try_enter.found ≡ c.unwrap.result = let e = sym w.got-is ∙ c.unwrap.ensures in cc in
          rw (w.seat-is, ← found) (enters_later _ _ _ _ _ c.loop.invariant.4 w.in-Some-try_enter.ensures.enters)
    ]

pub loop-preserved : goal.loop-preserved
loop-preserved g c =
    let was = c.loop.invariant.2 in let counts = c.loop.invariant.3 in
    let now = c.in_default.ensures.seat in let counted = c.in_default.ensures.counts in
    (tt, tt, record { table = now.table ∙ was.table; id = now.id ∙ was.id }, record { trail = counted.trail ∙ counts.trail; recorded = counted.recorded ∙ counts.recorded }, waits_more _ _ _ _ c.loop.invariant.4 c.in_default.ensures.misses)
