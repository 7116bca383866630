use Rattle.std.proofs.Common.{arith, refl, ◌≡◌, ◌<◌, ◌%◌, ◌+◌}
use Rattle.std.proofs.Math.ListN.{get_or}
use Rattle.atomic_table.specs.Table.{keeps}
use Rattle.lazy_threads.specs.Views.{downgraded}
use Rattle.lazy_threads.proofs.Steps.{steps, downgraded-Keeps, finds_own}
use Rattle.lazy_threads.proofs.table.SyncTable.downgrade.Goals as goal

pub swap-requires : goal.swap-requires
swap-requires c =
    let phase = c.bits.result in
    let known : phase < 256 = rw c.bits.ensures c.requires.phase.known.below in
    let lasts : (c.args.seat.now.token.me.0.entered % 2 ≡ 1 → phase % 2 ≡ 1) = rw c.bits.ensures c.requires.phase.lasts in (
      c.requires.table,
      omega (arith, c.args.self.now.one_word),
      λ s rule size at small.
          let word = get_or s.words 0 0 in let v = c.args.seat.now.token.me.0 in
          (downgraded word (phase + 256) v, keeps, tt, steps s _ (phase + 256) _ rule.1 (downgraded-Keeps word phase s.views _ v c.requires.hold known lasts rule.0 at), (refl, finds_own _ _ _ _ c.requires.hold rule.0 at)),
    )
