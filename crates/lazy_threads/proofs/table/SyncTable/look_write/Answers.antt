use Rattle.std.proofs.Common.{arith, refl, cond, ◌==◌, ◌+◌, ◌^◌}
use Rattle.std.proofs.Math.ListN.{get_or}
use Rattle.atomic_table.specs.Table.{keeps}
use Rattle.lazy_threads.specs.Views.{loaded, looked_write}
use Rattle.lazy_threads.proofs.Moves.{free_write}
use Rattle.lazy_threads.proofs.Steps.{exchanges, looked_write-Keeps, finds}
use Rattle.lazy_threads.proofs.table.SyncTable.look_write.Goals as goal

pub compare_exchange-found-requires : goal.compare_exchange-found-requires
compare_exchange-found-requires c =
    let free = free_write _ c.requires.free in (
      c.requires.table,
      omega (arith, c.args.self.now.one_word),
      λ s rule size at small.
          let word = get_or s.words 0 0 in let v = c.args.seat.now.token.me.0 in
          (cond (word == c.args.expected) (looked_write word v) (loaded word v), keeps, tt, exchanges s _ v c.args.expected (c.args.expected + 2 ^ 29) (λ n. looked_write n v) rule at (λ k. looked_write-Keeps c.args.expected s.views _ v c.requires.hold free.0 free.1 k at), (refl, finds _ _ _ _ rule.0 at)),
    )
