use Rattle.std.proofs.Common.{arith, refl, cond, ◌==◌, ◌+◌, ◌^◌}
use Rattle.std.proofs.Math.ListN.{get_or}
use Rattle.atomic_table.specs.Table.{keeps}
use Rattle.lazy_threads.specs.Views.{loaded, entered_write}
use Rattle.lazy_threads.proofs.Moves.{free_write}
use Rattle.lazy_threads.proofs.Steps.{exchanges, entered_write-Keeps, finds}
use Rattle.lazy_threads.proofs.table.SyncTable.enter_write.Goals as goal

pub compare_exchange-found-requires : goal.compare_exchange-found-requires
compare_exchange-found-requires c =
    let free = free_write _ c.requires.free in (
      c.requires.table,
      omega (arith, c.args.self.now.one_word),
      λ s rule size at small.
          let word = get_or s.words 0 0 in let v = c.args.seat.now.token.me.0 in
          (cond (word == c.args.judged) (entered_write word v) (loaded word v), keeps, tt, exchanges s _ v c.args.judged (c.args.judged + 2 ^ 29) (λ n. entered_write n v) rule at (λ k. entered_write-Keeps c.args.judged s.views _ v c.requires.hold free.0 free.1 k at), (refl, finds _ _ _ _ rule.0 at)),
    )
