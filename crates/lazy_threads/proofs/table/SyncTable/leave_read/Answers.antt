use Rattle.std.proofs.Common.{arith, refl, ◌+◌, ◌-◌, ◌%◌, ◌^◌}
use Rattle.std.proofs.Math.ListN.{get_or}
use Rattle.atomic_table.specs.Table.{keeps}
use Rattle.lazy_threads.specs.Views.{left_read}
use Rattle.lazy_threads.proofs.Steps.{steps, left_read-Keeps, one_less, finds, some_reader}
use Rattle.lazy_threads.proofs.table.SyncTable.leave_read.Goals as goal

pub fetch_sub-requires : goal.fetch_sub-requires
fetch_sub-requires c = (
  c.requires.table,
  omega (arith, c.args.self.now.one_word),
  λ s rule size at small.
      let word = get_or s.words 0 0 in let v = c.args.seat.now.token.me.0 in
      let any = some_reader word s.views _ v c.requires.hold rule.0 at in
      let next = (word + (2 ^ 64 - 256)) % 2 ^ 64 in
      (left_read word v, keeps, tt, steps s _ next _ rule.1 (left_read-Keeps word next s.views _ v c.requires.hold (one_less word rule.0.below any) rule.0 at), (refl, finds _ _ _ _ rule.0 at)),
)
