use Rattle.std.proofs.Common.{arith}
use Rattle.lazy_threads.proofs.Steps.{split-Keeps}
use Rattle.lazy_threads.proofs.table.SyncTable.split.Goals as goal

pub split_seat-requires : goal.split_seat-requires
split_seat-requires c = (c.requires, omega (arith, c.args.self.now.one_word), λ s rule at. (split-Keeps _ s.views _ _ rule.0 at, rule.1))
