use Rattle.std.proofs.Common.{arith}
use Rattle.lazy_threads.proofs.Steps.{join-Keeps}
use Rattle.lazy_threads.proofs.table.SyncTable.join.Goals as goal

pub join_seat-requires : goal.join_seat-requires
join_seat-requires c = (c.requires.table, c.requires.other, c.args.other.no_slot, omega (arith, c.args.self.now.one_word), λ s rule at apart there. (join-Keeps _ s.views _ _ _ _ c.requires.hold rule.0 at apart there, rule.1))
