use Rattle.std.proofs.Common.{arith, refl}
use Rattle.std.proofs.Math.ListN.{get_or}
use Rattle.atomic_table.specs.Table.{keeps}
use Rattle.lazy_threads.specs.Views.{loaded}
use Rattle.lazy_threads.proofs.Steps.{steps, loaded-Keeps, finds}
use Rattle.lazy_threads.proofs.table.SyncTable.load.Goals as goal

pub load-found-requires : goal.load-found-requires
load-found-requires c = (
  c.requires,
  omega (arith, c.args.self.now.one_word),
  λ s rule size at small.
      let word = get_or s.words 0 0 in let v = c.args.seat.now.token.me.0 in
      (loaded word v, keeps, tt, steps s _ word _ rule.1 (loaded-Keeps word s.views _ v rule.0 at), (refl, finds _ _ _ _ rule.0 at)),
)
