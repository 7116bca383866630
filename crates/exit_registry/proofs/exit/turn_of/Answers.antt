use Rattle.std.proofs.Common.{rules}
use Rattle.exit_registry.proofs.Boxes.{made_same}
use Rattle.exit_registry.proofs.exit.turn_of.Goals as goal

pub returns-clause-still : goal.returns-clause-still
returns-clause-still g c = λ h. let stays = c.execute.ensures.1.1 h in made_same (λ i d. record { ptr = c.args.object.now.ptr; vtable = i; alloc = c.args.object.now.alloc; value = d }) _ _ _ _ _ (search rules) stays
