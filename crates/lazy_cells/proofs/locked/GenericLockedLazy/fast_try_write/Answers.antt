use Rattle.std.proofs.Common.{refl}
use Rattle.lazy_cells.specs.Locked.{bars_write}
use Rattle.lazy_cells.specs.Access.{say_write, left_write, say_fast_try_write, unless_barred}
use Rattle.lazy_cells.proofs.Keeping.{then_tries}
use Rattle.lazy_cells.proofs.locked.GenericLockedLazy.fast_try_write.Goals as goal

pub returns-clause-tries : goal.returns-clause-tries
returns-clause-tries g c =
    let hard = g.P.Reach.hard in
    then_tries bars_write c.args.self.now (say_write hard) (left_write hard) (say_fast_try_write hard) (left_write hard) unless_barred (λ r x. x) (λ e. refl) (λ e x. refl) c.try_write.result c.try_write.new.self c.unless_barred.result c.try_write.new.self c.unless_barred.ensures refl c.try_write.ensures.tries
