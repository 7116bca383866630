use Rattle.std.proofs.Common.{refl}
use Rattle.lazy_cells.specs.Locked.{bars_read}
use Rattle.lazy_cells.specs.Access.{say_read, left_read, say_fast_try_read, unless_barred}
use Rattle.lazy_cells.proofs.Keeping.{then_tries}
use Rattle.lazy_cells.proofs.locked.GenericLockedLazy.fast_try_read.Goals as goal

pub returns-clause-tries : goal.returns-clause-tries
returns-clause-tries g c =
    let hard = g.P.Reach.hard in
    then_tries bars_read c.args.self.now (say_read hard) (left_read hard) (say_fast_try_read hard) (left_read hard) unless_barred (λ r x. x) (λ e. refl) (λ e x. refl) c.try_read.result c.try_read.new.self c.unless_barred.result c.try_read.new.self c.unless_barred.ensures refl c.try_read.ensures.tries
