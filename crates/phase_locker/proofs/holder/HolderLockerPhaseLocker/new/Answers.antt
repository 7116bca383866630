use Rattle.phase_locker.proofs.Fresh.{new_fits}
use Rattle.phase_locker.proofs.holder.HolderLockerPhaseLocker.new.Goals as goal

pub returns-clause-fits : goal.returns-clause-fits
returns-clause-fits c = λ cells parties cell. new_fits c.args.kind c.args.phase cells parties cell
