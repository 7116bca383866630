use Rattle.std.proofs.Common.{arith}
use Rattle.phase_locker.proofs.Leaving.{write_has_no_reader}
use Rattle.phase_seq.proofs.sequentializer.LazySequentializer.go_on.Goals as goal

pub returns-in-Write-clause-reads : goal.returns-in-Write-clause-reads
returns-in-Write-clause-reads g c = omega (arith, write_has_no_reader (g.L.PhaseLocker.place c.args.self.now.locker) (g.L.PhaseLocker.held c.args.self.now.locker) c.args.parks.now c.args.cell c.requires.fits c.requires.locked)
