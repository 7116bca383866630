use Rattle.std.proofs.Common.{◌≡◌, arith, ◌∙◌, ap}
use Rattle.phase_locker.specs.Fits.{open_reads}
use Rattle.phase_locker.proofs.Leaving.{write_has_no_reader}
use Rattle.phase_seq.specs.Stands.{reads_begun, reads_finished}
use Rattle.phase_seq.proofs.Settled.{at_once_reads}
use Rattle.phase_seq.proofs.sequentializer.LazySequentializer.run_or_not.Goals as goal

pub returns-clause-reads : goal.returns-clause-reads
returns-clause-reads g c =
    let none : open_reads (g.L.PhaseLocker.held c.args.self.now.locker) c.args.parks.now c.args.section.who.cell ≡ 0 =
    omega (arith, write_has_no_reader (g.L.PhaseLocker.place c.args.self.now.locker) (g.L.PhaseLocker.held c.args.self.now.locker) c.args.parks.now c.args.section.who.cell c.requires.entered.fits c.requires.entered.stands.2.locked) in
    let begun : reads_begun c.at_once.result ≡ reads_finished c.go_on-finished.result.0 = ap reads_begun c.at_once.ensures ∙ at_once_reads c.go_on-finished.result.0 in
    omega (arith, none, begun, c.go_on-finished.ensures.reads)
