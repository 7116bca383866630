use Rattle.std.proofs.Common.{◌≡◌, arith, ap}
use Rattle.phase_seq.specs.Stands.{reads_begun}
use Rattle.phase_seq.proofs.sequentializer.LazySequentializer.settle.Goals as goal

pub returns-in-Run-clause-reads : goal.returns-in-Run-clause-reads
returns-in-Run-clause-reads g c =
    let none : reads_begun c.args.begun ≡ 0 = ap reads_begun c.in-Run.is in
    let here : c.in-Run.section.who ≡ c.args.who = (rw c.in-Run.is at c.requires.entered.stands).1 in
    omega (arith, none, rw here at c.run_or_not.ensures.reads)
