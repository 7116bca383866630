use Rattle.phase_acts.proofs.Words.{false, no_writer, refl}
use Rattle.phase_acts.proofs.Holding.{has_none, has_one, turned}
use Rattle.phase_acts.proofs.Downgrading.{never_free, never_reader, may_downgrade, read_on}
use Rattle.phase_acts.proofs.machine.Machine.downgrade.Goals as goal

pub returns-in_default : goal.returns-in_default
returns-in_default g c = λ cells h is. c.refuse.ensures cells h _ is.next (has_none is c.args.guard c.held.result c.held.ensures no_writer refl c.in_default.is)

pub returns-then-not-held : goal.returns-then-not-held
returns-then-not-held g c = λ cells h is. c.refuse-then-not-held.ensures cells h _ is.next (has_one is c.args.guard c.held.result c.held.ensures no_writer refl c.in-Some.held c.in-Some.is false (turned _ _ c.if-not-held.true))

pub downgrade-given-requires : goal.downgrade-given-requires
downgrade-given-requires g c = may_downgrade c.requires.is c.held.result c.held.ensures c.in-Some.held c.in-Some.is (turned _ _ c.if-not-held.false) c.take.new.self c.take.result c.take.ensures.takes c.take.ensures.kept c.in-Write.party c.in-Write.cell c.in-Write.lock c.in-Write.is

pub leave_read-given-requires : goal.leave_read-given-requires
leave_read-given-requires g c = absurd (never_reader c.requires.is c.held.result c.held.ensures c.in-Some.held c.in-Some.is (turned _ _ c.if-not-held.false) c.take.new.self c.take.result c.take.ensures.takes c.take.ensures.kept c.in-Read.party c.in-Read.cell c.in-Read.lock c.in-Read.is)

pub returns-in-Write : goal.returns-in-Write
returns-in-Write g c = λ cells h is.
    let r = c.downgrade-given.ensures in
    let e = c.end_step.ensures in
    read_on is c.held.result c.held.ensures c.in-Some.held c.in-Some.is (turned _ _ c.if-not-held.false) c.take.new.self c.take.result c.take.ensures.takes c.take.ensures.kept c.in-Write.party c.in-Write.cell c.in-Write.lock c.in-Write.is _ _ c.downgrade-given.result.1 r.downgrades r.gives r.kept c.downgrade-given.result.0 c.end_step.result e.line e.pushes e.kept

pub returns-in-Read : goal.returns-in-Read
returns-in-Read g c = λ cells h is. absurd (never_reader is c.held.result c.held.ensures c.in-Some.held c.in-Some.is (turned _ _ c.if-not-held.false) c.take.new.self c.take.result c.take.ensures.takes c.take.ensures.kept c.in-Read.party c.in-Read.cell c.in-Read.lock c.in-Read.is)

pub returns-in-Free : goal.returns-in-Free
returns-in-Free g c = λ cells h is. absurd (never_free is c.held.result c.held.ensures c.in-Some.held c.in-Some.is (turned _ _ c.if-not-held.false) c.take.new.self c.take.result c.take.ensures.takes c.take.ensures.kept c.in-Free.is)
