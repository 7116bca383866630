use Rattle.phase_acts.proofs.Words.{◌<◌, ◌∙◌, ap, arith, length, sym}
use Rattle.phase_acts.proofs.Settling.{may_give_read, keeps_read, leaves_read}
use Rattle.phase_acts.proofs.machine.Machine.settle_read.Goals as goal

pub index-requires : goal.index-requires
index-requires g c =
    let lt : c.args.target.cell < length c.args.self.now.rows.cells.items = c.requires.is.cell in
    grind arith

pub leave_read-last-requires : goal.leave_read-last-requires
leave_read-last-requires g c = may_give_read g.L.PhaseLocker.held g.L.PhaseLocker.place c.requires.m c.args.self.now.rows c.args.self.now.rows c.args.party c.args.target c.args.given (record { answer = c.answer_left-answer.result; given = c.args.given }) c.args.lock c.args.phase c.requires.is

pub returns-then-reads_on-clause-settles : goal.returns-then-reads_on-clause-settles
returns-then-reads_on-clause-settles g c = λ m is. keeps_read g.L.PhaseLocker.held g.L.PhaseLocker.place m c.args.self.now.rows _ c.args.party c.args.target c.args.given c.end_step.result c.args.lock c.args.phase is c.index.result.now c.index.ensures c.answer_left-answer.result c.answer_left-answer.ensures (sym c.reads_on.ensures ∙ c.if-reads_on.true) c.end_step.ensures.line c.end_step.ensures.pushes

pub returns-clause-settles : goal.returns-clause-settles
returns-clause-settles g c = λ m is. leaves_read g.L.PhaseLocker.held g.L.PhaseLocker.place m c.args.self.now.rows _ c.args.party c.args.target c.args.given c.end_step-2.result c.args.lock c.args.phase is c.index.result.now c.index.ensures c.answer_left-answer.result c.answer_left-answer.ensures (sym c.reads_on.ensures ∙ c.if-reads_on.false) _ c.leave_read-last.result c.leave_read-last.ensures.leaves c.leave_read-last.ensures.gives (c.end_step-2.ensures.line ∙ ap (λ d. record { answer = c.answer_left-answer.result; given = d }) c.given_first-all.ensures) c.end_step-2.ensures.pushes
