use Rattle.phase_acts.proofs.Words.{◌<◌, ◌∙◌, ap, arith, length, sym}
use Rattle.phase_acts.proofs.Settling.{may_give_write, may_read_on, keeps_write, leaves_write, reads_write}
use Rattle.phase_acts.proofs.machine.Machine.settle_write.Goals as goal

pub index-row-requires : goal.index-row-requires
index-row-requires g c =
    let lt : c.args.target.cell < length c.args.self.now.rows.cells.items = c.requires.is.cell in
    grind arith

pub downgrade-last-requires : goal.downgrade-last-requires
downgrade-last-requires g c = may_read_on g.L.PhaseLocker.held g.L.PhaseLocker.place c.requires.m c.args.self.now.rows c.args.self.now.rows c.args.party c.args.target c.args.given (record { answer = c.answer_left-answer.result; given = c.args.given }) c.args.lock c.args.phase c.requires.is

pub leave_write-last-requires : goal.leave_write-last-requires
leave_write-last-requires g c = may_give_write g.L.PhaseLocker.held g.L.PhaseLocker.place c.requires.m c.args.self.now.rows c.args.self.now.rows c.args.party c.args.target c.args.given (record { answer = c.answer_left-answer.result; given = c.args.given }) c.args.lock c.args.phase c.requires.is

pub returns-then-writes_on-clause-settles : goal.returns-then-writes_on-clause-settles
returns-then-writes_on-clause-settles g c = λ m is. keeps_write g.L.PhaseLocker.held g.L.PhaseLocker.place m c.args.self.now.rows _ c.args.party c.args.target c.args.given c.end_step.result c.args.lock c.args.phase is c.index-row.result.now c.index-row.ensures c.answer_left-answer.result c.answer_left-answer.ensures (sym c.writes_on.ensures ∙ c.if-writes_on.true) c.end_step.ensures.line c.end_step.ensures.pushes

pub returns-then-reads_on-clause-settles : goal.returns-then-reads_on-clause-settles
returns-then-reads_on-clause-settles g c = λ m is. reads_write g.L.PhaseLocker.held g.L.PhaseLocker.place m c.args.self.now.rows _ c.args.party c.args.target c.args.given c.end_step-then-reads_on.result c.args.lock c.args.phase is c.index-row.result.now c.index-row.ensures c.answer_left-answer.result c.answer_left-answer.ensures (sym c.writes_on.ensures ∙ c.if-writes_on.false) (sym c.reads_on.ensures ∙ c.if-reads_on.true) _ c.downgrade-last.result.1 c.downgrade-last.ensures.downgrades c.downgrade-last.ensures.gives c.downgrade-last.ensures.kept (c.end_step-then-reads_on.ensures.line ∙ ap (λ d. record { answer = c.answer_left-answer.result; given = d }) c.given_first-all.ensures) c.downgrade-last.result.0 c.end_step-then-reads_on.ensures.pushes

pub returns-clause-settles : goal.returns-clause-settles
returns-clause-settles g c = λ m is. leaves_write g.L.PhaseLocker.held g.L.PhaseLocker.place m c.args.self.now.rows _ c.args.party c.args.target c.args.given c.end_step-2.result c.args.lock c.args.phase is c.index-row.result.now c.index-row.ensures c.answer_left-answer.result c.answer_left-answer.ensures (sym c.writes_on.ensures ∙ c.if-writes_on.false) (sym c.reads_on.ensures ∙ c.if-reads_on.false) _ c.leave_write-last.result c.leave_write-last.ensures.leaves c.leave_write-last.ensures.gives (c.end_step-2.ensures.line ∙ ap (λ d. record { answer = c.answer_left-answer.result; given = d }) c.given_first-all-2.ensures) c.end_step-2.ensures.pushes
