use Rattle.phase_acts.proofs.Words.{◌<◌, arith, length}
use Rattle.phase_acts.proofs.Settling.{settles_call, settles_skip}
use Rattle.phase_acts.proofs.machine.Machine.settle_nothing.Goals as goal

pub index-requires : goal.index-requires
index-requires g c =
    let lt : c.args.target.cell < length c.args.self.now.rows.cells.items = c.requires.is.cell in
    grind arith

pub returns-in-Calls-clause-settles : goal.returns-in-Calls-clause-settles
returns-in-Calls-clause-settles g c = λ m is. settles_call g.L.PhaseLocker.held g.L.PhaseLocker.place m c.args.self.now.rows _ c.args.party c.args.target c.args.given c.end_step.result c.args.phase is c.index.result.now c.index.ensures c.answer_left-answer.result c.answer_left-answer.ensures c.end_step.ensures.line _ c.in-Calls.is c.end_step.ensures.pushes

pub returns-in-Turns-clause-settles : goal.returns-in-Turns-clause-settles
returns-in-Turns-clause-settles g c = λ m is. settles_skip g.L.PhaseLocker.held g.L.PhaseLocker.place m c.args.self.now.rows _ c.args.party c.args.target c.args.given c.end_step-in-Turns.result c.args.phase is c.index.result.now c.index.ensures c.answer_left-answer.result c.answer_left-answer.ensures c.end_step-in-Turns.ensures.line c.in-Turns.is c.skip.new.self c.skip.ensures.skips c.end_step-in-Turns.ensures.pushes
