use Rattle.phase_schedule.proofs.Words.{◌∙◌, ap, history, Standing, standing_of}
use Rattle.phase_schedule.specs.Inside.{frame_of}
use Rattle.phase_schedule.proofs.Made.{can_step, cells_stay, did_step, stands_more, told_known}
use Rattle.phase_schedule.proofs.engine.Engine.step.Goals as goal

pub step-line-requires : goal.step-line-requires
step-line-requires g c =
    let h = g.L.PhaseLocker.held in let p = g.L.PhaseLocker.place in let e = c.self.inside in
    record { frame = frame_of h p e; h = history (standing_of h p e); can = can_step c.self.view_is c.self.invariant c.requires.known c.requires.room }

pub invariant_of-self : goal.invariant_of-self
invariant_of-self g c = stands_more c.self.invariant (record { progress = c.step-line.new.self; steps = c.push_reserved.new.self; lines = c.push_reserved-2.new.self }) (did_step c.self.view_is c.self.invariant c.args.s.now c.requires.known c.requires.room c.step-line.ensures) c.push_reserved.ensures.items c.push_reserved-2.ensures.items c.push_reserved.ensures.capacity c.push_reserved-2.ensures.capacity

pub returns-clause-legal : goal.returns-clause-legal
returns-clause-legal g c = (stands_more c.self.invariant (record { progress = c.step-line.new.self; steps = c.push_reserved.new.self; lines = c.push_reserved-2.new.self }) (did_step c.self.view_is c.self.invariant c.args.s.now c.requires.known c.requires.room c.step-line.ensures) c.push_reserved.ensures.items c.push_reserved-2.ensures.items c.push_reserved.ensures.capacity c.push_reserved-2.ensures.capacity).made.follows.legal

pub returns-clause-known : goal.returns-clause-known
returns-clause-known g c = told_known (did_step c.self.view_is c.self.invariant c.args.s.now c.requires.known c.requires.room c.step-line.ensures)

pub returns-clause-parties : goal.returns-clause-parties
returns-clause-parties g c = (did_step c.self.view_is c.self.invariant c.args.s.now c.requires.known c.requires.room c.step-line.ensures).parties ∙ ap (λ (v : Standing). v.parties) c.self.view_is

pub returns-clause-cells : goal.returns-clause-cells
returns-clause-cells g c = cells_stay c.self.inside (did_step c.self.view_is c.self.invariant c.args.s.now c.requires.known c.requires.room c.step-line.ensures) ∙ ap (λ (v : Standing). v.cells) c.self.view_is

pub returns-clause-count : goal.returns-clause-count
returns-clause-count g c = (did_step c.self.view_is c.self.invariant c.args.s.now c.requires.known c.requires.room c.step-line.ensures).room ∙ ap (λ (v : Standing). v.count) c.self.view_is
