use Rattle.phase_acts.proofs.Attempting.{is_settling, is_tried}
use Rattle.phase_acts.proofs.Stepping.{guards_with, guards_room}
use Rattle.phase_acts.proofs.machine.Machine.tries.Goals as goal

pub settle-requires : goal.settle-requires
settle-requires g c =
    let r = c.attempt-taken.ensures in
    record { m = c.requires.m; is = is_settling (r.attempts c.requires.m c.requires.is.attempting) r.kept c.requires.is; room = guards_room r.kept c.requires.room }

pub returns-clause-tries : goal.returns-clause-tries
returns-clause-tries g c = λ m is.
    let r = c.attempt-taken.ensures in
    let k = r.attempts m is.attempting in
    is_tried k r.kept c.settle.result c.settle.new.self.rows (c.settle.ensures.settles m (is_settling k r.kept is))

pub returns-clause-kept : goal.returns-clause-kept
returns-clause-kept g c = guards_with c.attempt-taken.ensures.kept c.settle.ensures.kept
