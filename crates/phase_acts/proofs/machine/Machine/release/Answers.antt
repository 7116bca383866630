use Rattle.phase_acts.proofs.Stepping.{still_room, stepped_on}
use Rattle.phase_acts.proofs.Releasing.{may_leave_read, may_leave_write, release_next, release_refused, released_read, released_write}
use Rattle.phase_acts.proofs.machine.Machine.release.Goals as goal

pub refuse-requires : goal.refuse-requires
refuse-requires g c = still_room c.requires.is.next c.take.ensures.kept

pub leave_read-given-requires : goal.leave_read-given-requires
leave_read-given-requires g c = may_leave_read c.take.ensures.takes c.requires.is.next.follows.rests c.in-Read.party c.in-Read.cell c.in-Read.lock c.in-Read.is

pub leave_write-given-requires : goal.leave_write-given-requires
leave_write-given-requires g c = may_leave_write c.take.ensures.takes c.requires.is.next.follows.rests c.in-Write.party c.in-Write.cell c.in-Write.lock c.in-Write.is

pub returns-in-Free : goal.returns-in-Free
returns-in-Free g c = λ cells h is. (let t = c.take.ensures in stepped_on is.next t.kept c.refuse.result _ (c.refuse.ensures cells h _ (release_next t.takes t.kept is c.in-Free.is) (release_refused t.takes t.kept is c.in-Free.is)))

pub returns-in-Read : goal.returns-in-Read
returns-in-Read g c = λ cells h is.
    let l = c.leave_read-given.ensures in
    let e = c.end_step.ensures in
    released_read c.take.ensures.takes c.take.ensures.kept is _ _ c.leave_read-given.result c.end_step.result e.line l.kept e.pushes e.kept c.in-Read.party c.in-Read.cell c.in-Read.lock c.in-Read.is l.leaves l.gives

pub returns-in-Write : goal.returns-in-Write
returns-in-Write g c = λ cells h is.
    let l = c.leave_write-given.ensures in
    let e = c.end_step-in-Write.ensures in
    released_write c.take.ensures.takes c.take.ensures.kept is _ _ c.leave_write-given.result c.end_step-in-Write.result e.line l.kept e.pushes e.kept c.in-Write.party c.in-Write.cell c.in-Write.lock c.in-Write.is l.leaves l.gives
