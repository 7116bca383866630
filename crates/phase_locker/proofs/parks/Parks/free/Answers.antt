use Rattle.std.proofs.Common.{◌∙◌}
use Rattle.phase_locker.proofs.Shown.{free_reader, free_writer}
use Rattle.phase_locker.proofs.parks.Parks.free.Goals as goal

pub leave_readers-requires-clause-cell : goal.leave_readers-requires-clause-cell
leave_readers-requires-clause-cell c = (free_reader c.self.inside.rows.items c.self.inside.links.items c.self.inside.queues.items c.args.self.now c.args.party c.index-row.result.now c.self.view_is c.self.invariant c.requires c.index-row.ensures c.in-ParkedRead.is).0

pub leave_readers-requires-clause-parked : goal.leave_readers-requires-clause-parked
leave_readers-requires-clause-parked c = (free_reader c.self.inside.rows.items c.self.inside.links.items c.self.inside.queues.items c.args.self.now c.args.party c.index-row.result.now c.self.view_is c.self.invariant c.requires c.index-row.ensures c.in-ParkedRead.is).1

pub leave_writers-requires-clause-cell : goal.leave_writers-requires-clause-cell
leave_writers-requires-clause-cell c = (free_writer c.self.inside.rows.items c.self.inside.links.items c.self.inside.queues.items c.args.self.now c.args.party c.index-row.result.now c.self.view_is c.self.invariant c.requires c.index-row.ensures c.in-ParkedWrite.is).0

pub leave_writers-requires-clause-parked : goal.leave_writers-requires-clause-parked
leave_writers-requires-clause-parked c = (free_writer c.self.inside.rows.items c.self.inside.links.items c.self.inside.queues.items c.args.self.now c.args.party c.index-row.result.now c.self.view_is c.self.invariant c.requires c.index-row.ensures c.in-ParkedWrite.is).1

pub returns-in-ParkedRead : goal.returns-in-ParkedRead
returns-in-ParkedRead c = c.leave_readers.ensures ∙ (free_reader c.self.inside.rows.items c.self.inside.links.items c.self.inside.queues.items c.args.self.now c.args.party c.index-row.result.now c.self.view_is c.self.invariant c.requires c.index-row.ensures c.in-ParkedRead.is).2

pub returns-in-ParkedWrite : goal.returns-in-ParkedWrite
returns-in-ParkedWrite c = c.leave_writers.ensures ∙ (free_writer c.self.inside.rows.items c.self.inside.links.items c.self.inside.queues.items c.args.self.now c.args.party c.index-row.result.now c.self.view_is c.self.invariant c.requires c.index-row.ensures c.in-ParkedWrite.is).2
