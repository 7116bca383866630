use Rattle.phase_moves.proofs.Closing.{closes_read, closes_write}
use Rattle.phase_moves.proofs.rows.Rows.close_guard.Goals as goal

pub returns-in-Read-clause-can : goal.returns-in-Read-clause-can
returns-in-Read-clause-can g c = (closes_read g.L.PhaseLocker.held g.L.PhaseLocker.place c.args.self.now c.args.row c.requires c.leave_read-given.new.self c.leave_read-given.result c.in-Read.party c.in-Read.cell c.in-Read.lock c.in-Read.is c.leave_read-given.ensures.leaves).0

pub returns-in-Read-clause-turns : goal.returns-in-Read-clause-turns
returns-in-Read-clause-turns g c = (closes_read g.L.PhaseLocker.held g.L.PhaseLocker.place c.args.self.now c.args.row c.requires c.leave_read-given.new.self c.leave_read-given.result c.in-Read.party c.in-Read.cell c.in-Read.lock c.in-Read.is c.leave_read-given.ensures.leaves).1

pub returns-in-Write-clause-can : goal.returns-in-Write-clause-can
returns-in-Write-clause-can g c = (closes_write g.L.PhaseLocker.held g.L.PhaseLocker.place c.args.self.now c.args.row c.requires c.leave_write-given.new.self c.leave_write-given.result c.in-Write.party c.in-Write.cell c.in-Write.lock c.in-Write.is c.leave_write-given.ensures.leaves).0

pub returns-in-Write-clause-turns : goal.returns-in-Write-clause-turns
returns-in-Write-clause-turns g c = (closes_write g.L.PhaseLocker.held g.L.PhaseLocker.place c.args.self.now c.args.row c.requires c.leave_write-given.new.self c.leave_write-given.result c.in-Write.party c.in-Write.cell c.in-Write.lock c.in-Write.is c.leave_write-given.ensures.leaves).1
