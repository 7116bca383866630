use Rattle.phase_moves.proofs.Words.{refl}
use Rattle.phase_moves.proofs.{Leaving.reader_row, Leaving.row_fits, Leaving.reader_open, Leaving.read_left, Giving.gives_read_at}
use Rattle.phase_moves.proofs.rows.Rows.leave_read.Goals as goal

pub release_read-requires-clause-fits : goal.release_read-requires-clause-fits
release_read-requires-clause-fits g c =
    row_fits g.L.PhaseLocker.held g.L.PhaseLocker.place c.args.self.now _ _ c.index_mut-row.ensures.value _ _ c.requires.is.stands (reader_row g.L.PhaseLocker.held g.L.PhaseLocker.place c.args.self.now _ _ c.index_mut-row.ensures.value _ _ _ c.requires.is)

pub release_read-requires-clause-open : goal.release_read-requires-clause-open
release_read-requires-clause-open g c = reader_open g.L.PhaseLocker.held g.L.PhaseLocker.place c.args.self.now _ _ c.index_mut-row.ensures.value _ _ _ c.requires.is

pub returns-clause-leaves : goal.returns-clause-leaves
returns-clause-leaves g c = λ hand m x is.
    let r = c.release_read.ensures in
    read_left g.L.PhaseLocker.held g.L.PhaseLocker.place m c.args.self.now _ c.args.cell hand x c.index_mut-row.result.now _ c.release_read.result
    (record { row_at = reader_row g.L.PhaseLocker.held g.L.PhaseLocker.place c.args.self.now _ _ c.index_mut-row.ensures.value _ _ _ is; cells = refl; guards = refl; parties = refl; exit = refl; plan = refl; waiting = refl; draft = refl; run = refl; running = r.running; left = r.left })
    is refl r.hands r.reads r.closed

pub returns-clause-gives : goal.returns-clause-gives
returns-clause-gives g c = λ hand m x is.
    gives_read_at g.L.PhaseLocker.held g.L.PhaseLocker.place hand m c.args.self.now x is.stands is.found c.args.cell is.at c.index_mut-row.result.now (reader_row g.L.PhaseLocker.held g.L.PhaseLocker.place c.args.self.now _ _ c.index_mut-row.ensures.value _ _ _ is) c.release_read.result is.reads _ _ c.release_read.ensures.hands
