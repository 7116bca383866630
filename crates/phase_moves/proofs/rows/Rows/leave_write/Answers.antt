use Rattle.phase_moves.proofs.Words.{refl}
use Rattle.phase_moves.proofs.Leaving.{writer_row, row_fits, writer_draft, writer_open, writer_known, write_left}
use Rattle.phase_moves.proofs.Giving.{gives_write_at}
use Rattle.phase_moves.proofs.rows.Rows.leave_write.Goals as goal

pub release_write-requires-clause-known : goal.release_write-requires-clause-known
release_write-requires-clause-known g c = writer_known g.L.PhaseLocker.held g.L.PhaseLocker.place c.args.self.now _ _ c.index_mut-row.ensures.value _ _ _ c.requires.is

pub release_write-requires-clause-fits : goal.release_write-requires-clause-fits
release_write-requires-clause-fits g c =
    row_fits g.L.PhaseLocker.held g.L.PhaseLocker.place c.args.self.now _ _ c.index_mut-row.ensures.value _ _ c.requires.is.stands (writer_row g.L.PhaseLocker.held g.L.PhaseLocker.place c.args.self.now _ _ c.index_mut-row.ensures.value _ _ _ c.requires.is)

pub release_write-requires-clause-open : goal.release_write-requires-clause-open
release_write-requires-clause-open g c = writer_open g.L.PhaseLocker.held g.L.PhaseLocker.place c.args.self.now _ _ c.index_mut-row.ensures.value _ _ _ c.requires.is

pub returns-clause-leaves : goal.returns-clause-leaves
returns-clause-leaves g c = λ hand m x is.
    let r = c.release_write.ensures in
    write_left g.L.PhaseLocker.held g.L.PhaseLocker.place m c.args.self.now _ c.args.cell hand x c.index_mut-row.result.now _ c.release_write.result
    (record { row_at = writer_row g.L.PhaseLocker.held g.L.PhaseLocker.place c.args.self.now _ _ c.index_mut-row.ensures.value _ _ _ is; cells = refl; guards = refl; parties = refl; exit = refl; plan = refl; waiting = refl; draft = refl; run = refl; running = r.running; left = r.left })
    is (writer_draft g.L.PhaseLocker.held g.L.PhaseLocker.place c.args.self.now _ _ c.index_mut-row.ensures.value _ _ _ is) refl r.hands r.reads r.closed

pub returns-clause-gives : goal.returns-clause-gives
returns-clause-gives g c = λ hand m x is.
    gives_write_at g.L.PhaseLocker.held g.L.PhaseLocker.place hand m c.args.self.now x is.stands is.found c.args.cell is.at c.index_mut-row.result.now (writer_row g.L.PhaseLocker.held g.L.PhaseLocker.place c.args.self.now _ _ c.index_mut-row.ensures.value _ _ _ is) c.release_write.result _ is.writes _ _ c.release_write.ensures.hands
