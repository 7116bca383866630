use Rattle.phase_moves.proofs.Words.{refl}
use Rattle.phase_moves.proofs.Leaving.{writer_row, row_fits, writer_draft, writer_open, writer_known, write_down}
use Rattle.phase_moves.proofs.Giving.{gives_down_at}
use Rattle.phase_moves.proofs.rows.Rows.downgrade.Goals as goal

pub downgrade-requires-clause-known : goal.downgrade-requires-clause-known
downgrade-requires-clause-known g c = writer_known g.L.PhaseLocker.held g.L.PhaseLocker.place c.args.self.now _ _ c.index_mut-row.ensures.value _ _ _ c.requires.is

pub downgrade-requires-clause-fits : goal.downgrade-requires-clause-fits
downgrade-requires-clause-fits g c =
    row_fits g.L.PhaseLocker.held g.L.PhaseLocker.place c.args.self.now _ _ c.index_mut-row.ensures.value _ _ c.requires.is.stands (writer_row g.L.PhaseLocker.held g.L.PhaseLocker.place c.args.self.now _ _ c.index_mut-row.ensures.value _ _ _ c.requires.is)

pub downgrade-requires-clause-open : goal.downgrade-requires-clause-open
downgrade-requires-clause-open g c = writer_open g.L.PhaseLocker.held g.L.PhaseLocker.place c.args.self.now _ _ c.index_mut-row.ensures.value _ _ _ c.requires.is

pub returns-clause-downgrades : goal.returns-clause-downgrades
returns-clause-downgrades g c = λ hand n m x is room fresh.
    let r = c.downgrade.ensures in
    write_down g.L.PhaseLocker.held g.L.PhaseLocker.place m c.args.self.now _ c.args.cell hand x c.index_mut-row.result.now _ c.downgrade.result.1
    (record { row_at = writer_row g.L.PhaseLocker.held g.L.PhaseLocker.place c.args.self.now _ _ c.index_mut-row.ensures.value _ _ _ is; cells = refl; guards = refl; parties = refl; exit = refl; plan = refl; waiting = refl; draft = refl; run = refl; running = r.running; left = r.left })
    is (writer_draft g.L.PhaseLocker.held g.L.PhaseLocker.place c.args.self.now _ _ c.index_mut-row.ensures.value _ _ _ is) refl r.downgrades r.reads r.closed c.requires.room n room fresh

pub returns-clause-gives : goal.returns-clause-gives
returns-clause-gives g c = λ hand m x is.
    gives_down_at g.L.PhaseLocker.held g.L.PhaseLocker.place hand m c.args.self.now x is.stands c.args.cell is.at c.index_mut-row.result.now (writer_row g.L.PhaseLocker.held g.L.PhaseLocker.place c.args.self.now _ _ c.index_mut-row.ensures.value _ _ _ is) c.downgrade.result.1 _ _ _ c.downgrade.ensures.downgrades
