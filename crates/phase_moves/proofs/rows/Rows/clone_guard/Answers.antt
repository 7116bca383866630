use Rattle.phase_moves.proofs.Words.{refl}
use Rattle.phase_moves.proofs.Calling.{clone_readers, clones}
use Rattle.phase_moves.proofs.rows.Rows.clone_guard.Goals as goal

pub clone_read-requires : goal.clone_read-requires
clone_read-requires g c = clone_readers g.L.PhaseLocker.held g.L.PhaseLocker.place c.requires.m c.args.self.now c.args.self.now _ _ _ c.requires.is c.requires.at c.index_mut.result.now c.index_mut.result.now c.index_mut.ensures.value

pub returns-clause-clones : goal.returns-clause-clones
returns-clause-clones g c = λ m x is at.
    let r = c.clone_read.ensures in
    clones g.L.PhaseLocker.held g.L.PhaseLocker.place m c.args.self.now _ c.args.guard c.args.cell x is at c.index_mut.result.now _ c.index_mut.ensures.value c.clone_read.result refl refl refl refl refl refl refl refl refl refl r.running r.place r.most r.some r.none r.fits
