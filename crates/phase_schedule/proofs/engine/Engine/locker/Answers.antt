use Rattle.phase_schedule.proofs.Words.{◌<◌, ◌∙◌, ◌≡◌, ap, cell_at, core, history, kind_at, length, Standing, subst, sym}
use Rattle.phase_schedule.proofs.Made.{holds, placed}
use Rattle.phase_schedule.proofs.engine.Engine.locker.Goals as goal

pub returns-clause-held : goal.returns-clause-held
returns-clause-held g c =
    let h = g.L.PhaseLocker.held in
    subst (λ (v : Standing). h c.locker.result.now ≡ core v.cells c.args.cell (history v)) c.self.view_is
    (ap h c.locker.ensures ∙ holds c.self.invariant.made.follows c.args.cell c.index.result.now (subst (λ (v : Standing). c.args.cell < length v.cells) (sym c.self.view_is) c.requires) c.index.ensures)

pub returns-clause-place : goal.returns-clause-place
returns-clause-place g c =
    let p = g.L.PhaseLocker.place in
    subst (λ (v : Standing). p c.locker.result.now ≡ kind_at (cell_at v.cells c.args.cell).place) c.self.view_is
    (ap p c.locker.ensures ∙ placed c.self.invariant.made.follows c.args.cell c.index.result.now (subst (λ (v : Standing). c.args.cell < length v.cells) (sym c.self.view_is) c.requires) c.index.ensures)
