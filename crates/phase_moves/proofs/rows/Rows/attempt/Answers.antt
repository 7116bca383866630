use Rattle.phase_moves.proofs.Words.{◌∙◌, refl, sym, ap, with_item}
use Rattle.phase_moves.proofs.Trying.{call_fits, may_ask, may_call, may_register, may_wait}
use Rattle.phase_moves.proofs.{Places.set_there, Arms.counted_few, Arms.counted_some, Arms.does, Arms.none_before, Looking.looks}
use Rattle.phase_moves.proofs.rows.Rows.attempt.Goals as goal

pub call-begun-requires-clause-calls : goal.call-begun-requires-clause-calls
call-begun-requires-clause-calls g c = may_call g.L.PhaseLocker.held g.L.PhaseLocker.place c.requires.m c.args.self.now c.args.party c.args.target c.args.waits c.requires.is c.index_mut-row.result.now c.index_mut-row.ensures.value

pub call-begun-requires-clause-slow : goal.call-begun-requires-clause-slow
call-begun-requires-clause-slow g c = may_wait g.L.PhaseLocker.held g.L.PhaseLocker.place c.requires.m c.args.self.now c.args.party c.args.target c.args.waits c.requires.is c.index_mut-row.result.now c.index_mut-row.ensures.value c.in-Some.ask (sym c.ask_of.ensures ∙ c.in-Some.is)

pub ask_of-requires : goal.ask_of-requires
ask_of-requires g c = may_ask g.L.PhaseLocker.held g.L.PhaseLocker.place c.requires.m c.args.self.now c.args.party c.args.target c.args.waits c.requires.is c.index_mut-row.result.now c.index_mut-row.ensures.value

pub call-begun-requires-clause-fits : goal.call-begun-requires-clause-fits
call-begun-requires-clause-fits g c = call_fits g.L.PhaseLocker.held g.L.PhaseLocker.place c.requires.m c.args.self.now c.args.party c.args.target c.args.waits c.requires.is c.index_mut-row.result.now c.index_mut-row.ensures.value

pub call-begun-requires-clause-registry : goal.call-begun-requires-clause-registry
call-begun-requires-clause-registry g c = may_register g.L.PhaseLocker.held g.L.PhaseLocker.place c.requires.m c.args.self.now c.args.party c.args.target c.args.waits c.requires.is c.index_mut-row.result.now c.index_mut-row.ensures.value

pub takes-taken-requires-clause-none : goal.takes-taken-requires-clause-none
takes-taken-requires-clause-none g c =
    let r = c.call-begun.ensures in
    none_before g.L.PhaseLocker.held g.L.PhaseLocker.place c.requires.m c.args.self.now (record c.args.self.now { cells = with_item c.args.self.now.cells c.args.target.cell (record c.index_mut-row.result.now { seq = c.call-begun.new.cell }); parks = c.call-begun.new.parks; exit = record c.args.self.now.exit { registry = c.call-begun.new.registry } }) c.args.party c.args.target c.args.waits c.requires.is c.index_mut-row.result.now (record c.index_mut-row.result.now { seq = c.call-begun.new.cell }) c.index_mut-row.ensures.value c.index_mut-of.result.now c.index_mut-of.result.now c.index_mut-of.ensures.value
    refl refl (sym (set_there c.args.self.now.parties.items c.args.party c.index_mut-of.result.now c.index_mut-of.ensures.value)) refl refl refl refl c.call-begun.result.0 c.call-begun.result.1 r.registry r.running r.stands r.opens r.left c.in-Some.ask (sym c.ask_of.ensures ∙ c.in-Some.is) r.cyclic r.calls

pub takes-taken-requires-clause-counted : goal.takes-taken-requires-clause-counted
takes-taken-requires-clause-counted g c =
    let r = c.call-begun.ensures in
    counted_some g.L.PhaseLocker.held g.L.PhaseLocker.place c.requires.m c.args.self.now (record c.args.self.now { cells = with_item c.args.self.now.cells c.args.target.cell (record c.index_mut-row.result.now { seq = c.call-begun.new.cell }); parks = c.call-begun.new.parks; exit = record c.args.self.now.exit { registry = c.call-begun.new.registry } }) c.args.party c.args.target c.args.waits c.requires.is c.index_mut-row.result.now (record c.index_mut-row.result.now { seq = c.call-begun.new.cell }) c.index_mut-row.ensures.value c.index_mut-of.result.now c.index_mut-of.result.now c.index_mut-of.ensures.value
    refl refl (sym (set_there c.args.self.now.parties.items c.args.party c.index_mut-of.result.now c.index_mut-of.ensures.value)) refl refl refl refl c.call-begun.result.0 c.call-begun.result.1 r.registry r.running r.stands r.opens r.left c.in-Some.ask (sym c.ask_of.ensures ∙ c.in-Some.is) r.cyclic

pub takes-taken-requires-clause-few : goal.takes-taken-requires-clause-few
takes-taken-requires-clause-few g c =
    let r = c.call-begun.ensures in
    counted_few g.L.PhaseLocker.held g.L.PhaseLocker.place c.requires.m c.args.self.now (record c.args.self.now { cells = with_item c.args.self.now.cells c.args.target.cell (record c.index_mut-row.result.now { seq = c.call-begun.new.cell }); parks = c.call-begun.new.parks; exit = record c.args.self.now.exit { registry = c.call-begun.new.registry } }) c.args.party c.args.target c.args.waits c.requires.is c.index_mut-row.result.now (record c.index_mut-row.result.now { seq = c.call-begun.new.cell }) c.index_mut-row.ensures.value c.index_mut-of.result.now c.index_mut-of.result.now c.index_mut-of.ensures.value
    refl refl (sym (set_there c.args.self.now.parties.items c.args.party c.index_mut-of.result.now c.index_mut-of.ensures.value)) refl refl refl refl c.call-begun.result.0 c.call-begun.result.1 r.registry r.running r.stands r.opens r.left c.in-Some.ask (sym c.ask_of.ensures ∙ c.in-Some.is) r.cyclic

pub returns-clause-attempts : goal.returns-clause-attempts
returns-clause-attempts g c = λ m is.
    let r = c.call-begun.ensures in let e = c.takes-taken.ensures in
    rw (e.taken, e.row, e.party, e.parks) (does g.L.PhaseLocker.held g.L.PhaseLocker.place m c.args.self.now _ c.args.party c.args.target c.args.waits is c.index_mut-row.result.now _ c.index_mut-row.ensures.value c.index_mut-of.result.now _ c.index_mut-of.ensures.value
    refl refl refl refl refl refl refl c.call-begun.result.0 c.call-begun.result.1 r.registry r.running r.stands r.opens r.left c.in-Some.ask (sym c.ask_of.ensures ∙ c.in-Some.is) r.cyclic r.calls refl refl refl refl)

pub returns-in_default-clause-attempts : goal.returns-in_default-clause-attempts
returns-in_default-clause-attempts g c = λ m is.
    looks g.L.PhaseLocker.held g.L.PhaseLocker.place m c.args.self.now c.args.party c.args.target c.args.waits is c.index_mut-row.result.now c.index_mut-row.ensures.value (sym c.ask_of.ensures ∙ c.in_default.is) _ (set_there c.args.self.now.cells.items c.args.target.cell c.index_mut-row.result.now c.index_mut-row.ensures.value) refl refl refl refl c.phase.result
    (c.phase.ensures.phase ∙ ap (λ l. (g.L.PhaseLocker.held l).phase) c.locker.ensures)
