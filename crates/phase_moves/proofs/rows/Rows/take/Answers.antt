use Rattle.phase_moves.proofs.Words.{refl, ◌≡◌, ◌∙◌, sym, ap, arith, ◌<◌, length, set, get_or, Some, slice_get, is_row_of}
use Rattle.phase_moves.proofs.{Places.read_at, Places.read_once, Hand.not_taken, Hand.is_taken}
use Rattle.phase_moves.proofs.rows.Rows.take.Goals as goal

pub returns-then-not-is_of-clause-takes : goal.returns-then-not-is_of-clause-takes
returns-then-not-is_of-clause-takes g c = λ m r.
    let lt : c.args.guard < length c.args.self.now.guards.items = grind arith in
    let at : slice_get c.args.self.now.guards.items c.args.guard ≡ Some c.in-Some.row.now = read_at c.args.self.now.guards.items c.args.guard c.in-Some.row.now lt (c.in-Some.ensures.lookup.1 ∙ ap (λ xs. get_or xs c.args.guard c.in-Some.row.now) c.deref.ensures.value) in
    not_taken g.L.PhaseLocker.held g.L.PhaseLocker.place m c.args.self.now c.args.self.now c.args.party c.args.guard r c.in-Some.row.now at lt (sym c.if-not-is_of.ensures)

pub returns-clause-takes : goal.returns-clause-takes
returns-clause-takes g c = λ m r.
    let lt : c.args.guard < length c.args.self.now.guards.items = grind arith in
    let first : slice_get c.args.self.now.guards.items c.args.guard ≡ Some c.in-Some.row.now = read_at c.args.self.now.guards.items c.args.guard c.in-Some.row.now lt (c.in-Some.ensures.lookup.1 ∙ ap (λ xs. get_or xs c.args.guard c.in-Some.row.now) c.deref.ensures.value) in
    let last : slice_get c.args.self.now.guards.items c.args.guard ≡ Some c.index_mut.result.now = read_at c.args.self.now.guards.items c.args.guard c.index_mut.result.now lt c.index_mut.ensures.value in
    let same : c.in-Some.row.now ≡ c.index_mut.result.now = read_once c.args.self.now.guards.items c.args.guard _ _ first last in
    is_taken g.L.PhaseLocker.held g.L.PhaseLocker.place m c.args.self.now _ c.args.party c.args.guard r c.replace.result (last ∙ ap (λ x. Some x) (sym c.replace.ensures.value)) lt
    (ap (is_row_of c.args.party) (c.replace.ensures.value ∙ sym same) ∙ sym c.if-not-is_of.ensures) (ap (λ x. set c.args.self.now.guards.items c.args.guard x) c.replace.ensures.after) refl refl refl refl
