use Rattle.std.proofs.Common.{◌≡◌, ◌∙◌, ap, arith}
use Rattle.std.proofs.lemmas.List.{get_or_default}
use Rattle.exit_registry.specs.declared.registry.Row.{Row}
use Rattle.exit_registry.specs.Chains.{unknown, row_at}
use Rattle.exit_registry.proofs.Walks.{no_cell, no_turn, turn_inside, turn_cell, turn_seen, turn_kept}
use Rattle.exit_registry.proofs.registry.ExitRegistry.next_turn.Goals as goal

pub returns-then-self-eq0-clause-cell : goal.returns-then-self-eq0-clause-cell
returns-then-self-eq0-clause-cell c =
    let s = c.self.inside in
    no_cell s.rows.items s.pending s.left s.is_open c.args.self.now c.self.view_is c.if-self-eq0.true

pub returns-then-self-eq0-clause-after : goal.returns-then-self-eq0-clause-after
returns-then-self-eq0-clause-after c =
    let s = c.self.inside in
    no_turn s.rows.items s.pending s.left s.is_open c.args.self.now c.self.view_is c.if-self-eq0.true

pub index-requires : goal.index-requires
index-requires c =
    let s = c.self.inside in
    omega (arith, turn_inside s.rows.items s.pending s.left s.is_open c.args.self.now c.self.view_is c.self.invariant c.if-self-eq0.false)

-- the next cell is that of the row
next_is : (c : goal.After-self-1) → c.index.result.now.next ≡ (row_at c.self.inside.rows.items c.self.inside.left.first).next
next_is c =
    let s = c.self.inside in
    let inside = turn_inside s.rows.items s.pending s.left s.is_open c.args.self.now c.self.view_is c.self.invariant c.if-self-eq0.false in
    ap (λ (r : Row). r.next) (c.index.ensures ∙ get_or_default s.rows.items s.left.first c.index.result.now unknown inside)

pub invariant_of-self : goal.invariant_of-self
invariant_of-self c =
    let s = c.self.inside in
    turn_kept s.rows.items s.pending s.left s.is_open c.args.self.now c.self.view_is c.self.invariant c.if-self-eq0.false c.index.result.now.next (next_is c)

pub returns-clause-cell : goal.returns-clause-cell
returns-clause-cell c =
    let s = c.self.inside in
    turn_cell s.rows.items s.pending s.left s.is_open c.args.self.now c.self.view_is c.self.invariant c.if-self-eq0.false

pub returns-clause-after : goal.returns-clause-after
returns-clause-after c =
    let s = c.self.inside in
    turn_seen s.rows.items s.pending s.left s.is_open c.args.self.now c.self.view_is c.self.invariant c.if-self-eq0.false c.index.result.now.next (next_is c)

pub returns-clause-sound : goal.returns-clause-sound
returns-clause-sound c = (rw (← c.self.view_is) c.self.invariant.sound, (invariant_of-self c).sound)
