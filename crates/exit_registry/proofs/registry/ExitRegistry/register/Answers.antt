use Rattle.std.proofs.Common.{◌≡◌, ◌∙◌, true, arith, take, drop, ◌++◌, length}
use Rattle.std.proofs.Math.ListN.{set}
use Rattle.exit_registry.proofs.Walks.{linked, link_room, register_seen, register_kept, take_all}
use Rattle.exit_registry.proofs.registry.ExitRegistry.register.Goals as goal

pub link-self-inside-requires-clause-room : goal.link-self-inside-requires-clause-room
link-self-inside-requires-clause-room c =
    let s = c.self.inside in
    link_room s.rows.items s.pending s.left s.is_open c.args.self.now c.self.view_is c.self.invariant c.args.cell c.requires.cell c.requires.unknown

was_open : (c : goal.After-self-2-1) → c.self.inside.is_open ≡ true
was_open c = cc

rows_now : (c : goal.After-self-2-1) → take c.self.inside.rows.len (c.link-self-inside.new.rows ++ drop (length c.link-self-inside.new.rows) c.self.inside.rows.items) ≡ set c.self.inside.rows.items c.args.cell (linked c.self.inside.pending)
rows_now c =
    take_all c.self.inside.rows.len c.link-self-inside.new.rows (drop (length c.link-self-inside.new.rows) c.self.inside.rows.items) (omega (arith, c.link-self-inside.auto.rows, c.deref_mut.ensures.len))
    ∙ (rw c.deref_mut.ensures.value at c.link-self-inside.ensures.rows)

pub invariant_of-self : goal.invariant_of-self
invariant_of-self c =
    let s = c.self.inside in
    rw (rows_now c, c.link-self-inside.ensures.round) (register_kept s.rows.items s.pending s.left s.is_open c.args.self.now c.self.view_is c.self.invariant c.args.cell c.requires.cell c.requires.unknown (was_open c))

pub returns-clause-after : goal.returns-clause-after
returns-clause-after c =
    let s = c.self.inside in
    rw (rows_now c, c.link-self-inside.ensures.round) (register_seen s.rows.items s.pending s.left s.is_open c.args.self.now c.self.view_is c.self.invariant c.args.cell c.requires.cell c.requires.unknown (was_open c))

pub returns-clause-sound : goal.returns-clause-sound
returns-clause-sound c = (rw (← c.self.view_is) c.self.invariant.sound, (invariant_of-self c).sound)
