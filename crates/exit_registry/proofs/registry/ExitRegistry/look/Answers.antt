use Rattle.std.proofs.Common.{sym}
use Rattle.exit_registry.proofs.Walks.{look_seen, look_kept, look_closes, look_stays, look_closed, look_round}
use Rattle.exit_registry.proofs.registry.ExitRegistry.look.Goals as goal

pub invariant_of-self : goal.invariant_of-self
invariant_of-self c =
    let s = c.self.inside in
    rw (sym (look_closes s.rows.items s.pending s.left s.is_open c.args.self.now c.self.view_is c.self.invariant c.if-round-eq0.true)) (look_kept s.rows.items s.pending s.left s.is_open c.args.self.now c.self.view_is c.self.invariant c.requires)

pub returns-then-round-eq0-clause-look : goal.returns-then-round-eq0-clause-look
returns-then-round-eq0-clause-look c =
    let s = c.self.inside in
    look_closed s.rows.items s.pending s.left s.is_open c.args.self.now c.self.view_is c.self.invariant c.if-round-eq0.true

pub returns-then-round-eq0-clause-after : goal.returns-then-round-eq0-clause-after
returns-then-round-eq0-clause-after c =
    let s = c.self.inside in
    rw (sym (look_closes s.rows.items s.pending s.left s.is_open c.args.self.now c.self.view_is c.self.invariant c.if-round-eq0.true)) (look_seen s.rows.items s.pending s.left s.is_open c.args.self.now c.self.view_is c.self.invariant)

pub returns-then-round-eq0-clause-sound : goal.returns-then-round-eq0-clause-sound
returns-then-round-eq0-clause-sound c = (rw (← c.self.view_is) c.self.invariant.sound, (invariant_of-self c).sound)

pub invariant_of-self-else-round-eq0 : goal.invariant_of-self-else-round-eq0
invariant_of-self-else-round-eq0 c =
    let s = c.self.inside in
    rw (sym (look_stays s.rows.items s.pending s.left s.is_open c.args.self.now c.self.view_is c.self.invariant c.if-round-eq0.false)) (look_kept s.rows.items s.pending s.left s.is_open c.args.self.now c.self.view_is c.self.invariant c.requires)

pub returns-clause-look : goal.returns-clause-look
returns-clause-look c =
    let s = c.self.inside in
    look_round s.rows.items s.pending s.left s.is_open c.args.self.now c.self.view_is c.self.invariant c.if-round-eq0.false

pub returns-clause-after : goal.returns-clause-after
returns-clause-after c =
    let s = c.self.inside in
    rw (sym (look_stays s.rows.items s.pending s.left s.is_open c.args.self.now c.self.view_is c.self.invariant c.if-round-eq0.false)) (look_seen s.rows.items s.pending s.left s.is_open c.args.self.now c.self.view_is c.self.invariant)

pub returns-clause-sound : goal.returns-clause-sound
returns-clause-sound c = (rw (← c.self.view_is) c.self.invariant.sound, (invariant_of-self-else-round-eq0 c).sound)
