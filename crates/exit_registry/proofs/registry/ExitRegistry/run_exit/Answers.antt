use Rattle.std.proofs.Common.{◌∙◌, sym, ap, refl}
use Rattle.exit_registry.specs.Logs.{LogBook}
use Rattle.exit_registry.proofs.Exiting.{exit_begins, turn_inside, log_room, exit_goes_on, all_turned, closed_first, others_stay, sound-closed}
use Rattle.exit_registry.proofs.registry.ExitRegistry.run_exit.Goals as goal

pub loop-cell-init : goal.loop-cell-init
loop-cell-init g c = (exit_begins _ c.args.self.now c.args.cells.now c.args.log.now.turns c.requires.empty, refl)

pub turn_at-requires : goal.turn_at-requires
turn_at-requires g c =
    turn_inside _ c.args.self.now c.loop-cell.self c.next_cell.new.self c.args.cells.now c.loop-cell.cells c.loop-cell.cells c.loop-cell.log.turns c.in-Some.cell c.loop-cell.invariant.0 c.in-Some.ensures.sound (sym c.in-Some.ensures.cell) c.in-Some.ensures.rest c.requires.below

pub note-requires : goal.note-requires
note-requires g c =
    log_room _ c.args.self.now c.loop-cell.self c.next_cell.new.self c.args.cells.now c.loop-cell.cells c.loop-cell.cells c.loop-cell.log.turns c.in-Some.cell c.loop-cell.invariant.0 c.in-Some.ensures.sound (sym c.in-Some.ensures.cell) c.in-Some.ensures.rest c.loop-cell.log.cells c.requires.below (rw c.loop-cell.invariant.1 c.requires.room)

pub loop-cell-preserved : goal.loop-cell-preserved
loop-cell-preserved g c = (
  exit_goes_on _ c.args.self.now c.loop-cell.self c.next_cell.new.self c.args.cells.now c.loop-cell.cells c.turn_at.new.cells c.loop-cell.log.turns c.in-Some.cell c.loop-cell.invariant.0 c.in-Some.ensures.sound (sym c.in-Some.ensures.cell) c.in-Some.ensures.rest c.turn_at.result c.note.new.self.turns c.turn_at.ensures.cell c.in-Some.ensures.known c.turn_at.auto.cells c.turn_at.ensures.turned c.turn_at.ensures.others (ap (λ (b : LogBook). b.turns) c.note.ensures),
  ap (λ (b : LogBook). b.cells) c.note.ensures ∙ c.loop-cell.invariant.1,
)

pub returns-clause-closed : goal.returns-clause-closed
returns-clause-closed g c = c.in_default.ensures.closed refl ∙ closed_first _ c.args.self.now c.loop-cell.self c.args.cells.now c.loop-cell.cells c.loop-cell.log.turns c.loop-cell.invariant.0 (sym c.in_default.ensures.cell)

pub returns-clause-order : goal.returns-clause-order
returns-clause-order g c = all_turned _ c.args.self.now c.loop-cell.self c.args.cells.now c.loop-cell.cells c.loop-cell.log.turns c.loop-cell.invariant.0 (sym c.in_default.ensures.cell)

pub returns-clause-once : goal.returns-clause-once
returns-clause-once g c = c.loop-cell.invariant.0.once

pub returns-clause-turns : goal.returns-clause-turns
returns-clause-turns g c = c.loop-cell.invariant.0.turned

pub returns-clause-others : goal.returns-clause-others
returns-clause-others g c = others_stay _ c.args.self.now c.loop-cell.self c.args.cells.now c.loop-cell.cells c.loop-cell.log.turns c.loop-cell.invariant.0 (sym c.in_default.ensures.cell)

pub returns-clause-room : goal.returns-clause-room
returns-clause-room g c = c.loop-cell.invariant.1

pub returns-clause-sound : goal.returns-clause-sound
returns-clause-sound g c = rw (c.in_default.ensures.closed refl) (sound-closed c.loop-cell.self c.in_default.ensures.sound)
