use Rattle.std.proofs.Common.{Some, refl}
use Rattle.phase_seq.specs.Asks.{shall_init}
use Rattle.phase_seq.specs.Direct.{tolerance, enlisted}
use Rattle.lazy_cells.proofs.Flags.{enlisted_lack}
use Rattle.lazy_cells.proofs.Starting.{stands_plain, knows_more}
use Rattle.lazy_cells.proofs.lesser.GenericLazyWithExitLesserFormLesser.start.Goals as goal

pub init-requires-clause-exit : goal.init-requires-clause-exit
init-requires-clause-exit g c =
    let may = c.requires.exit.may c.args.self.now.marker.cell refl in
    record { inside = may.inside; unknown = λ e. may.unknown e refl }

pub returns-clause-starts : goal.returns-clause-starts
returns-clause-starts g c =
    let leak = g.G.GeneratorTolerance.FINAL_REGISTRATION_FAILURE in
    let t = tolerance g.G.GeneratorTolerance.INIT_FAILURE leak in
    let m = c.args.reg.now in
    let old = c.args.self.now in
    let may = c.requires.exit.may old.marker.cell refl in
    let done = stands_plain (λ x. Some x.cell) g.G.Generator.attempts t (enlisted leak (Some m) old.phase) (enlisted_lack leak m old.phase) old c.init.result c.init.new.this c.init.ensures.asks in
    record {
      answers = rw c.accessed.ensures done.answers;
      held = refl;
      writing = refl;
      cell = done.cell;
      registry = rw c.init.ensures.registry (knows_more (shall_init t old.phase) old.marker.cell old.phase m may.inside);
    }
