use Rattle.std.proofs.Common.{Bool, Some, ap}
use Rattle.phase_seq.specs.Registers.{after_asking}
use Rattle.phase_seq.specs.Direct.{tolerance, enlisted}
use Rattle.lazy_cells.proofs.Flags.{enlisted_lack}
use Rattle.lazy_cells.proofs.Made.{made, due_idle}
use Rattle.lazy_cells.proofs.generic.with_exit.GenericLazy+T+G+WithExit+Q.init.Goals as goal

pub invariant_of-this : goal.invariant_of-this
invariant_of-this g c =
    let i = c.this.inside in
    let h = i.sequentializer.locker in
    let m = c.args.registry.now in
    let leak = g.G.GeneratorTolerance.FINAL_REGISTRATION_FAILURE in
    let t = tolerance g.G.GeneratorTolerance.INIT_FAILURE leak in
    let told = c.generate-told in
    let done = made g.G.Generator.attempts t h i.body i.generator i.marker c.this.invariant.idle c.this.invariant.there (enlisted leak (Some m) h.phase) (enlisted_lack leak m h.phase) told.result told.new.self.locker told.new.by told.ensures.calls in
    record { idle = done.idle; there = rw c.fill.ensures.filled done.there }

pub returns-clause-asks : goal.returns-clause-asks
returns-clause-asks g c =
    let i = c.this.inside in
    let h = i.sequentializer.locker in
    let m = c.args.registry.now in
    let leak = g.G.GeneratorTolerance.FINAL_REGISTRATION_FAILURE in
    let t = tolerance g.G.GeneratorTolerance.INIT_FAILURE leak in
    let told = c.generate-told in
    let done = made g.G.Generator.attempts t h i.body i.generator i.marker c.this.invariant.idle c.this.invariant.there (enlisted leak (Some m) h.phase) (enlisted_lack leak m h.phase) told.result told.new.self.locker told.new.by told.ensures.calls in
    rw (← c.this.view_is, c.fill.ensures.filled, c.fill.ensures.phase) done.says

pub returns-clause-registry : goal.returns-clause-registry
returns-clause-registry g c =
    let h = c.this.inside.sequentializer.locker in
    let t = tolerance g.G.GeneratorTolerance.INIT_FAILURE g.G.GeneratorTolerance.FINAL_REGISTRATION_FAILURE in
    let m = c.args.registry.now in
    rw (← c.this.view_is) (cc (c.generate-told.ensures.registry, ap (λ (b : Bool). after_asking b c.this.inside.marker.cell h.phase m) (due_idle t h c.this.invariant.idle)))
