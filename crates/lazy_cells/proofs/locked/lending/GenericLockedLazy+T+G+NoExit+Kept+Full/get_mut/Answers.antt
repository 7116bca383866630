use Rattle.std.proofs.Common.{Some, refl, rules}
use Rattle.phase_seq.specs.Phases.{unregistered}
use Rattle.phase_seq.specs.Direct.{tolerance}
use Rattle.lazy_cells.proofs.Lent.{ends_with}
use Rattle.lazy_cells.proofs.locked.lending.GenericLockedLazy+T+G+NoExit+Kept+Full.get_mut.Goals as goal

pub returns : goal.returns
returns g c =
    let t = tolerance g.G.GeneratorTolerance.INIT_FAILURE g.G.GeneratorTolerance.FINAL_REGISTRATION_FAILURE in
    let again : g.G.Generator.may_call c.this.inside.cell.generator = rw c.this.view_is c.init.ensures.again in
    ((refl, (λ w _. (ends_with g.G.Generator.attempts t (Some unregistered) c.args.this.now c.init.new.self c.this.inside.cell c.init.result c.in_ok-init.field-0 c.value_mut.result.now w c.in_ok-init.was c.this.view_is c.value_mut.ensures.shows c.init.ensures.calls, again)), tt), search rules)
