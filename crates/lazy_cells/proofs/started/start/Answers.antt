use Rattle.std.proofs.Common.{sym, ap, ◌∙◌}
use Rattle.phase_bits.specs.declared.phase.Phase.{Phase}
use Rattle.phase_bits.specs.Flags.{has, initialized}
use Rattle.phase_bits.specs.Number.{number}
use Rattle.lazy_cells.proofs.started.start.Goals as goal

pub invariant_of-result : goal.invariant_of-result
invariant_of-result g c =
    let same = g.met.C.Startable.agrees c.start.new.self ∙ sym c.in-Ok.ensures.starts.answers.0 in
    ap (λ (p : Phase). has (number p) initialized) same ∙ c.in-Ok.ensures.made
