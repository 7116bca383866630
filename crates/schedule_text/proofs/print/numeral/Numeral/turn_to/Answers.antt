use Rattle.std.proofs.Common.{◌+◌, ap, sym, ◌∙◌}
use Rattle.schedule_text.proofs.PrintNumerals.{counted_up}
use Rattle.schedule_text.proofs.print.numeral.Numeral.turn_to.Goals as goal

pub invariant_of-self : goal.invariant_of-self
invariant_of-self c =
    counted_up c.self.inside.start c.self.inside.number c.args.number c.self.inside.row c.self.invariant (c.is_before.ensures.0 c.if-is_before.true ∙ ap (λ k. k + 1) (sym c.self.view_is)) c.ranges.number.fits c.if-last-lt57.true
