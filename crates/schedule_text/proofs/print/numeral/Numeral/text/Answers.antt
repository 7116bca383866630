use Rattle.std.proofs.Common.{ℕ, take, ap, ◌-◌, ◌++◌, ◌∷◌, [], ◌∙◌, arith}
use Rattle.std.specs.Fmt.{decimal}
use Rattle.schedule_text.proofs.PrintNumerals.{row_piece}
use Rattle.schedule_text.proofs.print.numeral.Numeral.text.Goals as goal

pub returns-clause-text : goal.returns-clause-text
returns-clause-text c =
    let n = c.self.inside in
    ap (take (21 - n.start)) c.copy_from_slice.ensures.after ∙ row_piece 32 n.start n.number _ n.row c.self.invariant (omega arith)
    ∙ ap (λ (k : ℕ). decimal k ++ (32 ∷ [])) c.self.view_is
