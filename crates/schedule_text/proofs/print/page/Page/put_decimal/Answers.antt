use Rattle.std.proofs.Common.{List, ℕ, ◌++◌, ap, ◌∙◌, arith, rules}
use Rattle.std.proofs.lemmas.Fmt.{length-decimal-le}
use Rattle.schedule_text.proofs.PrintNumerals.{row_piece}
use Rattle.schedule_text.proofs.print.page.Page.put_decimal.Goals as goal

pub returns-clause-text : goal.returns-clause-text
returns-clause-text c =
    let w = c.write_digits-start in
    c.put_front.ensures
    ∙ ap (λ (l : List ℕ). c.args.self.now ++ l)
    (row_piece c.args.end w.result c.args.number _ w.new.buf (record { width = w.ensures.start; digits = w.ensures.written }) (omega arith))

pub write_digits-start-requires : goal.write_digits-start-requires
write_digits-start-requires c = search (rules, length-decimal-le 20)
