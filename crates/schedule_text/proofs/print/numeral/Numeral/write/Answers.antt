use Rattle.std.proofs.Common.{rules}
use Rattle.std.proofs.lemmas.Fmt.{length-decimal-le}
use Rattle.schedule_text.proofs.PrintNumerals.{rewritten}
use Rattle.schedule_text.proofs.print.numeral.Numeral.write.Goals as goal

pub write_digits-start-requires : goal.write_digits-start-requires
write_digits-start-requires c = search (rules, length-decimal-le 20)

pub invariant_of-self : goal.invariant_of-self
invariant_of-self c =
    let old = c.self.inside in
    let w = c.write_digits-start in
    rewritten 32 old.start old.number w.result c.args.number old.row w.new.buf c.self.invariant w.ensures.start w.ensures.written
