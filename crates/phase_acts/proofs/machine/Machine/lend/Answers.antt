use Rattle.phase_acts.proofs.Words.{◌∙◌, ap, false, refl, sym, true}
use Rattle.phase_locker.specs.declared.ways.Given.TheVariants as given
use Rattle.phase_acts.proofs.Lending.{did_lend, lend_refusal, may_lend}
use Rattle.phase_acts.proofs.machine.Machine.lend.Goals as goal

pub returns-then-is_of_other : goal.returns-then-is_of_other
returns-then-is_of_other g c = λ cells h is. c.refuse.ensures cells h _ is.next (lend_refusal c.args.cell c.args.loan is c.index.result.now c.index.ensures true _ (sym c.is_of_other.ensures ∙ c.if-is_of_other.true) refl)

pub returns-then-not-lends_value : goal.returns-then-not-lends_value
returns-then-not-lends_value g c = λ cells h is. c.refuse-then-not-lends_value.ensures cells h _ is.next (lend_refusal c.args.cell c.args.loan is c.index.result.now c.index.ensures false false (sym c.is_of_other.ensures ∙ c.if-is_of_other.false) (sym c.lends_value.ensures ∙ c.if-not-lends_value.true))

pub lend-lent-requires : goal.lend-lent-requires
lend-lent-requires g c = may_lend c.args.cell c.args.loan c.requires.is c.index.result.now c.index.ensures (sym c.is_of_other.ensures ∙ c.if-is_of_other.false) (sym c.lends_value.ensures ∙ c.if-not-lends_value.false)

pub returns : goal.returns
returns g c = λ cells h is.
    let r = c.lend-lent.ensures in
    let e = c.end_step.ensures in
    did_lend c.args.cell c.args.loan is c.index.result.now c.index.ensures (sym c.is_of_other.ensures ∙ c.if-is_of_other.false) (sym c.lends_value.ensures ∙ c.if-not-lends_value.false)
    c.lend-lent.new.self _ c.lend-lent.result r.lends r.kept e.pushes e.kept c.end_step.result (e.line ∙ ap (λ a. record { answer = a; given = given.Nobody }) c.answer_of.ensures)
