use Rattle.phase_acts.proofs.Words.{◌∙◌, ap, false, refl, sym, true}
use Rattle.phase_locker.specs.declared.ways.Given.TheVariants as given
use Rattle.phase_acts.proofs.Exiting.{exit_refusal, inside_is, may_turn, did_turn, may_look, did_look}
use Rattle.phase_acts.proofs.machine.Machine.exit.Goals as goal

pub returns-then-is_begun : goal.returns-then-is_begun
returns-then-is_begun g c = λ cells h is. c.refuse.ensures cells h _ is.next (exit_refusal is c.is_begun.result c.is_begun.ensures true _ c.if-is_begun.true refl)

pub returns-then-is_some : goal.returns-then-is_some
returns-then-is_some g c = λ cells h is. c.refuse-then-is_some.ensures cells h _ is.next (exit_refusal is c.is_begun.result c.is_begun.ensures false true c.if-is_begun.false (sym (inside_is is c.innermost.result c.innermost.ensures) ∙ sym c.is_some.ensures ∙ c.if-is_some.true))

pub turn-requires : goal.turn-requires
turn-requires g c = may_turn c.requires.is c.is_begun.result c.is_begun.ensures c.if-is_begun.false (exit_refusal c.requires.is c.is_begun.result c.is_begun.ensures false false c.if-is_begun.false (sym (inside_is c.requires.is c.innermost.result c.innermost.ensures) ∙ sym c.is_some.ensures ∙ c.if-is_some.false)) c.own.ensures.owns c.own.ensures.kept c.next_turn.result c.next_turn.ensures.takes c.next_turn.ensures.kept c.in-Some.cell c.in-Some.is

pub look-look-requires : goal.look-look-requires
look-look-requires g c = may_look c.requires.is c.is_begun.result c.is_begun.ensures c.if-is_begun.false (exit_refusal c.requires.is c.is_begun.result c.is_begun.ensures false false c.if-is_begun.false (sym (inside_is c.requires.is c.innermost.result c.innermost.ensures) ∙ sym c.is_some.ensures ∙ c.if-is_some.false)) c.own.ensures.owns c.own.ensures.kept c.next_turn.result c.next_turn.ensures.takes c.next_turn.ensures.kept c.in-None.is

pub returns-in-Some : goal.returns-in-Some
returns-in-Some g c = λ cells h is. did_turn is c.is_begun.result c.is_begun.ensures c.if-is_begun.false (exit_refusal is c.is_begun.result c.is_begun.ensures false false c.if-is_begun.false (sym (inside_is is c.innermost.result c.innermost.ensures) ∙ sym c.is_some.ensures ∙ c.if-is_some.false)) c.own.ensures.owns c.own.ensures.kept c.next_turn.result c.next_turn.ensures.takes c.next_turn.ensures.kept c.in-Some.cell c.in-Some.is c.turn.result _ c.turn.ensures.tries c.turn.ensures.kept

pub returns-in-None : goal.returns-in-None
returns-in-None g c = λ cells h is.
    let e = c.end_step.ensures in
    did_look is c.is_begun.result c.is_begun.ensures c.if-is_begun.false (exit_refusal is c.is_begun.result c.is_begun.ensures false false c.if-is_begun.false (sym (inside_is is c.innermost.result c.innermost.ensures) ∙ sym c.is_some.ensures ∙ c.if-is_some.false)) c.own.ensures.owns c.own.ensures.kept c.next_turn.result c.next_turn.ensures.takes c.next_turn.ensures.kept c.in-None.is
    c.look-look.result c.look-look.new.self _ c.look-look.ensures.looks c.look-look.ensures.kept c.end_step.result (e.line ∙ ap (λ a. record { answer = a; given = given.Nobody }) c.looked.ensures) e.pushes e.kept
