use Rattle.phase_acts.proofs.Words.{◌∙◌, false, refl, standing, sym, true}
use Rattle.phase_acts.proofs.Calling.{call_refusal}
use Rattle.phase_acts.proofs.Causes.{call_trying, call_steps}
use Rattle.phase_acts.proofs.machine.Machine.call.Goals as goal

pub returns-then-is_of_other : goal.returns-then-is_of_other
returns-then-is_of_other g c = λ cells h is. c.refuse.ensures cells h _ is.next (call_refusal is c.index.result.now c.index.ensures true _ (sym c.is_of_other.ensures ∙ c.if-is_of_other.true) refl)

pub returns-then-not-has_call : goal.returns-then-not-has_call
returns-then-not-has_call g c = λ cells h is. c.refuse-then-not-has_call.ensures cells h _ is.next (call_refusal is c.index.result.now c.index.ensures false false (sym c.is_of_other.ensures ∙ c.if-is_of_other.false) (sym c.has_call.ensures ∙ c.if-not-has_call.true))

pub tries-requires : goal.tries-requires
tries-requires g c =
    let is = c.requires.is in
    record { m = standing c.requires.cells c.requires.h; is = call_trying c.args.cell c.args.call is (call_refusal is c.index.result.now c.index.ensures false true (sym c.is_of_other.ensures ∙ c.if-is_of_other.false) (sym c.has_call.ensures ∙ c.if-not-has_call.false)); room = is.next.room }

pub returns : goal.returns
returns g c = λ cells h is.
    let free = call_refusal is c.index.result.now c.index.ensures false true (sym c.is_of_other.ensures ∙ c.if-is_of_other.false) (sym c.has_call.ensures ∙ c.if-not-has_call.false) in
    call_steps c.args.cell c.args.call is free c.tries.result (c.tries.ensures.tries (standing cells h) (call_trying c.args.cell c.args.call is free)) c.tries.ensures.kept
