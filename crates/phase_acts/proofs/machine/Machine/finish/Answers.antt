use Rattle.phase_acts.proofs.Words.{ends_turn, false}
use Rattle.phase_acts.proofs.Ending.{ends_so, finish_ends, finish_no_outcome, may_finalize, never_none_final, runs_none, turn_refusal}
use Rattle.phase_acts.proofs.machine.Machine.finish.Goals as goal

pub returns-in_default : goal.returns-in_default
returns-in_default g c = λ cells h is. c.refuse.ensures cells h _ is.next (runs_none is c.innermost.result c.innermost.ensures (ends_turn cells c.args.fine c.args.left) (turn_refusal cells h c.args.party c.args.left c.args.fine) c.in_default.is)

pub returns-in_default-want : goal.returns-in_default-want
returns-in_default-want g c = λ cells h is. c.refuse-in_default-want.ensures cells h _ is.next (finish_no_outcome c.args.fine c.args.left is c.innermost.result c.innermost.ensures c.in-Some.run' c.in-Some.is c.in_default-want.field-0 c.in_default-want.is)

pub returns-then-not-finishes_so : goal.returns-then-not-finishes_so
returns-then-not-finishes_so g c = λ cells h is. c.refuse-then-not-finishes_so.ensures cells h _ is.next (ends_so c.args.fine c.args.left is c.innermost.result c.innermost.ensures c.in-Some.run' c.in-Some.is c.in-Turns.is c.finishes_so.result c.finishes_so.ensures false c.if-not-finishes_so.true)

pub finalize-requires : goal.finalize-requires
finalize-requires g c = may_finalize c.args.fine c.args.left c.requires.is c.innermost.result c.innermost.ensures c.in-Some.run' c.in-Some.is c.in-Turns.is

pub returns-in-Some-finalize : goal.returns-in-Some-finalize
returns-in-Some-finalize g c = λ cells h is.
    let e = c.end_step.ensures in
    finish_ends c.args.fine c.args.left is c.innermost.result c.innermost.ensures c.in-Some.run' c.in-Some.is c.in-Turns.is _ c.finalize.result c.finalize.ensures.finalizes c.finishes_so.result c.finishes_so.ensures c.if-not-finishes_so.false
    (c.in-Some-finalize.phase, c.in-Some-finalize.given) c.in-Some-finalize.is c.finalize.ensures.kept _ c.end_step.result e.line e.pushes e.kept

pub returns-in-None : goal.returns-in-None
returns-in-None g c = λ cells h is. absurd (never_none_final c.args.fine c.args.left is c.innermost.result c.innermost.ensures c.in-Some.run' c.in-Some.is c.in-Turns.is _ c.finalize.result c.finalize.ensures.finalizes c.in-None.is)
