use Rattle.phase_acts.proofs.Words.{◌∙◌, ap, ends_run, sym}
use Rattle.phase_acts.proofs.Ending.{has_run, may_end, never_none_run, outcome_no_outcome, run_ends, run_fails, run_leaves, run_may_leave, run_reads, run_refusal, run_writes}
use Rattle.phase_acts.proofs.Ending.{runs_none}
use Rattle.phase_acts.proofs.machine.Machine.outcome.Goals as goal

pub returns-in_default : goal.returns-in_default
returns-in_default g c = λ cells h is. c.refuse.ensures cells h _ is.next (runs_none is c.innermost.result c.innermost.ensures ends_run (run_refusal cells h c.args.party c.args.made) c.in_default.is)

pub returns-in_default-want : goal.returns-in_default-want
returns-in_default-want g c = λ cells h is. c.refuse-in_default-want.ensures cells h _ is.next (outcome_no_outcome c.args.made is c.innermost.result c.innermost.ensures c.in-Some.run' c.in-Some.is c.in_default-want.is)

pub end-requires : goal.end-requires
end-requires g c = may_end c.args.made c.requires.is c.innermost.result c.innermost.ensures c.in-Some.run' c.in-Some.is c.in-Calls.call c.in-Calls.is

pub returns-in_default-end : goal.returns-in_default-end
returns-in_default-end g c = λ cells h is. absurd (never_none_run c.args.made is c.innermost.result c.innermost.ensures c.in-Some.run' c.in-Some.is c.in-Calls.call c.in-Calls.is _ c.end.result c.end.ensures.ends c.in_default-end.is)

pub returns-in-Phase : goal.returns-in-Phase
returns-in-Phase g c = λ cells h is.
    let e = c.end_step.ensures in
    run_ends c.args.made c.in-Phase.phase (has_run c.args.made is c.innermost.result c.innermost.ensures c.in-Some.run' c.in-Some.is c.in-Calls.call c.in-Calls.is _ c.end.result c.end.ensures.ends c.end.ensures.kept c.in-Some-end.finished c.in-Some-end.given c.in-Some-end.is _ c.in-Phase.is) _ c.end_step.result (e.line ∙ ap (λ x. record { answer = x; given = c.in-Some-end.given }) c.told.ensures) e.pushes e.kept

pub returns-in-Read : goal.returns-in-Read
returns-in-Read g c = λ cells h is.
    let e = c.end_step-in-Read.ensures in
    run_reads c.args.made c.in-Read.lock c.in-Read._phase (has_run c.args.made is c.innermost.result c.innermost.ensures c.in-Some.run' c.in-Some.is c.in-Calls.call c.in-Calls.is _ c.end.result c.end.ensures.ends c.end.ensures.kept c.in-Some-end.finished c.in-Some-end.given c.in-Some-end.is _ c.in-Read.is) _ c.end_step-in-Read.result e.line c.in-Read.lock e.pushes e.kept

pub leave_write-given-requires : goal.leave_write-given-requires
leave_write-given-requires g c = run_may_leave c.args.made c.in-Write.lock c.in-Write.phase (has_run c.args.made c.requires.is c.innermost.result c.innermost.ensures c.in-Some.run' c.in-Some.is c.in-Calls.call c.in-Calls.is _ c.end.result c.end.ensures.ends c.end.ensures.kept c.in-Some-end.finished c.in-Some-end.given c.in-Some-end.is _ c.in-Write.is)

pub returns-then-takes_none : goal.returns-then-takes_none
returns-then-takes_none g c = λ cells h is.
    let e = c.end_step-then-takes_none.ensures in
    let w = c.leave_write-given.ensures in
    run_leaves c.args.made c.in-Write.lock c.in-Write.phase (has_run c.args.made is c.innermost.result c.innermost.ensures c.in-Some.run' c.in-Some.is c.in-Calls.call c.in-Calls.is _ c.end.result c.end.ensures.ends c.end.ensures.kept c.in-Some-end.finished c.in-Some-end.given c.in-Some-end.is _ c.in-Write.is) (sym c.takes_none.ensures ∙ c.if-takes_none.true)
    _ c.leave_write-given.result w.leaves w.gives w.kept _ c.end_step-then-takes_none.result (e.line ∙ ap (λ x. record { answer = x; given = c.leave_write-given.result }) c.told-then-takes_none.ensures) e.pushes e.kept

pub returns-else-takes_none : goal.returns-else-takes_none
returns-else-takes_none g c = λ cells h is.
    let e = c.end_step-in-Write.ensures in
    run_writes c.args.made c.in-Write.lock c.in-Write.phase (has_run c.args.made is c.innermost.result c.innermost.ensures c.in-Some.run' c.in-Some.is c.in-Calls.call c.in-Calls.is _ c.end.result c.end.ensures.ends c.end.ensures.kept c.in-Some-end.finished c.in-Some-end.given c.in-Some-end.is _ c.in-Write.is) (sym c.takes_none.ensures ∙ c.if-takes_none.false) _ c.end_step-in-Write.result e.line c.in-Write.lock e.pushes e.kept

pub returns-in-Failed : goal.returns-in-Failed
returns-in-Failed g c = λ cells h is.
    let e = c.end_step-in-Failed.ensures in
    run_fails c.args.made c.in-Failed._phase (has_run c.args.made is c.innermost.result c.innermost.ensures c.in-Some.run' c.in-Some.is c.in-Calls.call c.in-Calls.is _ c.end.result c.end.ensures.ends c.end.ensures.kept c.in-Some-end.finished c.in-Some-end.given c.in-Some-end.is _ c.in-Failed.is) _ c.end_step-in-Failed.result e.line e.pushes e.kept
