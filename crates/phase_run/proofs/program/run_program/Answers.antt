use Rattle.phase_run.proofs.Handed.{answered, answered_in_part}
use Rattle.phase_run.proofs.program.run_program.Goals as goal

pub returns-in-Ok-tell-clause-whole : goal.returns-in-Ok-tell-clause-whole
returns-in-Ok-tell-clause-whole g c =
    answered _ _ _ _ _ c.in-Ok.page c.in-Ok.run' _ _ _ _ (c.is_schedule_call.ensures.0 c.if-not-is_schedule_call.false) c.in-Ok.ensures.ready c.tell.ensures c.in-Ok-tell.is

pub returns-in-Err-clause-part : goal.returns-in-Err-clause-part
returns-in-Err-clause-part g c =
    answered_in_part _ _ _ _ _ c.in-Ok.page c.in-Ok.run' _ _ _ _ (c.is_schedule_call.ensures.0 c.if-not-is_schedule_call.false) c.in-Ok.ensures.ready c.tell.ensures c.in-Err.is
