use Rattle.phase_run.proofs.begin.read_plan.Goals as goal

pub returns-in-Ok-clause-read : goal.returns-in-Ok-clause-read
returns-in-Ok-clause-read c = record {
  spelled = rw (← c.deref.ensures.value) c.in-Ok.ensures.found;
  only = λ y spells. c.in-Ok.ensures.only y (rw c.deref.ensures.value spells);
}
