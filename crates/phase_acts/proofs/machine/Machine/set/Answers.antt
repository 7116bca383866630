use Rattle.phase_acts.proofs.Words.{false, no_writer, refl, true}
use Rattle.phase_acts.proofs.Holding.{has_none, has_one, turned}
use Rattle.phase_acts.proofs.Looking.{may_set, did_set}
use Rattle.phase_acts.proofs.machine.Machine.set.Goals as goal

pub returns-in_default : goal.returns-in_default
returns-in_default g c = λ cells h is. c.refuse.ensures cells h _ is.next (has_none is c.args.guard c.held.result c.held.ensures no_writer refl c.in_default.is)

pub returns-then-not-held : goal.returns-then-not-held
returns-then-not-held g c = λ cells h is. c.refuse-then-not-held.ensures cells h _ is.next (has_one is c.args.guard c.held.result c.held.ensures no_writer refl c.in-Some.held c.in-Some.is false (turned _ true c.if-not-held.true))

pub set-requires : goal.set-requires
set-requires g c = may_set c.requires.is c.held.result c.held.ensures c.in-Some.held c.in-Some.is (turned _ false c.if-not-held.false)

pub returns : goal.returns
returns g c = λ cells h is. did_set is c.held.result c.held.ensures c.in-Some.held c.in-Some.is (turned _ false c.if-not-held.false) c.set.new.self _ c.set.ensures.sets c.set.ensures.kept c.end_step.result c.end_step.ensures.line c.end_step.ensures.pushes c.end_step.ensures.kept
