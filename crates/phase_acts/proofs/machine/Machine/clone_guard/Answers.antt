use Rattle.phase_acts.proofs.Words.{no_reader, refl, true}
use Rattle.phase_acts.proofs.Holding.{has_none, has_one}
use Rattle.phase_acts.proofs.Cloning.{may_clone, cloned_beside, borrowed}
use Rattle.phase_acts.proofs.machine.Machine.clone_guard.Goals as goal

pub returns-in_default : goal.returns-in_default
returns-in_default g c = λ cells h is. c.refuse.ensures cells h _ is.next (has_none is c.args.guard c.held.result c.held.ensures no_reader refl c.in_default.is)

pub returns-then-held : goal.returns-then-held
returns-then-held g c = λ cells h is. c.refuse-then-held.ensures cells h _ is.next (has_one is c.args.guard c.held.result c.held.ensures no_reader refl c.in-Some.held c.in-Some.is true c.if-held.true)

pub clone_guard-requires : goal.clone_guard-requires
clone_guard-requires g c = may_clone c.requires.is c.held.result c.held.ensures c.in-Some.held c.in-Some.is c.if-held.false

pub returns-in-Some-clone_guard : goal.returns-in-Some-clone_guard
returns-in-Some-clone_guard g c = λ cells h is. (let r = c.clone_guard.ensures in let e = c.end_step.ensures in cloned_beside is c.held.result c.held.ensures c.in-Some.held c.in-Some.is c.if-held.false _ _ c.clone_guard.result r.clones r.kept e.kept c.end_step.result c.in-Some-clone_guard.lock c.in-Some-clone_guard.is e.line e.pushes)

pub returns-in-None : goal.returns-in-None
returns-in-None g c = λ cells h is. (let r = c.clone_guard.ensures in let e = c.end_step-in-None.ensures in borrowed is c.held.result c.held.ensures c.in-Some.held c.in-Some.is c.if-held.false _ _ c.clone_guard.result r.clones r.kept e.kept c.end_step-in-None.result c.in-None.is e.line e.pushes)
