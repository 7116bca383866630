use Rattle.phase_schedule.proofs.Words.{◌≡◌, AreFinals, ended_turns, history, Standing, subst}
use Rattle.phase_schedule.proofs.engine.Engine.finish.Goals as goal

pub returns-clause-finals : goal.returns-clause-finals
returns-clause-finals g c = subst (λ (v : Standing). AreFinals c.finish-finals.result.finals.items v.cells (history v)) c.self.view_is (c.finish-finals.ensures _ _ c.self.invariant.made).finals

pub returns-clause-exits : goal.returns-clause-exits
returns-clause-exits g c = subst (λ (v : Standing). c.finish-finals.result.exits.items ≡ ended_turns (history v)) c.self.view_is (c.finish-finals.ensures _ _ c.self.invariant.made).exits

pub returns-clause-known : goal.returns-clause-known
returns-clause-known g c = (c.finish-finals.ensures _ _ c.self.invariant.made).known
