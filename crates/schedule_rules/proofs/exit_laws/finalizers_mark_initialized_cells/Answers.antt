use Rattle.schedule_rules.proofs.Finishing.{ends-turn, marked-by-turn}
use Rattle.schedule_rules.proofs.exit_laws.finalizers_mark_initialized_cells.Goals as goal

pub returns-clause-ends : goal.returns-clause-ends
returns-clause-ends g = λ cells h s l c p fine. ends-turn cells c h s l p fine

pub returns-clause-marks : goal.returns-clause-marks
returns-clause-marks g = λ cells h e c fine. marked-by-turn cells c h e fine
