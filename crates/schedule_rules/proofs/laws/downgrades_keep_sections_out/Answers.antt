use Rattle.schedule_rules.proofs.Opening.{downgrade-opens, downgrade-keeps-out}
use Rattle.schedule_rules.proofs.laws.downgrades_keep_sections_out.Goals as goal

pub returns-clause-opens : goal.returns-clause-opens
returns-clause-opens x = λ cells h s g c. downgrade-opens h s g c cells

pub returns-clause-keeps_out : goal.returns-clause-keeps_out
returns-clause-keeps_out x = λ cells h later s g c. downgrade-keeps-out h s g c cells later
