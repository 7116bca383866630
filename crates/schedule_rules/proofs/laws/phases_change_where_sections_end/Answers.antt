use Rattle.schedule_rules.proofs.Published.{published-given}
use Rattle.schedule_rules.proofs.laws.phases_change_where_sections_end.Goals as goal

pub returns : goal.returns
returns g = published-given
