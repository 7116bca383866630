use Rattle.waiting_rows.proofs.RowCounts.{shares_shown, claims_shown}
use Rattle.waiting_rows.proofs.laws.counts_are_of_calls.Goals as goal

pub returns-clause-shares : goal.returns-clause-shares
returns-clause-shares g = shares_shown

pub returns-clause-claims : goal.returns-clause-claims
returns-clause-claims g = claims_shown
