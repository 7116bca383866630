use Rattle.std.proofs.Common.{refl}
use Rattle.lazy_cells.proofs.OneKind.{may_start, are_distinct}
use Rattle.lazy_tests.proofs.start.a_list_is_started_in_order.Goals as goal

pub start_all-answer-requires-clause-exit : goal.start_all-answer-requires-clause-exit
start_all-answer-requires-clause-exit g c = may_start _ _ _ (λ x d. refl)

pub start_all-answer-requires-clause-distinct : goal.start_all-answer-requires-clause-distinct
start_all-answer-requires-clause-distinct g c = are_distinct _ _ _ (λ x d. refl)
