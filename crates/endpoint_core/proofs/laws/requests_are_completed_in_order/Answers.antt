use Rattle.endpoint_core.proofs.Ordering.{asked_in_order, of_the_oldest}
use Rattle.endpoint_core.proofs.laws.requests_are_completed_in_order.Goals as goal

pub returns-clause-order : goal.returns-clause-order
returns-clause-order c = asked_in_order

pub returns-clause-oldest : goal.returns-clause-oldest
returns-clause-oldest c = of_the_oldest
