use Rattle.flow_control.proofs.Places.{completions_in_order}
use Rattle.flow_control.proofs.queue_laws.completions_of_a_request_keep_their_order.Goals as goal

pub returns-clause-queue : goal.returns-clause-queue
returns-clause-queue c = completions_in_order
