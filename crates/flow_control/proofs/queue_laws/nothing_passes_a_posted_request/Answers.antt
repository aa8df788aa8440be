use Rattle.flow_control.proofs.Places.{nothing_passes_posted}
use Rattle.flow_control.proofs.queue_laws.nothing_passes_a_posted_request.Goals as goal

pub returns-clause-queue : goal.returns-clause-queue
returns-clause-queue c = nothing_passes_posted
