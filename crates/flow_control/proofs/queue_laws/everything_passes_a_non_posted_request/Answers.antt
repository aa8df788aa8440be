use Rattle.flow_control.proofs.Places.{non_posted_is_passed}
use Rattle.flow_control.proofs.queue_laws.everything_passes_a_non_posted_request.Goals as goal

pub returns : goal.returns
returns c = non_posted_is_passed
