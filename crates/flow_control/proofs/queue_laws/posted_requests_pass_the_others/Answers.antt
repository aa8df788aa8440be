use Rattle.flow_control.proofs.Places.{posted_is_takeable}
use Rattle.flow_control.proofs.queue_laws.posted_requests_pass_the_others.Goals as goal

pub returns-clause-queue : goal.returns-clause-queue
returns-clause-queue c = posted_is_takeable
