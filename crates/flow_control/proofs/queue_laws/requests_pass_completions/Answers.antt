use Rattle.flow_control.proofs.Places.{request_passes_completion, request_is_takeable}
use Rattle.flow_control.proofs.queue_laws.requests_pass_completions.Goals as goal

pub returns-clause-pair : goal.returns-clause-pair
returns-clause-pair c = request_passes_completion

pub returns-clause-queue : goal.returns-clause-queue
returns-clause-queue c = request_is_takeable
