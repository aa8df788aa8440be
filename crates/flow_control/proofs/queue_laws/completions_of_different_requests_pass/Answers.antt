use Rattle.flow_control.proofs.Places.{different_pass}
use Rattle.flow_control.proofs.queue_laws.completions_of_different_requests_pass.Goals as goal

pub returns : goal.returns
returns c = different_pass
