use Rattle.endpoint_core.proofs.Queue.{from_nothing}
use Rattle.endpoint_core.proofs.laws.each_request_leaves_once.Goals as goal

pub returns : goal.returns
returns c = from_nothing
