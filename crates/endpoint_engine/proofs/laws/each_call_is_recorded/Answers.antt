use Rattle.endpoint_engine.proofs.Calls.{first, next}
use Rattle.endpoint_engine.proofs.laws.each_call_is_recorded.Goals as goal

pub returns : goal.returns
returns c = record { first = first; next = next }
