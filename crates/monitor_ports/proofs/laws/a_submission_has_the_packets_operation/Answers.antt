use Rattle.monitor_ports.proofs.Calls.{submission_is}
use Rattle.monitor_ports.proofs.laws.a_submission_has_the_packets_operation.Goals as goal

pub returns : goal.returns
returns c = submission_is
