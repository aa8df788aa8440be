use Rattle.monitor_ports.proofs.Calls.{well_formed}
use Rattle.monitor_ports.proofs.laws.records_are_well_formed.Goals as goal

pub returns : goal.returns
returns c = well_formed
