use Rattle.flow_control.proofs.Runs.{account, whole, room}
use Rattle.flow_control.proofs.laws.counters_stand_for_whole_numbers.Goals as goal

pub returns : goal.returns
returns c = record { account = account; right = whole; room = room }
