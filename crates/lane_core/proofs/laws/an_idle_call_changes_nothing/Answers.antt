use Rattle.lane_core.proofs.Idle.{transmit_idle, deliver_idle, deliver_dllp_idle, timer_idle, retrained_idle}
use Rattle.lane_core.proofs.laws.an_idle_call_changes_nothing.Goals as goal

pub returns : goal.returns
returns c = record { transmit = transmit_idle; deliver = deliver_idle; deliver_dllp = deliver_dllp_idle; timer = timer_idle; retrained = retrained_idle }
