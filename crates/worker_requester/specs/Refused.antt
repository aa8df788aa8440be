-- Which refusals of a call end the run.
use Rattle.std.specs.Prelude.{Option, Some, None}
use Rattle.requester_core.specs.declared.fault.SubmitRefusal.TheVariants.{TagsUsed}
use Rattle.lane_core.specs.declared.packet.LaneRefusal.TheVariants as lanes
use Rattle.fabric_steps.specs.declared.fault.Refusal.TheVariants as refusals
use Rattle.hall_events.specs.declared.refusal.HallRefusal.{HallRefusal}
use Rattle.hall_events.specs.declared.refusal.HallRefusal.TheVariants.{Busy, Core}
use Rattle.worker_turns.specs.declared.stop.Stop.{Stop}
use Rattle.worker_turns.specs.declared.stop.Stop.TheVariants as stops

-- none where what the call lacked comes back: a part, a tag, credits, room in the window
abbrev pub stop_by : HallRefusal → Option Stop
stop_by (Busy part word) = None
stop_by (Core (refusals.Submit TagsUsed)) = None
stop_by (Core (refusals.Lane (lanes.NoCredits class))) = None
stop_by (Core (refusals.Lane lanes.WindowFull)) = None
stop_by (Core (refusals.Lane lanes.Memory)) = Some stops.Memory
stop_by (Core refusals.Memory) = Some stops.Memory
stop_by (Core r) = Some (stops.Core r)
