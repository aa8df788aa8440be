-- Why a lane refuses.
use Rattle.std.specs.Prelude.{ℕ, ◌≡◌, ◌≤◌, true, false, length, List, codes}
use Rattle.flow_control.specs.declared.needs.Need.{Need}
use Rattle.flow_control.specs.Credits.{gate_covers}
use Rattle.lane_core.specs.declared.packet.LaneRefusal.{LaneRefusal}
use Rattle.lane_core.specs.declared.packet.LaneRefusal.TheVariants as lanes
use Rattle.lane_core.specs.Steps.{SenderEndView, may_enter}

-- the place of a refusal in the order, from 1
abbrev pub number_of : LaneRefusal → ℕ
number_of (lanes.NoCredits class) = 1
number_of lanes.WindowFull = 2
number_of lanes.Memory = 3

abbrev pub name_of : LaneRefusal → List ℕ
name_of (lanes.NoCredits class) = codes "NoCredits"
name_of lanes.WindowFull = codes "WindowFull"
name_of lanes.Memory = codes "Memory"

-- why there is no room for a packet of this need: `Memory` comes only where credits and window have room
abbrev pub LacksRoom : SenderEndView → Need → LaneRefusal → Type 0
LacksRoom s need (lanes.NoCredits class) = (class ≡ need.class) × (gate_covers s.gate need ≡ false)
LacksRoom s need lanes.WindowFull = (gate_covers s.gate need ≡ true) × (2047 ≤ length s.sending.kept)
LacksRoom s need lanes.Memory = may_enter s need ≡ true
