-- The numbers and names under which refusals are told.
use Rattle.std.specs.Prelude.{ℕ, ◌≡◌, Bool, true, false, List, codes}
use Rattle.lane_core.specs.declared.packet.LaneRefusal.TheVariants as no_room
use Rattle.fabric_steps.specs.declared.fault.Refusal.{Refusal}
use Rattle.fabric_steps.specs.declared.fault.Refusal.TheVariants as refusals
use Rattle.requester_core.specs.Faults as submits
use Rattle.lane_core.specs.Refusals as lanes

abbrev pub refusal_number : Refusal → ℕ
refusal_number refusals.NoSuchPart = 1
refusal_number refusals.Idle = 2
refusal_number refusals.NotTakeable = 3
refusal_number (refusals.Submit r) = 4
refusal_number (refusals.Lane r) = 5
refusal_number refusals.Memory = 6
refusal_number (refusals.Protocol f) = 7
refusal_number (refusals.Strange f) = 8
refusal_number (refusals.Route f) = 9

abbrev pub refusal_name : Refusal → List ℕ
refusal_name refusals.NoSuchPart = codes "NoSuchPart"
refusal_name refusals.Idle = codes "Idle"
refusal_name refusals.NotTakeable = codes "NotTakeable"
refusal_name (refusals.Submit r) = submits.refusal_name r
refusal_name (refusals.Lane r) = lanes.name_of r
refusal_name refusals.Memory = codes "Memory"
refusal_name (refusals.Protocol f) = codes "Protocol"
refusal_name (refusals.Strange f) = codes "Strange"
refusal_name (refusals.Route f) = codes "Route"

-- an allocation failed
abbrev pub is_memory : Refusal → Bool
is_memory refusals.Memory = true
is_memory (refusals.Lane no_room.Memory) = true
is_memory _ = false

-- another refusal than being out of memory, which no fabric tells when it comes
abbrev pub IsTold : Refusal → Type 0
IsTold r = is_memory r ≡ false
