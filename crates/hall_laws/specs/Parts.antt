-- The parts of a fabric in one list: those of port 0, the memory and its two lanes, then those of each requester's
-- port.
use Rattle.std.specs.Prelude.{ℕ, ◌≡◌, ◌<◌, ◌≤◌, suc, ◌+◌, ◌*◌, List, [], ◌∷◌, ◌++◌, Some, slice_get}
use mathlib.Core.Option.{some}
use lib.ListN.{get_elem?}
use Rattle.dllp_core.specs.declared.packet.Dllp.{Dllp}
use Rattle.seq_memory.specs.History.{MemoryView}
use Rattle.requester_core.specs.RequesterView.{RequesterView}
use Rattle.lane_core.specs.declared.packet.WirePacket.{WirePacket}
use Rattle.lane_core.specs.Steps.{LaneEndsView, ReceiverEndView, SenderEndView}
use Rattle.fabric_steps.specs.Fabric.{Fabric}
use Rattle.fabric_steps.specs.declared.event.LaneName.{LaneName}
use Rattle.fabric_steps.specs.declared.event.LaneName.TheVariants.{Up, Down, Inward, Outward}
pub use Rattle.fabric_core.specs.Steps.{HasLane, with_lane}
use Rattle.fabric_core.specs.Steps.{HasLanes}
use Rattle.hall_laws.specs.declared.part.PartValue.{PartValue}
use Rattle.hall_laws.specs.declared.part.Part.{Part}
use Rattle.hall_laws.specs.declared.part.Part.TheVariants as names
use Rattle.hall_laws.specs.declared.part.PartValue.TheVariants.{Memory, Requester, Sender, Forward, Back, Receiver}

-- what stands at a port: the memory with the lanes to it and from it, or a requester with the lanes from it and to it
pub record Station : Type 0 where
  pub node : PartValue
  pub first : LaneEndsView
  pub second : LaneEndsView

abbrev pub ends : LaneEndsView → List PartValue
ends e = Sender e.sender ∷ Forward e.forward ∷ Back e.back ∷ Receiver e.receiver ∷ []

abbrev pub nine : Station → List PartValue
nine s = s.node ∷ (ends s.first ++ ends s.second)

abbrev pub flat : List Station → List PartValue
flat [] = []
flat (s ∷ ss) = nine s ++ flat ss

abbrev pub stations : List RequesterView → List LaneEndsView → List LaneEndsView → List Station
stations (q ∷ qs) (u ∷ us) (d ∷ ds) = record { node = Requester q; first = u; second = d } ∷ stations qs us ds
stations _ _ _ = []

abbrev pub stations_of : Fabric → List Station
stations_of f = record { node = Memory f.memory; first = f.inward; second = f.outward } ∷ stations f.requesters f.up f.down

abbrev pub parts_of : Fabric → List PartValue
parts_of f = flat (stations_of f)

-- the slots of a port: its node, then the ends of its first lane, then those of its second
abbrev pub slot : ℕ → ℕ → ℕ
slot port offset = 9 * port + offset

abbrev pub lane_slot : LaneName → ℕ
lane_slot (Up port) = slot port 1
lane_slot (Down port) = slot port 5
lane_slot Inward = 1
lane_slot Outward = 5

-- a fabric with so many requesters has a lane of that name
abbrev pub IsLaneName : ℕ → LaneName → Type 0
IsLaneName count (Up port) = (0 < port) × (port ≤ count)
IsLaneName count (Down port) = (0 < port) × (port ≤ count)
IsLaneName count Inward = Unit {0}
IsLaneName count Outward = Unit {0}

abbrev pub part_slot : Part → ℕ
part_slot names.Memory = 0
part_slot (names.Requester port) = slot port 0
part_slot (names.SenderEnd name) = lane_slot name
part_slot (names.ForwardWire name) = lane_slot name + 1
part_slot (names.BackWire name) = lane_slot name + 2
part_slot (names.ReceiverEnd name) = lane_slot name + 3

-- a fabric with so many requesters has that part
abbrev pub IsPartName : ℕ → Part → Type 0
IsPartName count names.Memory = Unit {0}
IsPartName count (names.Requester port) = (0 < port) × (port ≤ count)
IsPartName count (names.SenderEnd name) = IsLaneName count name
IsPartName count (names.ForwardWire name) = IsLaneName count name
IsPartName count (names.BackWire name) = IsLaneName count name
IsPartName count (names.ReceiverEnd name) = IsLaneName count name

-- the kinds of parts
abbrev pub IsMemory : PartValue → Type 0
IsMemory v = (m : MemoryView) × (v ≡ Memory m)

abbrev pub IsRequester : PartValue → Type 0
IsRequester v = (q : RequesterView) × (v ≡ Requester q)

abbrev pub IsSender : PartValue → Type 0
IsSender v = (s : SenderEndView) × (v ≡ Sender s)

abbrev pub IsForward : PartValue → Type 0
IsForward v = (w : List WirePacket) × (v ≡ Forward w)

abbrev pub IsBack : PartValue → Type 0
IsBack v = (b : List Dllp) × (v ≡ Back b)

abbrev pub IsReceiver : PartValue → Type 0
IsReceiver v = (r : ReceiverEndView) × (v ≡ Receiver r)

-- the part of that name is of this kind
abbrev pub IsPartValue : Part → PartValue → Type 0
IsPartValue names.Memory v = IsMemory v
IsPartValue (names.Requester port) v = IsRequester v
IsPartValue (names.SenderEnd name) v = IsSender v
IsPartValue (names.ForwardWire name) v = IsForward v
IsPartValue (names.BackWire name) v = IsBack v
IsPartValue (names.ReceiverEnd name) v = IsReceiver v

-- the requester of a port stands at its slot
abbrev pub RequestersAreInSlots : Type 0
RequestersAreInSlots = (f : Fabric) → HasLanes f → (i : ℕ) (q : RequesterView) (k : ℕ) → slice_get f.requesters i ≡ Some q → k ≡ slot (suc i) 0 → get_elem? (parts_of f) k ≡ some (Requester q)

-- the four ends of a lane stand at its slot and the three after it
abbrev pub EndsAreInSlots : Type 0
EndsAreInSlots = (f : Fabric) → HasLanes f → (name : LaneName) (e : LaneEndsView) (c k : ℕ) → HasLane f name e → c < 4 → k ≡ lane_slot name + c → get_elem? (parts_of f) k ≡ get_elem? (ends e) c
