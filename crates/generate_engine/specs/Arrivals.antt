-- What becomes of the packets and DLLPs of a storm: which count each has, and how the counts are kept.
use Rattle.std.specs.Prelude.{ℕ, ◌+◌, ◌%◌, ◌^◌, ◌≡◌, ◌<◌, ◌==◌, Bool, false, List, ◌∷◌, ◌++◌, length, replicate, slice_index, slice_set, count_by}
use Rattle.fabric_steps.specs.declared.event.LaneName.{LaneName}
use Rattle.fabric_steps.specs.declared.event.LaneName.TheVariants as lanes
use Rattle.fabric_steps.specs.Event.{Event}
use Rattle.fabric_steps.specs.declared.event.EventOf.TheVariants as events
use Rattle.parameters.specs.Fates.{fate_of}

-- ---- fates by the events before

-- ports are 1 to 7, so each lane has a place of its own below 16
abbrev pub lane_place : LaneName → ℕ
lane_place lanes.Inward = 0
lane_place (lanes.Up port) = port
lane_place lanes.Outward = 8
lane_place (lanes.Down port) = port + 8

-- a packet reaches the end of that lane's forward wire, or doesn't
abbrev pub is_packet_at : ℕ → Event → Bool
is_packet_at place (events.Deliver lane fate) = lane_place lane == place
is_packet_at place _ = false

-- a DLLP reaches the end of that lane's back wire, or doesn't
abbrev pub is_dllp_at : ℕ → Event → Bool
is_dllp_at place (events.DeliverDllp lane fate) = lane_place lane == place
is_dllp_at place _ = false

-- how many of the lane
abbrev pub packets_on : LaneName → List Event → ℕ
packets_on lane before = count_by (is_packet_at (lane_place lane)) before

abbrev pub dllps_on : LaneName → List Event → ℕ
dllps_on lane before = count_by (is_dllp_at (lane_place lane)) before

-- after these events, a packet has the plan's fate of its count on its lane, the first one that of 1; so has a DLLP
abbrev pub IsFated : ℕ → ℕ → List Event → Event → Type 0
IsFated lose corrupt before (events.Deliver lane fate) = fate ≡ fate_of lose corrupt (packets_on lane before + 1)
IsFated lose corrupt before (events.DeliverDllp lane fate) = fate ≡ fate_of lose corrupt (dllps_on lane before + 1)
IsFated lose corrupt before _ = Unit {0}

-- each event of a list, after those before it
abbrev pub AreFated : ℕ → ℕ → List Event → Type 0
AreFated lose corrupt all = (before : List Event) (event : Event) (after : List Event) → all ≡ before ++ event ∷ after → IsFated lose corrupt before event

-- ---- counts

-- a plan, and how many packets and DLLPs have come under it: by the places of their lanes, modulo 2 ^ 64
pub record ArrivalsView : Type 0 where
  pub lose : ℕ
  pub corrupt : ℕ
  pub packets : List ℕ
  pub dllps : List ℕ

abbrev pub nothing_arrived : ℕ → ℕ → ArrivalsView
nothing_arrived lose corrupt = record { lose = lose; corrupt = corrupt; packets = replicate 16 0; dllps = replicate 16 0 }

-- the count of the lane's next one
abbrev pub next_on : List ℕ → LaneName → ℕ
next_on counts lane = (slice_index counts (lane_place lane) + 1) % 2 ^ 64

-- the counts with it
abbrev pub with_next : List ℕ → LaneName → List ℕ
with_next counts lane = slice_set counts (lane_place lane) (next_on counts lane)

-- what comes has the plan's fate of its lane's next count
abbrev pub HasFate : ArrivalsView → Event → Type 0
HasFate a (events.Deliver lane fate) = fate ≡ fate_of a.lose a.corrupt (next_on a.packets lane)
HasFate a (events.DeliverDllp lane fate) = fate ≡ fate_of a.lose a.corrupt (next_on a.dllps lane)
HasFate a _ = Unit {0}

abbrev pub with_event : ArrivalsView → Event → ArrivalsView
with_event a (events.Deliver lane fate) = record { lose = a.lose; corrupt = a.corrupt; packets = with_next a.packets lane; dllps = a.dllps }
with_event a (events.DeliverDllp lane fate) = record { lose = a.lose; corrupt = a.corrupt; packets = a.packets; dllps = with_next a.dllps lane }
with_event a _ = a

-- the event has its fate, and is counted
pub record IsCounted (a : ArrivalsView) (event : Event) (a' : ArrivalsView) : Type 0 where
  pub fate : HasFate a event
  pub counted : a' ≡ with_event a event

-- ---- what the counts say of the events

-- at each place, how many of the events pass its test
pub record AreCounts (test : ℕ → Event → Bool) (all : List Event) (counts : List ℕ) : Type 0 where
  pub places : length counts ≡ 16
  pub each : (place : ℕ) → place < 16 → slice_index counts place ≡ count_by (test place) all % 2 ^ 64

-- all these events have their fates, and the counts are theirs
pub record IsAfter (lose corrupt : ℕ) (all : List Event) (a : ArrivalsView) : Type 0 where
  pub fated : AreFated lose corrupt all
  pub plan : (a.lose ≡ lose) × (a.corrupt ≡ corrupt)
  pub packets : AreCounts is_packet_at all a.packets
  pub dllps : AreCounts is_dllp_at all a.dllps
