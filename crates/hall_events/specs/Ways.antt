-- The way of a packet through the switch, and what a packet that goes on owes.
use Rattle.std.specs.Prelude.{◌≡◌, ◌⊎◌, ◌+◌, ◌<◌, ◌≤◌, ℕ, List, [], ◌∷◌, Ok, Err}
use Rattle.lane_core.specs.Steps.{ReceiverEndView, SenderEndView}
use Rattle.switch_core.specs.declared.route_fault.RouteFault.TheVariants.{NoPort}
use Rattle.fabric_steps.specs.declared.event.EventOf.TheVariants.{Forward}
use Rattle.fabric_steps.specs.declared.event.LaneName.{LaneName}
use Rattle.fabric_steps.specs.declared.event.LaneName.TheVariants as lanes
use Rattle.fabric_steps.specs.declared.event.SeenOf.TheVariants.{To}
use Rattle.fabric_steps.specs.declared.fault.Refusal.{Refusal}
use Rattle.fabric_steps.specs.declared.fault.Refusal.TheVariants.{Route}
use Rattle.fabric_core.specs.Answers.{Refuses, lane_grows, destination_on, forward_on, ForwardFits}
use Rattle.hall_laws.specs.declared.part.PartValue.TheVariants.{Sender, Receiver}
use Rattle.hall_laws.specs.declared.token.Token.{Token}
use Rattle.hall_laws.specs.Causes.{KnownHolding}
use Rattle.hall_laws.specs.Parts.{lane_slot}
use Rattle.hall_laws.specs.Rule.{Goes, after_silent}
use Rattle.hall_laws.specs.Shows.{MayRefuse}

-- a lane to the switch, of a fabric with so many requesters
abbrev pub LeadsIn : ℕ → LaneName → Type 0
LeadsIn requesters (lanes.Up port) = (0 < port) × (port ≤ requesters)
LeadsIn requesters lanes.Outward = Unit {0}
LeadsIn requesters _ = ⊥

-- the packet at this place of the lane goes to this port, by the next lane
abbrev pub Leads : ℕ → LaneName → ReceiverEndView → ℕ → ℕ → LaneName → Type 0
Leads requesters (lanes.Up port) r place to next = (destination_on r place port ≡ Ok to) × (next ≡ lanes.Inward)
Leads requesters lanes.Outward r place to next = (destination_on r place 0 ≡ Ok to) × (next ≡ lanes.Down to) × (0 < to) × (to ≤ requesters)
Leads requesters _ r place to next = ⊥

-- it has no way, or goes to a port that has no lane
abbrev pub HasNoWay : ℕ → LaneName → ReceiverEndView → ℕ → Refusal → Type 0
HasNoWay requesters (lanes.Up port) r place why = destination_on r place port ≡ Err why
HasNoWay requesters lanes.Outward r place why =
    (destination_on r place 0 ≡ Err why) ⊎ ((why ≡ Route NoPort) × (to : ℕ) × (destination_on r place 0 ≡ Ok to) × ((to ≡ 0) ⊎ (requesters < to)))
HasNoWay requesters _ r place why = ⊥

-- over the receiver's end and the next sender's, which its token holds as it took them, the event is one of the fabric
abbrev pub ForwardOwes : Type 0
ForwardOwes = (t : Token) (name next : LaneName) (place to : ℕ) (r r' : ReceiverEndView) (s s' : SenderEndView) → LeadsIn t.knows.config.requesters name
    → Leads t.knows.config.requesters name r place to next
    → t.held ≡ (lane_slot next, Sender s) ∷ ((lane_slot name + 3, Receiver r) ∷ [])
    → forward_on r place s ≡ Ok (r', s') → ForwardFits r place
    → Goes (Forward name place) (To to) t (lane_slot name + 3) (Receiver r') (after_silent (Forward name place) (To to) ((lane_slot next, Sender s') ∷ []) t)

-- where they refuse it, so does the fabric
abbrev pub ForwardIsRefused : Type 0
ForwardIsRefused = (t : Token) (ts : List Token) (name next : LaneName) (place to : ℕ) (r : ReceiverEndView) (s : SenderEndView) (why : Refusal) → LeadsIn t.knows.config.requesters name
    → Leads t.knows.config.requesters name r place to next
    → KnownHolding t ts ((lane_slot next, Sender s) ∷ ((lane_slot name + 3, Receiver r) ∷ []))
    → Refuses lane_grows (forward_on r place s) why → MayRefuse t.knows (Forward name place) why

-- and so it does where the packet has no way
abbrev pub PacketHasNoWay : Type 0
PacketHasNoWay = (t : Token) (ts : List Token) (name : LaneName) (place : ℕ) (r : ReceiverEndView) (why : Refusal) → LeadsIn t.knows.config.requesters name
    → KnownHolding t ts ((lane_slot name + 3, Receiver r) ∷ [])
    → HasNoWay t.knows.config.requesters name r place why → MayRefuse t.knows (Forward name place) why
