-- The duty of each event: over the parts that its token holds it is a step of the fabric, of which the part that was
-- taken first is released.
use Rattle.std.specs.Prelude.{◌≡◌, ℕ, suc, ◌+◌, ◌≤◌, List, [], ◌∷◌, Ok}
use Rattle.tlp_core.specs.Ops.{Op}
use Rattle.dllp_core.specs.declared.packet.Dllp.{Dllp}
use Rattle.seq_memory.specs.History.{MemoryView}
use Rattle.requester_core.specs.Answers.{Answer}
use Rattle.requester_core.specs.RequesterView.{RequesterView}
use Rattle.lane_core.specs.declared.packet.WirePacket.{WirePacket}
use Rattle.lane_core.specs.declared.packet.Fate.{Fate}
use Rattle.lane_core.specs.declared.packet.Arrival.{Arrival}
use Rattle.lane_core.specs.declared.packet.DllpKind.{DllpKind}
use Rattle.lane_core.specs.declared.packet.DllpSeen.{DllpSeen}
use Rattle.lane_core.specs.Steps.{ReceiverEndView, SenderEndView}
use Rattle.fabric_steps.specs.declared.event.EventOf.TheVariants as events
use Rattle.fabric_steps.specs.declared.event.LaneName.{LaneName}
use Rattle.fabric_steps.specs.declared.event.LaneName.TheVariants as lanes
use Rattle.fabric_steps.specs.declared.event.SeenOf.TheVariants as seen
use Rattle.fabric_core.specs.Answers.{transmit_on, deliver_on, send_dllp_on, deliver_dllp_on, timer_on, retrained_on, submit_on, destination_on, forward_on, serve_on, collect_on, SubmitFits, ForwardFits, ServeFits}
use Rattle.hall_laws.specs.declared.part.PartValue.TheVariants.{Memory, Requester, Sender, Forward, Back, Receiver}
use Rattle.hall_laws.specs.declared.token.Token.{Token}
use Rattle.hall_laws.specs.Parts.{slot, lane_slot, IsLaneName}
use Rattle.hall_laws.specs.Rule.{Goes, after_event, after_silent}

-- the token's fabric has this lane
abbrev pub KnowsLane : Token → LaneName → Type 0
KnowsLane t name = IsLaneName t.knows.config.requesters name

abbrev pub TransmitOwes : Type 0
TransmitOwes = (t : Token) (name : LaneName) (s s' : SenderEndView) (w w' : List WirePacket) (n : ℕ) → KnowsLane t name
    → t.held ≡ (lane_slot name + 1, Forward w) ∷ ((lane_slot name, Sender s) ∷ [])
    → transmit_on s w ≡ Ok (n, s', w')
    → Goes (events.Transmit name) (seen.Sent n) t (lane_slot name) (Sender s') (after_silent (events.Transmit name) (seen.Sent n) ((lane_slot name + 1, Forward w') ∷ []) t)

abbrev pub DeliverOwes : Type 0
DeliverOwes = (t : Token) (name : LaneName) (w w' : List WirePacket) (r r' : ReceiverEndView) (fate : Fate) (x : Arrival) → KnowsLane t name
    → t.held ≡ (lane_slot name + 3, Receiver r) ∷ ((lane_slot name + 1, Forward w) ∷ [])
    → deliver_on w r fate ≡ Ok (x, w', r')
    → Goes (events.Deliver name fate) (seen.Delivered x) t (lane_slot name + 1) (Forward w') (after_silent (events.Deliver name fate) (seen.Delivered x) ((lane_slot name + 3, Receiver r') ∷ []) t)

abbrev pub SendDllpOwes : Type 0
SendDllpOwes = (t : Token) (name : LaneName) (r r' : ReceiverEndView) (b b' : List Dllp) (kind : DllpKind) (d : Dllp) → KnowsLane t name
    → t.held ≡ (lane_slot name + 2, Back b) ∷ ((lane_slot name + 3, Receiver r) ∷ [])
    → send_dllp_on r b kind ≡ Ok (d, r', b')
    → Goes (events.SendDllp name kind) (seen.SentDllp d) t (lane_slot name + 3) (Receiver r') (after_silent (events.SendDllp name kind) (seen.SentDllp d) ((lane_slot name + 2, Back b') ∷ []) t)

abbrev pub DeliverDllpOwes : Type 0
DeliverDllpOwes = (t : Token) (name : LaneName) (b b' : List Dllp) (s s' : SenderEndView) (fate : Fate) (x : DllpSeen) → KnowsLane t name
    → t.held ≡ (lane_slot name, Sender s) ∷ ((lane_slot name + 2, Back b) ∷ [])
    → deliver_dllp_on b s fate ≡ Ok (x, b', s')
    → Goes (events.DeliverDllp name fate) (seen.SeenDllp x) t (lane_slot name + 2) (Back b') (after_silent (events.DeliverDllp name fate) (seen.SeenDllp x) ((lane_slot name, Sender s') ∷ []) t)

abbrev pub TimerOwes : Type 0
TimerOwes = (t : Token) (name : LaneName) (s s' : SenderEndView) (n : ℕ) → KnowsLane t name
    → t.held ≡ (lane_slot name, Sender s) ∷ []
    → timer_on s ≡ Ok (n, s')
    → Goes (events.Timer name) (seen.Back n) t (lane_slot name) (Sender s') (after_silent (events.Timer name) (seen.Back n) [] t)

abbrev pub RetrainedOwes : Type 0
RetrainedOwes = (t : Token) (name : LaneName) (s s' : SenderEndView) → KnowsLane t name
    → t.held ≡ (lane_slot name, Sender s) ∷ []
    → retrained_on s ≡ Ok s'
    → Goes (events.Retrained name) seen.Retrained t (lane_slot name) (Sender s') (after_silent (events.Retrained name) seen.Retrained [] t)

-- the packet of a place of an `up` lane goes into `in`
abbrev pub ForwardUpOwes : Type 0
ForwardUpOwes = (t : Token) (port place to : ℕ) (r r' : ReceiverEndView) (s s' : SenderEndView) → KnowsLane t (lanes.Up port)
    → t.held ≡ (1, Sender s) ∷ ((slot port 1 + 3, Receiver r) ∷ [])
    → destination_on r place port ≡ Ok to → forward_on r place s ≡ Ok (r', s') → ForwardFits r place
    → Goes (events.Forward (lanes.Up port) place) (seen.To to) t (slot port 1 + 3) (Receiver r') (after_silent (events.Forward (lanes.Up port) place) (seen.To to) ((1, Sender s') ∷ []) t)

-- the packet of a place of `out` goes into the `down` lane of its port
abbrev pub ForwardOutOwes : Type 0
ForwardOutOwes = (t : Token) (place to : ℕ) (r r' : ReceiverEndView) (s s' : SenderEndView) → KnowsLane t (lanes.Down to)
    → t.held ≡ (slot to 5, Sender s) ∷ ((8, Receiver r) ∷ [])
    → destination_on r place 0 ≡ Ok to → forward_on r place s ≡ Ok (r', s') → ForwardFits r place
    → Goes (events.Forward lanes.Outward place) (seen.To to) t 8 (Receiver r') (after_silent (events.Forward lanes.Outward place) (seen.To to) ((slot to 5, Sender s') ∷ []) t)

-- the request of a place of `in` acts on the memory, which stays held with its new value
abbrev pub ServeOwes : Type 0
ServeOwes = (t : Token) (place at : ℕ) (r r' : ReceiverEndView) (m m' : MemoryView) (s s' : SenderEndView)
    → t.held ≡ (5, Sender s) ∷ ((0, Memory m) ∷ ((4, Receiver r) ∷ []))
    → serve_on r place m s ≡ Ok (at, r', m', s') → ServeFits r place m
    → Goes (events.Serve place) (seen.At at) t 4 (Receiver r') (after_event (events.Serve place) (seen.At at) m.entries ((0, Memory m') ∷ ((5, Sender s') ∷ [])) t)

-- the seat of the requester at this port
abbrev pub IsAtPort : Token → ℕ → Type 0
IsAtPort t port = (port ≡ suc t.knows.number) × (port ≤ t.knows.config.requesters)

abbrev pub SubmitOwes : Type 0
SubmitOwes = (t : Token) (port number : ℕ) (op : Op) (m : MemoryView) (q q' : RequesterView) (s s' : SenderEndView) → IsAtPort t port
    → t.held ≡ (slot port 1, Sender s) ∷ ((slot port 0, Requester q) ∷ ((0, Memory m) ∷ []))
    → submit_on q s op ≡ Ok (number, q', s') → SubmitFits q op
    → Goes (events.Submit port op) (seen.Submitted number) t (slot port 0) (Requester q') (after_event (events.Submit port op) (seen.Submitted number) m.entries ((slot port 1, Sender s') ∷ ((0, Memory m) ∷ [])) t)

abbrev pub CollectOwes : Type 0
CollectOwes = (t : Token) (port : ℕ) (a : Answer) (m : MemoryView) (q q' : RequesterView) (r r' : ReceiverEndView) → IsAtPort t port
    → t.held ≡ (slot port 5 + 3, Receiver r) ∷ ((slot port 0, Requester q) ∷ ((0, Memory m) ∷ []))
    → collect_on r q ≡ Ok (a, r', q')
    → Goes (events.Collect port) (seen.Collected a) t (slot port 0) (Requester q') (after_event (events.Collect port) (seen.Collected a) m.entries ((slot port 5 + 3, Receiver r') ∷ ((0, Memory m) ∷ [])) t)
