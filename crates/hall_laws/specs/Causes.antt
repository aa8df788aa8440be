-- A refusal by the parts that a token holds is one by the fabric.
use Rattle.std.specs.Prelude.{◌≡◌, ◌⊎◌, ℕ, ◌+◌, ◌<◌, List, [], ◌∷◌, Ok, Err}
use Rattle.tlp_core.specs.Ops.{Op}
use Rattle.dllp_core.specs.declared.packet.Dllp.{Dllp}
use Rattle.seq_memory.specs.History.{MemoryView}
use Rattle.requester_core.specs.RequesterView.{RequesterView}
use Rattle.lane_core.specs.declared.packet.WirePacket.{WirePacket}
use Rattle.lane_core.specs.declared.packet.Fate.{Fate}
use Rattle.lane_core.specs.declared.packet.DllpKind.{DllpKind}
use Rattle.lane_core.specs.Steps.{ReceiverEndView, SenderEndView}
use Rattle.switch_core.specs.declared.route_fault.RouteFault.TheVariants.{NoPort}
use Rattle.fabric_steps.specs.declared.event.EventOf.TheVariants as events
use Rattle.fabric_steps.specs.declared.event.LaneName.{LaneName}
use Rattle.fabric_steps.specs.declared.event.LaneName.TheVariants as lanes
use Rattle.fabric_steps.specs.declared.fault.Refusal.{Refusal}
use Rattle.fabric_steps.specs.declared.fault.Refusal.TheVariants as refusals
use Rattle.fabric_core.specs.Answers.{Refuses, lane_grows, arrival_grows, serving_grows, transmit_on, deliver_on, send_dllp_on, deliver_dllp_on, timer_on, retrained_on, submit_on, destination_on, forward_on, serve_on, collect_on}
use Rattle.hall_laws.specs.declared.part.PartValue.TheVariants.{Memory, Requester, Sender, Forward, Back, Receiver}
use Rattle.hall_laws.specs.declared.token.Token.{Token}
use Rattle.hall_laws.specs.Parts.{slot, lane_slot}
use Rattle.hall_laws.specs.Standing.{Values}
use Rattle.hall_laws.specs.Rule.{Known}
use Rattle.hall_laws.specs.Duties.{KnowsLane, IsAtPort}
use Rattle.hall_laws.specs.Shows.{MayRefuse}

-- the tokens fit a sound fabric, and the first holds these parts
abbrev pub KnownHolding : Token → List Token → Values → Type 0
KnownHolding t ts held = Known (t ∷ ts) × (t.held ≡ held)

abbrev pub TransmitIsRefused : Type 0
TransmitIsRefused = (t : Token) (ts : List Token) (name : LaneName) (s : SenderEndView) (w : List WirePacket) (r : Refusal) → KnowsLane t name
    → KnownHolding t ts ((lane_slot name + 1, Forward w) ∷ ((lane_slot name, Sender s) ∷ []))
    → Refuses lane_grows (transmit_on s w) r → MayRefuse t.knows (events.Transmit name) r

-- the sender has no packet to send, whatever the wire has
abbrev pub SenderHasNothing : Type 0
SenderHasNothing = (t : Token) (ts : List Token) (name : LaneName) (s : SenderEndView) → KnowsLane t name
    → KnownHolding t ts ((lane_slot name, Sender s) ∷ [])
    → ((w : List WirePacket) → transmit_on s w ≡ Err refusals.Idle) → MayRefuse t.knows (events.Transmit name) refusals.Idle

abbrev pub DeliverIsRefused : Type 0
DeliverIsRefused = (t : Token) (ts : List Token) (name : LaneName) (w : List WirePacket) (v : ReceiverEndView) (fate : Fate) (r : Refusal) → KnowsLane t name
    → KnownHolding t ts ((lane_slot name + 3, Receiver v) ∷ ((lane_slot name + 1, Forward w) ∷ []))
    → Refuses (λ x. arrival_grows x.0) (deliver_on w v fate) r → MayRefuse t.knows (events.Deliver name fate) r

-- the forward wire is empty, whatever the receiver has
abbrev pub WireHasNothing : Type 0
WireHasNothing = (t : Token) (ts : List Token) (name : LaneName) (w : List WirePacket) (fate : Fate) → KnowsLane t name
    → KnownHolding t ts ((lane_slot name + 1, Forward w) ∷ [])
    → ((v : ReceiverEndView) → deliver_on w v fate ≡ Err refusals.Idle) → MayRefuse t.knows (events.Deliver name fate) refusals.Idle

abbrev pub SendDllpIsRefused : Type 0
SendDllpIsRefused = (t : Token) (ts : List Token) (name : LaneName) (v : ReceiverEndView) (b : List Dllp) (kind : DllpKind) (r : Refusal) → KnowsLane t name
    → KnownHolding t ts ((lane_slot name + 2, Back b) ∷ ((lane_slot name + 3, Receiver v) ∷ []))
    → Refuses lane_grows (send_dllp_on v b kind) r → MayRefuse t.knows (events.SendDllp name kind) r

abbrev pub DeliverDllpIsRefused : Type 0
DeliverDllpIsRefused = (t : Token) (ts : List Token) (name : LaneName) (b : List Dllp) (s : SenderEndView) (fate : Fate) (r : Refusal) → KnowsLane t name
    → KnownHolding t ts ((lane_slot name, Sender s) ∷ ((lane_slot name + 2, Back b) ∷ []))
    → deliver_dllp_on b s fate ≡ Err r → MayRefuse t.knows (events.DeliverDllp name fate) r

-- the back wire is empty, whatever the sender has
abbrev pub BackHasNothing : Type 0
BackHasNothing = (t : Token) (ts : List Token) (name : LaneName) (b : List Dllp) (fate : Fate) → KnowsLane t name
    → KnownHolding t ts ((lane_slot name + 2, Back b) ∷ [])
    → ((s : SenderEndView) → deliver_dllp_on b s fate ≡ Err refusals.Idle) → MayRefuse t.knows (events.DeliverDllp name fate) refusals.Idle

abbrev pub TimerIsRefused : Type 0
TimerIsRefused = (t : Token) (ts : List Token) (name : LaneName) (s : SenderEndView) (r : Refusal) → KnowsLane t name
    → KnownHolding t ts ((lane_slot name, Sender s) ∷ [])
    → timer_on s ≡ Err r → MayRefuse t.knows (events.Timer name) r

abbrev pub RetrainedIsRefused : Type 0
RetrainedIsRefused = (t : Token) (ts : List Token) (name : LaneName) (s : SenderEndView) (r : Refusal) → KnowsLane t name
    → KnownHolding t ts ((lane_slot name, Sender s) ∷ [])
    → retrained_on s ≡ Err r → MayRefuse t.knows (events.Retrained name) r

-- of a packet of an `up` lane that has no way, or may not go
abbrev pub UpHasNoWay : Type 0
UpHasNoWay = (t : Token) (ts : List Token) (port place : ℕ) (v : ReceiverEndView) (r : Refusal) → KnowsLane t (lanes.Up port)
    → KnownHolding t ts ((slot port 1 + 3, Receiver v) ∷ [])
    → destination_on v place port ≡ Err r → MayRefuse t.knows (events.Forward (lanes.Up port) place) r

abbrev pub UpIsKept : Type 0
UpIsKept = (t : Token) (ts : List Token) (port place to : ℕ) (v : ReceiverEndView) (s : SenderEndView) (r : Refusal) → KnowsLane t (lanes.Up port)
    → KnownHolding t ts ((1, Sender s) ∷ ((slot port 1 + 3, Receiver v) ∷ []))
    → destination_on v place port ≡ Ok to → Refuses lane_grows (forward_on v place s) r → MayRefuse t.knows (events.Forward (lanes.Up port) place) r

-- of a packet of `out` that has no way, or may not go
abbrev pub OutHasNoWay : Type 0
OutHasNoWay = (t : Token) (ts : List Token) (place : ℕ) (v : ReceiverEndView) (r : Refusal)
    → KnownHolding t ts ((8, Receiver v) ∷ [])
    → destination_on v place 0 ≡ Err r → MayRefuse t.knows (events.Forward lanes.Outward place) r

-- the port of the packet has no lane
abbrev pub OutHasNoLane : Type 0
OutHasNoLane = (t : Token) (ts : List Token) (place to : ℕ) (v : ReceiverEndView)
    → KnownHolding t ts ((8, Receiver v) ∷ [])
    → destination_on v place 0 ≡ Ok to → (to ≡ 0) ⊎ (t.knows.config.requesters < to) → MayRefuse t.knows (events.Forward lanes.Outward place) (refusals.Route NoPort)

abbrev pub OutIsKept : Type 0
OutIsKept = (t : Token) (ts : List Token) (place to : ℕ) (v : ReceiverEndView) (s : SenderEndView) (r : Refusal) → KnowsLane t (lanes.Down to)
    → KnownHolding t ts ((slot to 5, Sender s) ∷ ((8, Receiver v) ∷ []))
    → destination_on v place 0 ≡ Ok to → Refuses lane_grows (forward_on v place s) r → MayRefuse t.knows (events.Forward lanes.Outward place) r

abbrev pub ServeIsRefused : Type 0
ServeIsRefused = (t : Token) (ts : List Token) (place : ℕ) (v : ReceiverEndView) (m : MemoryView) (s : SenderEndView) (r : Refusal)
    → KnownHolding t ts ((5, Sender s) ∷ ((0, Memory m) ∷ ((4, Receiver v) ∷ [])))
    → Refuses (λ x. serving_grows s x.3) (serve_on v place m s) r → MayRefuse t.knows (events.Serve place) r

-- `in` has no request at the place that may be taken, whatever the memory and `out` have
abbrev pub InHasNothing : Type 0
InHasNothing = (t : Token) (ts : List Token) (place : ℕ) (v : ReceiverEndView)
    → KnownHolding t ts ((4, Receiver v) ∷ [])
    → ((m : MemoryView) (s : SenderEndView) → serve_on v place m s ≡ Err refusals.NotTakeable) → MayRefuse t.knows (events.Serve place) refusals.NotTakeable

abbrev pub SubmitIsRefused : Type 0
SubmitIsRefused = (t : Token) (ts : List Token) (port : ℕ) (op : Op) (m : MemoryView) (q : RequesterView) (s : SenderEndView) (r : Refusal) → IsAtPort t port
    → KnownHolding t ts ((slot port 1, Sender s) ∷ ((slot port 0, Requester q) ∷ ((0, Memory m) ∷ [])))
    → Refuses lane_grows (submit_on q s op) r → MayRefuse t.knows (events.Submit port op) r

abbrev pub CollectIsRefused : Type 0
CollectIsRefused = (t : Token) (ts : List Token) (port : ℕ) (m : MemoryView) (q : RequesterView) (v : ReceiverEndView) (r : Refusal) → IsAtPort t port
    → KnownHolding t ts ((slot port 5 + 3, Receiver v) ∷ ((slot port 0, Requester q) ∷ ((0, Memory m) ∷ [])))
    → collect_on v q ≡ Err r → MayRefuse t.knows (events.Collect port) r
