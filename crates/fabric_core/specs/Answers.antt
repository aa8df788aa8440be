-- What each event does to a fabric. A function named `.._on` is one event over the parts that it uses: it returns the
-- event's result and the parts after it, or the first refusal of its order. A function named `.._at` finds these parts in
-- the fabric and puts them back; `answer` is all events. They assume that memory can be allocated. `Refuses` adds the
-- refusals of events for which it can't. `Happens` and `Refused`, at the end, are the words of all other clauses.
use Rattle.std.specs.Prelude.{ℕ, ◌≡◌, ◌<◌, zero, suc, ◌==◌, nat_lt, List, length, if◌then◌else◌, Option, Some, None, Result, Ok, Err, slice_get, slice_set}
use Rattle.tlp_core.specs.Ops.{Op}
use Rattle.tlp_core.specs.TlpView.{TlpView}
use Rattle.seq_memory.specs.History.{MemoryView}
use Rattle.completer_core.specs.Serving.{completion_to, after_serving}
use Rattle.requester_core.specs.Answers.{Answer}
use Rattle.tlp_core.specs.Operation.{op_of}
use Rattle.tlp_core.specs.Layout.{Spells, canonical}
use Rattle.requester_core.specs.RequesterView.{RequesterView, IsSound, prepared, after_opened, finished, after_finish}
use Rattle.dllp_core.specs.declared.packet.Dllp.{Dllp}
use Rattle.flow_control.specs.Needs.{need_of}
use Rattle.flow_control.specs.Credits.{gate_covers}
use Rattle.flow_control.specs.Queue.{Item, is_takeable}
use Rattle.switch_core.specs.declared.route_fault.RouteFault.TheVariants.{NoPort}
use Rattle.switch_core.specs.Routing.{route}
use Rattle.link_replay.specs.declared.receiver.Reception.TheVariants.{Accept}
use Rattle.lane_core.specs.declared.packet.Arrival.{Arrival}
use Rattle.lane_core.specs.declared.packet.Arrival.TheVariants.{Answered}
use Rattle.lane_core.specs.declared.packet.DllpKind.{DllpKind}
use Rattle.lane_core.specs.declared.packet.DllpSeen.{DllpSeen}
use Rattle.lane_core.specs.declared.packet.Fate.{Fate}
use Rattle.lane_core.specs.declared.packet.LaneRefusal.TheVariants as no_room
use Rattle.lane_core.specs.declared.packet.WirePacket.{WirePacket}
use Rattle.lane_core.specs.Steps.{LaneEndsView, ReceiverEndView, SenderEndView, entered, transmitted, after_transmission, wire_after_transmit, all_but_first, delivered, after_deliver, dllp_of, after_send, wire_after_send, dllp_seen, sender_after, after_timer, after_retraining, after_take}
use Rattle.fabric_steps.specs.Fabric.{Fabric}
use Rattle.fabric_steps.specs.Event.{Event, Seen}
use Rattle.fabric_steps.specs.declared.event.EventOf.TheVariants as events
use Rattle.fabric_steps.specs.declared.event.LaneName.{LaneName}
use Rattle.fabric_steps.specs.declared.event.LaneName.TheVariants as lanes
use Rattle.fabric_steps.specs.declared.event.LinkEvent.{LinkEvent}
use Rattle.fabric_steps.specs.declared.event.LinkEvent.TheVariants as links
use Rattle.fabric_steps.specs.declared.event.SeenOf.TheVariants as seen
use Rattle.fabric_steps.specs.declared.fault.Refusal.{Refusal}
use Rattle.fabric_steps.specs.declared.fault.Refusal.TheVariants as refusals

-- `Result::and_then`, `Result::map`, `Option::ok_or` and `Result::map_err`: the first refusal is the result
abbrev pub and_then : {A B : Type 0} → Result A Refusal → (A → Result B Refusal) → Result B Refusal
and_then (Ok a) go = go a
and_then (Err r) go = Err r

abbrev pub map_ok : {A B : Type 0} → Result A Refusal → (A → B) → Result B Refusal
map_ok (Ok a) f = Ok (f a)
map_ok (Err r) f = Err r

abbrev pub some_or : {A : Type 0} → Refusal → Option A → Result A Refusal
some_or r (Some a) = Ok a
some_or r None = Err r

abbrev pub map_err : {A E : Type 0} → (E → Refusal) → Result A E → Result A Refusal
map_err name (Ok a) = Ok a
map_err name (Err x) = Err (name x)

-- ---- the calls of a link, each over the end and the wire that it uses

-- the sender's next packet goes onto the forward wire; the result is its sequence number
abbrev pub transmit_on : SenderEndView → List WirePacket → Result (ℕ × SenderEndView × List WirePacket) Refusal
transmit_on s wire = map_ok (some_or refusals.Idle (transmitted s)) (λ number. (number, after_transmission s, wire_after_transmit s wire))

-- the oldest packet of the forward wire reaches the receiver, or is lost or corrupted on the way
abbrev pub deliver_on : List WirePacket → ReceiverEndView → Fate → Result (Arrival × List WirePacket × ReceiverEndView) Refusal
deliver_on wire r fate = map_ok (some_or refusals.Idle (delivered wire r fate)) (λ arrival. (arrival, all_but_first wire, after_deliver wire r fate))

-- the receiver puts an Ack, a Nak or an UpdateFC on the back wire
abbrev pub send_dllp_on : ReceiverEndView → List Dllp → DllpKind → Result (Dllp × ReceiverEndView × List Dllp) Refusal
send_dllp_on r back kind = Ok (dllp_of r kind, after_send r kind, wire_after_send r kind back)

-- the oldest DLLP of the back wire reaches the sender, or is lost or corrupted on the way
abbrev pub deliver_dllp_on : List Dllp → SenderEndView → Fate → Result (DllpSeen × List Dllp × SenderEndView) Refusal
deliver_dllp_on back s fate =
    map_ok (and_then (map_err refusals.Protocol (dllp_seen back s fate)) (some_or refusals.Idle)) (λ what. (what, all_but_first back, sender_after back s fate))

-- REPLAY_TIMER expires: the sender moves back to its oldest unacknowledged packet, by this many packets
abbrev pub timer_on : SenderEndView → Result (ℕ × SenderEndView) Refusal
timer_on s = if s.sending.place == 0 then Err refusals.Idle else Ok (s.sending.place, after_timer s)

-- the link was retrained, after REPLAY_NUM rolled over
abbrev pub retrained_on : SenderEndView → Result SenderEndView Refusal
retrained_on s = if s.sending.stopped then Ok (after_retraining s) else Err refusals.Idle

-- ---- what moves packets between lanes, requesters and the memory

-- a packet enters a lane: its credits are available, and then fewer than 2047 packets are unacknowledged
abbrev pub enter_on : SenderEndView → TlpView → ℕ → Result SenderEndView Refusal
enter_on s t mark =
    if gate_covers s.gate (need_of t) then (if nat_lt (length s.sending.kept) 2047 then Ok (entered s t mark) else Err (refusals.Lane no_room.WindowFull))
    else Err (refusals.Lane (no_room.NoCredits (need_of t).class))

-- the packet at this place of the queue, which may pass each earlier one
abbrev pub item_at : ReceiverEndView → ℕ → Result Item Refusal
item_at r place = if is_takeable r.queue place then some_or refusals.NotTakeable (slice_get r.queue place) else Err refusals.NotTakeable

-- the requester submits an operation: its request enters the lane; the result is the request's number
abbrev pub submit_on : RequesterView → SenderEndView → Op → Result (ℕ × RequesterView × SenderEndView) Refusal
submit_on q s op = and_then (map_err refusals.Submit (prepared q op)) (λ p. map_ok (enter_on s p.1 p.0) (λ s'. (p.0, after_opened q p.1, s')))

-- the port to which the packet at this place goes, which came in at port `from`
abbrev pub destination_on : ReceiverEndView → ℕ → ℕ → Result ℕ Refusal
destination_on r place from = and_then (item_at r place) (λ x. map_err refusals.Route (route x.0 from))

-- the packet at this place goes into the next lane, with its mark
abbrev pub forward_on : ReceiverEndView → ℕ → SenderEndView → Result (ReceiverEndView × SenderEndView) Refusal
forward_on r place s = and_then (item_at r place) (λ x. map_ok (enter_on s x.0 x.1) (λ s'. (after_take r place, s')))

-- the completion enters the lane; a posted write has none
abbrev pub enter_if_any : SenderEndView → Option TlpView → ℕ → Result SenderEndView Refusal
enter_if_any s None mark = Ok s
enter_if_any s (Some c) mark = enter_on s c mark

-- a request acts on the memory, and its completion enters the lane; the result is the request's place in the history
abbrev pub act_on : MemoryView → TlpView → ℕ → SenderEndView → Result (ℕ × MemoryView × SenderEndView) Refusal
act_on m t mark s = map_ok (enter_if_any s (completion_to m t) mark) (λ s'. (length m.entries, after_serving m t mark, s'))

-- the request at this place does so
abbrev pub serve_on : ReceiverEndView → ℕ → MemoryView → SenderEndView → Result (ℕ × ReceiverEndView × MemoryView × SenderEndView) Refusal
serve_on r place m s = and_then (item_at r place) (λ x. map_ok (act_on m x.0 x.1 s) (λ y. (y.0, after_take r place, y.1, y.2)))

-- the requester takes its oldest completion; the result is the request's number and the reply
abbrev pub collect_on : ReceiverEndView → RequesterView → Result (Answer × ReceiverEndView × RequesterView) Refusal
collect_on r q =
    and_then (some_or refusals.Idle (slice_get r.queue 0)) (λ x. map_ok (map_err refusals.Strange (finished q x.0)) (λ a. (a, after_take r 0, after_finish q x.0)))

-- ---- the parts of a fabric

-- the part of a port, which stands at place `port - 1` of its list
abbrev pub part_at : {X : Type 0} → List X → ℕ → Result X Refusal
part_at parts zero = Err refusals.NoSuchPart
part_at parts (suc place) = some_or refusals.NoSuchPart (slice_get parts place)

-- the parts with another at a port
abbrev pub with_part : {X : Type 0} → List X → ℕ → X → List X
with_part parts zero x = parts
with_part parts (suc place) x = slice_set parts place x

-- the lane of that name
abbrev pub lane_at : Fabric → LaneName → Result LaneEndsView Refusal
lane_at f (lanes.Up port) = part_at f.up port
lane_at f (lanes.Down port) = part_at f.down port
lane_at f lanes.Inward = Ok f.inward
lane_at f lanes.Outward = Ok f.outward

-- the fabric with another lane of that name
abbrev pub with_lane : Fabric → LaneName → LaneEndsView → Fabric
with_lane f (lanes.Up port) e = record f { up = with_part f.up port e }
with_lane f (lanes.Down port) e = record f { down = with_part f.down port e }
with_lane f lanes.Inward e = record f { inward = e }
with_lane f lanes.Outward e = record f { outward = e }

-- the fabric with another requester at a port
abbrev pub with_requester : Fabric → ℕ → RequesterView → Fabric
with_requester f port q = record f { requesters = with_part f.requesters port q }

-- the switch's port at which a lane's packets come in; `in` and the `down` lanes lead away from the switch
abbrev pub port_from : LaneName → Result ℕ Refusal
port_from (lanes.Up port) = Ok port
port_from lanes.Outward = Ok 0
port_from lanes.Inward = Err refusals.NoSuchPart
port_from (lanes.Down port) = Err refusals.NoSuchPart

-- the lane that leads from the switch to a port
abbrev pub lane_to : ℕ → LaneName
lane_to zero = lanes.Inward
lane_to (suc place) = lanes.Down (suc place)

-- a route to a port that has no lane
abbrev pub or_no_port : {A : Type 0} → Result A Refusal → Result A Refusal
or_no_port (Ok a) = Ok a
or_no_port (Err r) = Err (refusals.Route NoPort)

-- ---- each event on a whole fabric: its result and the fabric after it, or its refusal

-- a call of a link, over its lane: the sender, the two wires and the receiver
abbrev pub link_on : LaneEndsView → LinkEvent → Result (Seen × LaneEndsView) Refusal
link_on e links.Transmit = map_ok (transmit_on e.sender e.forward) (λ x. (seen.Sent x.0, record e { sender = x.1; forward = x.2 }))
link_on e (links.Deliver fate) = map_ok (deliver_on e.forward e.receiver fate) (λ x. (seen.Delivered x.0, record e { forward = x.1; receiver = x.2 }))
link_on e (links.SendDllp kind) = map_ok (send_dllp_on e.receiver e.back kind) (λ x. (seen.SentDllp x.0, record e { receiver = x.1; back = x.2 }))
link_on e (links.DeliverDllp fate) = map_ok (deliver_dllp_on e.back e.sender fate) (λ x. (seen.SeenDllp x.0, record e { back = x.1; sender = x.2 }))
link_on e links.Timer = map_ok (timer_on e.sender) (λ x. (seen.Back x.0, record e { sender = x.1 }))
link_on e links.Retrained = map_ok (retrained_on e.sender) (λ s. (seen.Retrained, record e { sender = s }))

abbrev pub link_at : Fabric → LaneName → LinkEvent → Result (Seen × Fabric) Refusal
link_at f name event = and_then (lane_at f name) (λ e. map_ok (link_on e event) (λ x. (x.0, with_lane f name x.1)))

abbrev pub submit_at : Fabric → ℕ → Op → Result (Seen × Fabric) Refusal
submit_at f port op =
    and_then (part_at f.requesters port) (λ q. and_then (lane_at f (lanes.Up port)) (λ e. map_ok (submit_on q e.sender op)
    (λ x. (seen.Submitted x.0, with_requester (with_lane f (lanes.Up port) (record e { sender = x.2 })) port x.1))))

-- a packet of a lane goes into the lane that leads to its port
abbrev pub forward_to : Fabric → LaneName → LaneEndsView → ℕ → ℕ → Result (Seen × Fabric) Refusal
forward_to f name e place to =
    and_then (or_no_port (lane_at f (lane_to to))) (λ next. map_ok (forward_on e.receiver place next.sender)
    (λ x. (seen.To to, with_lane (with_lane f name (record e { receiver = x.0 })) (lane_to to) (record next { sender = x.1 }))))

abbrev pub forward_at : Fabric → LaneName → ℕ → Result (Seen × Fabric) Refusal
forward_at f name place =
    and_then (port_from name) (λ from. and_then (lane_at f name) (λ e. and_then (destination_on e.receiver place from) (λ to. forward_to f name e place to)))

abbrev pub serve_at : Fabric → ℕ → Result (Seen × Fabric) Refusal
serve_at f place =
    map_ok (serve_on f.inward.receiver place f.memory f.outward.sender)
    (λ x. (seen.At x.0, record f { memory = x.2; inward = record f.inward { receiver = x.1 }; outward = record f.outward { sender = x.3 } }))

abbrev pub collect_at : Fabric → ℕ → Result (Seen × Fabric) Refusal
collect_at f port =
    and_then (part_at f.requesters port) (λ q. and_then (lane_at f (lanes.Down port)) (λ e. map_ok (collect_on e.receiver q)
    (λ x. (seen.Collected x.0, with_requester (with_lane f (lanes.Down port) (record e { receiver = x.1 })) port x.2))))

abbrev pub answer : Fabric → Event → Result (Seen × Fabric) Refusal
answer f (events.Submit port op) = submit_at f port op
answer f (events.Transmit lane) = link_at f lane links.Transmit
answer f (events.Deliver lane fate) = link_at f lane (links.Deliver fate)
answer f (events.SendDllp lane kind) = link_at f lane (links.SendDllp kind)
answer f (events.DeliverDllp lane fate) = link_at f lane (links.DeliverDllp fate)
answer f (events.Timer lane) = link_at f lane links.Timer
answer f (events.Retrained lane) = link_at f lane links.Retrained
answer f (events.Forward lane place) = forward_at f lane place
answer f (events.Serve place) = serve_at f place
answer f (events.Collect port) = collect_at f port

-- ---- refusals

-- the refusals of a call with this answer: that of the answer; or, if the answer is Ok, an allocation that can fail for
-- what grows then
abbrev pub Refuses : {A : Type 0} → (A → Refusal → Type 0) → Result A Refusal → Refusal → Type 0
Refuses grows (Ok a) r = grows a r
Refuses grows (Err x) r = r ≡ x

-- a replay buffer, a wire or a receive queue of a lane grows
abbrev pub lane_grows : {A : Type 0} → A → Refusal → Type 0
lane_grows a r = r ≡ refusals.Lane no_room.Memory

-- the receive queue grows by a packet that is accepted
abbrev pub arrival_grows : Arrival → Refusal → Type 0
arrival_grows (Answered Accept) r = r ≡ refusals.Lane no_room.Memory
arrival_grows _ r = ⊥

-- the history grows, and the replay buffer of `out` if a completion entered it
abbrev pub serving_grows : SenderEndView → SenderEndView → Refusal → Type 0
serving_grows s s' refusals.Memory = Unit {0}
serving_grows s s' (refusals.Lane no_room.Memory) = length s.sending.kept < length s'.sending.kept
serving_grows s s' _ = ⊥

-- what grows by a call of a link with this result
abbrev pub link_grows : Seen → Refusal → Type 0
link_grows (seen.Sent n) r = lane_grows n r
link_grows (seen.Delivered arrival) r = arrival_grows arrival r
link_grows (seen.SentDllp d) r = lane_grows d r
link_grows _ r = ⊥

-- what grows by an event with this result, which leaves this fabric
abbrev pub event_grows : Fabric → Seen × Fabric → Refusal → Type 0
event_grows f (seen.Submitted n, f') r = lane_grows n r
event_grows f (seen.To port, f') r = lane_grows port r
event_grows f (seen.At place, f') r = serving_grows f.outward.sender f'.outward.sender r
event_grows f (what, f') r = link_grows what r

-- ---- what happens, and what is refused

-- the packets that enter lanes are spelled by their bytes, and the requesters are sound: that is true of the values of
-- the code's types, and no equation says it
pub record SubmitFits (q : RequesterView) (op : Op) : Type 0 where
  pub sound : IsSound q
  pub request : (n : ℕ) (t : TlpView) → prepared q op ≡ Ok (n, t) → (op_of t ≡ Some op) × Spells (canonical t) t

pub record ForwardFits (r : ReceiverEndView) (place : ℕ) : Type 0 where
  pub spelled : (t : TlpView) (mark : ℕ) → item_at r place ≡ Ok (t, mark) → Spells (canonical t) t

pub record ActFits (m : MemoryView) (t : TlpView) : Type 0 where
  pub spelled : (c : TlpView) → completion_to m t ≡ Some c → Spells (canonical c) c

pub record ServeFits (r : ReceiverEndView) (place : ℕ) (m : MemoryView) : Type 0 where
  pub spelled : (t : TlpView) (mark : ℕ) (c : TlpView) → item_at r place ≡ Ok (t, mark) → completion_to m t ≡ Some c → Spells (canonical c) c

abbrev pub Fits : Fabric → Event → Type 0
Fits f (events.Submit port op) = (q : RequesterView) → part_at f.requesters port ≡ Ok q → SubmitFits q op
Fits f (events.Forward name place) = (e : LaneEndsView) → lane_at f name ≡ Ok e → ForwardFits e.receiver place
Fits f (events.Serve place) = ServeFits f.inward.receiver place f.memory
Fits f _ = Unit {0}

-- the event happens: what is seen of it, and the fabric after it
abbrev pub Happens : Fabric → Event → Seen → Fabric → Type 0
Happens f event what f' = (answer f event ≡ Ok (what, f')) × Fits f event

-- the event is refused for this cause
abbrev pub Refused : Fabric → Event → Refusal → Type 0
Refused f event r = Refuses (event_grows f) (answer f event) r
