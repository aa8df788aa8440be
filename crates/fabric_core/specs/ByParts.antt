-- What follows of an event that happens, by the parts that it used. What an event is stands in `Answers`; the law
-- `each_event_happens_by_its_parts` says that this follows. Proofs use it: nobody has to believe it.
use Rattle.std.specs.Prelude.{ℕ, ◌≡◌, ◌<◌, true, List, length, Option, Some, None, Result, Ok, slice_get, slice_set}
use Rattle.tlp_core.specs.Ops.{Op}
use Rattle.tlp_core.specs.TlpView.{TlpView}
use Rattle.tlp_core.specs.Operation.{op_of}
use Rattle.tlp_core.specs.Layout.{Spells, canonical}
use Rattle.seq_memory.specs.History.{MemoryView}
use Rattle.completer_core.specs.Serving.{completion_to, after_serving}
use Rattle.requester_core.specs.Answers.{Answer}
use Rattle.requester_core.specs.RequesterView.{RequesterView, IsSound, prepared, after_opened, finished, after_finish}
use Rattle.flow_control.specs.Needs.{need_of}
use Rattle.flow_control.specs.Queue.{is_takeable}
use Rattle.switch_core.specs.declared.route_fault.RouteFault.{RouteFault}
use Rattle.switch_core.specs.Routing.{route}
use Rattle.switch_core.specs.Forwarding.{Forwards}
use Rattle.lane_core.specs.Steps.{LaneEndsView, ReceiverEndView, SenderEndView, may_enter, entered, transmitted, delivered, dllp_of, dllp_seen, after_take}
use Rattle.lane_core.specs.Calls.{Call, Transmit, Deliver, SendDllp, DeliverDllp, Timer, Retrained, after_call}
use Rattle.fabric_steps.specs.Fabric.{Fabric}
use Rattle.fabric_steps.specs.Event.{Event, Seen}
use Rattle.fabric_steps.specs.declared.event.EventOf.TheVariants as events
use Rattle.fabric_steps.specs.declared.event.LaneName.{LaneName}
use Rattle.fabric_steps.specs.declared.event.LaneName.TheVariants as lanes
use Rattle.fabric_steps.specs.declared.event.LinkEvent.{LinkEvent}
use Rattle.fabric_steps.specs.declared.event.LinkEvent.TheVariants as links
use Rattle.fabric_steps.specs.declared.event.SeenOf.TheVariants as seen
use Rattle.fabric_core.specs.Steps.{HasPart}

-- ---- a packet enters a lane

-- there was room, and it is the last now
pub record Enters (s : SenderEndView) (t : TlpView) (mark : ℕ) (s' : SenderEndView) : Type 0 where
  pub may : may_enter s (need_of t) ≡ true
  pub spelled : Spells (canonical t) t
  pub now : s' ≡ entered s t mark

-- the packet of a place, which may pass each earlier one
pub record IsAt (r : ReceiverEndView) (place : ℕ) (t : TlpView) (mark : ℕ) : Type 0 where
  pub takeable : is_takeable r.queue place ≡ true
  pub item : slice_get r.queue place ≡ Some (t, mark)

-- ---- Submit, over a requester and the sender's end of its lane

pub record Submits (q : RequesterView) (s : SenderEndView) (op : Op) (number : ℕ) (q' : RequesterView) (s' : SenderEndView) : Type 0 where
  pub request : TlpView
  pub is_prepared : prepared q op ≡ Ok (number, request)
  pub asks : op_of request ≡ Some op
  pub sound : IsSound q
  pub enters : Enters s request number s'
  pub now : q' ≡ after_opened q request

-- ---- calls of a link, over the four ends of its lane

abbrev pub call_of : LinkEvent → Call
call_of links.Transmit = Transmit
call_of (links.Deliver fate) = Deliver fate
call_of (links.SendDllp kind) = SendDllp kind
call_of (links.DeliverDllp fate) = DeliverDllp fate
call_of links.Timer = Timer
call_of links.Retrained = Retrained

abbrev pub IsSeen : LaneEndsView → LinkEvent → Seen → Type 0
IsSeen e links.Transmit (seen.Sent n) = transmitted e.sender ≡ Some n
IsSeen e (links.Deliver fate) (seen.Delivered arrival) = delivered e.forward e.receiver fate ≡ Some arrival
IsSeen e (links.SendDllp kind) (seen.SentDllp dllp) = dllp ≡ dllp_of e.receiver kind
IsSeen e (links.DeliverDllp fate) (seen.SeenDllp what) = dllp_seen e.back e.sender fate ≡ Ok (Some what)
IsSeen e links.Timer (seen.Back n) = (n ≡ e.sender.sending.place) × (0 < n)
IsSeen e links.Retrained seen.Retrained = e.sender.sending.stopped ≡ true
IsSeen e _ _ = ⊥

-- what is seen of the call, and the ends after it
pub record Links (e : LaneEndsView) (event : LinkEvent) (what : Seen) (e' : LaneEndsView) : Type 0 where
  pub sees : IsSeen e event what
  pub now : e' ≡ after_call e (call_of event)

-- ---- Forward, over a receiver's end and the sender's end of the next lane

-- the packet may go, and this is what the switch says to it
pub record IsRoutedAs (r : ReceiverEndView) (place from : ℕ) (routed : Result ℕ RouteFault) : Type 0 where
  pub packet : TlpView
  pub mark : ℕ
  pub there : IsAt r place packet mark
  pub is : route packet from ≡ routed

-- ---- Serve, over the receiver's end of `in`, the memory and the sender's end of `out`

-- a completion enters, if there is one
abbrev pub EntersIfAny : SenderEndView → Option TlpView → ℕ → SenderEndView → Type 0
EntersIfAny s None mark s' = s' ≡ s
EntersIfAny s (Some c) mark s' = Enters s c mark s'

-- the request acts on the memory, and its completion enters `out`
pub record Acts (m : MemoryView) (t : TlpView) (mark : ℕ) (s : SenderEndView) (place : ℕ) (m' : MemoryView) (s' : SenderEndView) : Type 0 where
  pub enters : EntersIfAny s (completion_to m t) mark s'
  pub in_history : place ≡ length m.entries
  pub now : m' ≡ after_serving m t mark

pub record Serves (r : ReceiverEndView) (place : ℕ) (m : MemoryView) (s : SenderEndView) (at : ℕ) (r' : ReceiverEndView) (m' : MemoryView) (s' : SenderEndView) : Type 0 where
  pub packet : TlpView
  pub mark : ℕ
  pub there : IsAt r place packet mark
  pub acts : Acts m packet mark s at m' s'
  pub now : r' ≡ after_take r place

-- ---- Collect, over the receiver's end of a `down` lane and its requester

pub record Collects (r : ReceiverEndView) (q : RequesterView) (a : Answer) (r' : ReceiverEndView) (q' : RequesterView) : Type 0 where
  pub packet : TlpView
  pub mark : ℕ
  pub there : IsAt r 0 packet mark
  pub finishes : finished q packet ≡ Ok a
  pub requester : q' ≡ after_finish q packet
  pub now : r' ≡ after_take r 0

-- ---- on a whole fabric: calls of a link

-- in a list of lanes, over that of a port
pub record LinksIn (before : List LaneEndsView) (port : ℕ) (event : LinkEvent) (what : Seen) (after : List LaneEndsView) : Type 0 where
  pub place : ℕ
  pub lane : LaneEndsView
  pub lane_after : LaneEndsView
  pub has_lane : HasPart before port place lane
  pub links : Links lane event what lane_after
  pub now : after ≡ slice_set before place lane_after

pub record LinksUp (f : Fabric) (port : ℕ) (event : LinkEvent) (what : Seen) (f' : Fabric) : Type 0 where
  pub lanes : List LaneEndsView
  pub links : LinksIn f.up port event what lanes
  pub now : f' ≡ record f { up = lanes }

pub record LinksDown (f : Fabric) (port : ℕ) (event : LinkEvent) (what : Seen) (f' : Fabric) : Type 0 where
  pub lanes : List LaneEndsView
  pub links : LinksIn f.down port event what lanes
  pub now : f' ≡ record f { down = lanes }

pub record LinksInward (f : Fabric) (event : LinkEvent) (what : Seen) (f' : Fabric) : Type 0 where
  pub lane : LaneEndsView
  pub links : Links f.inward event what lane
  pub now : f' ≡ record f { inward = lane }

pub record LinksOutward (f : Fabric) (event : LinkEvent) (what : Seen) (f' : Fabric) : Type 0 where
  pub lane : LaneEndsView
  pub links : Links f.outward event what lane
  pub now : f' ≡ record f { outward = lane }

abbrev pub LinksAt : Fabric → LaneName → LinkEvent → Seen → Fabric → Type 0
LinksAt f (lanes.Up port) event what f' = LinksUp f port event what f'
LinksAt f (lanes.Down port) event what f' = LinksDown f port event what f'
LinksAt f lanes.Inward event what f' = LinksInward f event what f'
LinksAt f lanes.Outward event what f' = LinksOutward f event what f'

-- ---- Submit

pub record SubmitsAt (f : Fabric) (port : ℕ) (op : Op) (number : ℕ) (f' : Fabric) : Type 0 where
  pub place : ℕ
  pub requester : RequesterView
  pub lane : LaneEndsView
  pub has_requester : HasPart f.requesters port place requester
  pub has_lane : HasPart f.up port place lane
  pub requester_after : RequesterView
  pub sender_after : SenderEndView
  pub submits : Submits requester lane.sender op number requester_after sender_after
  pub now : f' ≡ record f { up = slice_set f.up place (record lane { sender = sender_after }); requesters = slice_set f.requesters place requester_after }

-- ---- Forward

-- from the `up` lane of a port to `in`
pub record ForwardsUp (f : Fabric) (port place to : ℕ) (f' : Fabric) : Type 0 where
  pub at_place : ℕ
  pub lane : LaneEndsView
  pub has_lane : HasPart f.up port at_place lane
  pub routed : IsRoutedAs lane.receiver place port (Ok to)
  pub receiver_after : ReceiverEndView
  pub sender_after : SenderEndView
  pub forwards : Forwards lane.receiver receiver_after place f.inward.sender sender_after
  pub now : f' ≡ record f { up = slice_set f.up at_place (record lane { receiver = receiver_after }); inward = record f.inward { sender = sender_after } }

-- from `out` to the `down` lane of the packet's port
pub record ForwardsOut (f : Fabric) (place to : ℕ) (f' : Fabric) : Type 0 where
  pub at_place : ℕ
  pub lane : LaneEndsView
  pub routed : IsRoutedAs f.outward.receiver place 0 (Ok to)
  pub has_lane : HasPart f.down to at_place lane
  pub receiver_after : ReceiverEndView
  pub sender_after : SenderEndView
  pub forwards : Forwards f.outward.receiver receiver_after place lane.sender sender_after
  pub now : f' ≡ record f { outward = record f.outward { receiver = receiver_after }; down = slice_set f.down at_place (record lane { sender = sender_after }) }

-- ---- Serve

pub record ServesAt (f : Fabric) (place in_history : ℕ) (f' : Fabric) : Type 0 where
  pub receiver_after : ReceiverEndView
  pub memory_after : MemoryView
  pub sender_after : SenderEndView
  pub serves : Serves f.inward.receiver place f.memory f.outward.sender in_history receiver_after memory_after sender_after
  pub now : f' ≡ record f { memory = memory_after; inward = record f.inward { receiver = receiver_after }; outward = record f.outward { sender = sender_after } }

-- ---- Collect

pub record CollectsAt (f : Fabric) (port : ℕ) (a : Answer) (f' : Fabric) : Type 0 where
  pub place : ℕ
  pub requester : RequesterView
  pub lane : LaneEndsView
  pub has_requester : HasPart f.requesters port place requester
  pub has_lane : HasPart f.down port place lane
  pub requester_after : RequesterView
  pub receiver_after : ReceiverEndView
  pub collects : Collects lane.receiver requester a receiver_after requester_after
  pub now : f' ≡ record f { down = slice_set f.down place (record lane { receiver = receiver_after }); requesters = slice_set f.requesters place requester_after }

-- ---- all events

abbrev pub HappensByParts : Fabric → Event → Seen → Fabric → Type 0
HappensByParts f (events.Submit port op) what f' = (number : ℕ) × (what ≡ seen.Submitted number) × SubmitsAt f port op number f'
HappensByParts f (events.Transmit lane) what f' = LinksAt f lane links.Transmit what f'
HappensByParts f (events.Deliver lane fate) what f' = LinksAt f lane (links.Deliver fate) what f'
HappensByParts f (events.SendDllp lane kind) what f' = LinksAt f lane (links.SendDllp kind) what f'
HappensByParts f (events.DeliverDllp lane fate) what f' = LinksAt f lane (links.DeliverDllp fate) what f'
HappensByParts f (events.Timer lane) what f' = LinksAt f lane links.Timer what f'
HappensByParts f (events.Retrained lane) what f' = LinksAt f lane links.Retrained what f'
HappensByParts f (events.Forward (lanes.Up port) place) what f' = (to : ℕ) × (what ≡ seen.To to) × ForwardsUp f port place to f'
HappensByParts f (events.Forward lanes.Outward place) what f' = (to : ℕ) × (what ≡ seen.To to) × ForwardsOut f place to f'
HappensByParts f (events.Forward lanes.Inward place) what f' = ⊥
HappensByParts f (events.Forward (lanes.Down port) place) what f' = ⊥
HappensByParts f (events.Serve place) what f' = (at : ℕ) × (what ≡ seen.At at) × ServesAt f place at f'
HappensByParts f (events.Collect port) what f' = (a : Answer) × (what ≡ seen.Collected a) × CollectsAt f port a f'
