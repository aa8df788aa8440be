-- No answer is want of memory.
use Rattle.std.proofs.Common.{◌≡◌, ◌∙◌, ℕ, zero, suc, Bool, true, false, if◌then◌else◌, List, Option, Some, None, Result, Ok, Err, refl, ap}
use Rattle.std.specs.Prelude.{IsOk, slice_get, nat_lt, ◌==◌, length}
use Rattle.tlp_core.specs.TlpView.{TlpView}
use Rattle.tlp_core.specs.Ops.{Op}
use Rattle.seq_memory.specs.History.{MemoryView}
use Rattle.completer_core.specs.Serving.{completion_to}
use Rattle.requester_core.specs.RequesterView.{RequesterView, prepared, finished}
use Rattle.flow_control.specs.Credits.{gate_covers}
use Rattle.flow_control.specs.Needs.{need_of}
use Rattle.flow_control.specs.Queue.{is_takeable}
use Rattle.switch_core.specs.Routing.{route}
use Rattle.lane_core.specs.declared.packet.LaneRefusal.TheVariants as no_room
use Rattle.lane_core.specs.Steps.{LaneEndsView, ReceiverEndView, SenderEndView, transmitted, delivered, dllp_seen}
use Rattle.fabric_steps.specs.Fabric.{Fabric}
use Rattle.fabric_steps.specs.Event.{Event, Seen}
use Rattle.fabric_steps.specs.declared.event.EventOf.TheVariants as events
use Rattle.fabric_steps.specs.declared.event.LaneName.{LaneName}
use Rattle.fabric_steps.specs.declared.event.LaneName.TheVariants as lanes
use Rattle.fabric_steps.specs.declared.event.LinkEvent.{LinkEvent}
use Rattle.fabric_steps.specs.declared.event.LinkEvent.TheVariants as links
use Rattle.fabric_steps.specs.declared.fault.Refusal.{Refusal}
use Rattle.fabric_steps.specs.declared.fault.Refusal.TheVariants as refusals
use Rattle.fabric_steps.specs.Faults.{is_memory}
use Rattle.fabric_core.specs.Answers.{and_then, map_ok, some_or, map_err, transmit_on, deliver_on, deliver_dllp_on, timer_on, retrained_on, enter_on, item_at, submit_on, destination_on, forward_on, enter_if_any, act_on, serve_on, collect_on, part_at, lane_at, port_from, lane_to, or_no_port, link_on, link_at, forward_to, answer, Refuses, Refused, event_grows}

-- the refusal of an answer, if it is one, isn't want of memory
abbrev Never : {A : Type 0} → Result A Refusal → Type 0
Never (Ok a) = Unit {0}
Never (Err r) = is_memory r ≡ false

then_never : {A B : Type 0} (a : Result A Refusal) (go : A → Result B Refusal) → Never a → ((x : A) → Never (go x)) → Never (and_then a go)
then_never (Ok x) go h k = k x
then_never (Err r) go h k = h

mapped_never : {A B : Type 0} (a : Result A Refusal) (f : A → B) → Never a → Never (map_ok a f)
mapped_never (Ok x) f h = tt
mapped_never (Err r) f h = h

some_never : {A : Type 0} (r : Refusal) (o : Option A) → is_memory r ≡ false → Never (some_or r o)
some_never r (Some a) h = tt
some_never r None h = h

named_never : {A E : Type 0} (name : E → Refusal) (a : Result A E) → ((x : E) → is_memory (name x) ≡ false) → Never (map_err name a)
named_never name (Ok a) h = tt
named_never name (Err x) h = h x

if_never : {A : Type 0} (b : Bool) (x y : Result A Refusal) → Never x → Never y → Never (if b then x else y)
if_never true x y h k = h
if_never false x y h k = k

port_never : {A : Type 0} (a : Result A Refusal) → Never (or_no_port a)
port_never (Ok a) = tt
port_never (Err r) = refl

-- ---- over the parts

enter_never : (s : SenderEndView) (t : TlpView) (mark : ℕ) → Never (enter_on s t mark)
enter_never s t mark = if_never (gate_covers s.gate (need_of t)) _ _ (if_never (nat_lt (length s.sending.kept) 2047) _ _ tt refl) refl

item_never : (r : ReceiverEndView) (place : ℕ) → Never (item_at r place)
item_never r place = if_never (is_takeable r.queue place) _ _ (some_never refusals.NotTakeable (slice_get r.queue place) refl) refl

part_never : {X : Type 0} (parts : List X) (port : ℕ) → Never (part_at parts port)
part_never parts zero = refl
part_never parts (suc place) = some_never refusals.NoSuchPart (slice_get parts place) refl

lane_never : (f : Fabric) (name : LaneName) → Never (lane_at f name)
lane_never f (lanes.Up port) = part_never f.up port
lane_never f (lanes.Down port) = part_never f.down port
lane_never f lanes.Inward = tt
lane_never f lanes.Outward = tt

from_never : (name : LaneName) → Never (port_from name)
from_never (lanes.Up port) = tt
from_never lanes.Outward = tt
from_never lanes.Inward = refl
from_never (lanes.Down port) = refl

link_never : (e : LaneEndsView) (event : LinkEvent) → Never (link_on e event)
link_never e links.Transmit = mapped_never (transmit_on e.sender e.forward) _ (mapped_never (some_or refusals.Idle (transmitted e.sender)) _ (some_never refusals.Idle (transmitted e.sender) refl))
link_never e (links.Deliver fate) = mapped_never (deliver_on e.forward e.receiver fate) _ (mapped_never (some_or refusals.Idle (delivered e.forward e.receiver fate)) _ (some_never refusals.Idle (delivered e.forward e.receiver fate) refl))
link_never e (links.SendDllp kind) = tt
link_never e (links.DeliverDllp fate) =
    mapped_never (deliver_dllp_on e.back e.sender fate) _ (mapped_never (and_then (map_err refusals.Protocol (dllp_seen e.back e.sender fate)) (some_or refusals.Idle)) _
    (then_never (map_err refusals.Protocol (dllp_seen e.back e.sender fate)) (some_or refusals.Idle) (named_never refusals.Protocol (dllp_seen e.back e.sender fate) (λ x. refl)) (λ o. some_never refusals.Idle o refl)))
link_never e links.Timer = mapped_never (timer_on e.sender) _ (if_never (e.sender.sending.place == 0) _ _ refl tt)
link_never e links.Retrained = mapped_never (retrained_on e.sender) _ (if_never e.sender.sending.stopped _ _ tt refl)

submit_never : (q : RequesterView) (s : SenderEndView) (op : Op) → Never (submit_on q s op)
submit_never q s op = then_never (map_err refusals.Submit (prepared q op)) _ (named_never refusals.Submit (prepared q op) (λ x. refl)) (λ p. mapped_never (enter_on s p.1 p.0) _ (enter_never s p.1 p.0))

forward_never : (r : ReceiverEndView) (place : ℕ) (s : SenderEndView) → Never (forward_on r place s)
forward_never r place s = then_never (item_at r place) _ (item_never r place) (λ x. mapped_never (enter_on s x.0 x.1) _ (enter_never s x.0 x.1))

if_any_never : (s : SenderEndView) (o : Option TlpView) (mark : ℕ) → Never (enter_if_any s o mark)
if_any_never s None mark = tt
if_any_never s (Some c) mark = enter_never s c mark

serve_never : (r : ReceiverEndView) (place : ℕ) (m : MemoryView) (s : SenderEndView) → Never (serve_on r place m s)
serve_never r place m s =
    then_never (item_at r place) _ (item_never r place)
    (λ x. mapped_never (act_on m x.0 x.1 s) _ (mapped_never (enter_if_any s (completion_to m x.0) x.1) _ (if_any_never s (completion_to m x.0) x.1)))

collect_never : (r : ReceiverEndView) (q : RequesterView) → Never (collect_on r q)
collect_never r q =
    then_never (some_or refusals.Idle (slice_get r.queue 0)) _ (some_never refusals.Idle (slice_get r.queue 0) refl)
    (λ x. mapped_never (map_err refusals.Strange (finished q x.0)) _ (named_never refusals.Strange (finished q x.0) (λ y. refl)))

-- ---- on a whole fabric

link_at_never : (f : Fabric) (name : LaneName) (event : LinkEvent) → Never (link_at f name event)
link_at_never f name event = then_never (lane_at f name) _ (lane_never f name) (λ e. mapped_never (link_on e event) _ (link_never e event))

forward_to_never : (f : Fabric) (name : LaneName) (e : LaneEndsView) (place to : ℕ) → Never (forward_to f name e place to)
forward_to_never f name e place to =
    then_never (or_no_port (lane_at f (lane_to to))) _ (port_never (lane_at f (lane_to to))) (λ next. mapped_never (forward_on e.receiver place next.sender) _ (forward_never e.receiver place next.sender))

destination_never : (r : ReceiverEndView) (place from : ℕ) → Never (destination_on r place from)
destination_never r place from = then_never (item_at r place) _ (item_never r place) (λ x. named_never refusals.Route (route x.0 from) (λ y. refl))

answer_never : (f : Fabric) (event : Event) → Never (answer f event)
answer_never f (events.Submit port op) =
    then_never (part_at f.requesters port) _ (part_never f.requesters port)
    (λ q. then_never (lane_at f (lanes.Up port)) _ (lane_never f (lanes.Up port)) (λ e. mapped_never (submit_on q e.sender op) _ (submit_never q e.sender op)))
answer_never f (events.Transmit lane) = link_at_never f lane links.Transmit
answer_never f (events.Deliver lane fate) = link_at_never f lane (links.Deliver fate)
answer_never f (events.SendDllp lane kind) = link_at_never f lane (links.SendDllp kind)
answer_never f (events.DeliverDllp lane fate) = link_at_never f lane (links.DeliverDllp fate)
answer_never f (events.Timer lane) = link_at_never f lane links.Timer
answer_never f (events.Retrained lane) = link_at_never f lane links.Retrained
answer_never f (events.Forward lane place) =
    then_never (port_from lane) _ (from_never lane)
    (λ from. then_never (lane_at f lane) _ (lane_never f lane)
    (λ e. then_never (destination_on e.receiver place from) _ (destination_never e.receiver place from) (λ to. forward_to_never f lane e place to)))
answer_never f (events.Serve place) = mapped_never (serve_on f.inward.receiver place f.memory f.outward.sender) _ (serve_never f.inward.receiver place f.memory f.outward.sender)
answer_never f (events.Collect port) =
    then_never (part_at f.requesters port) _ (part_never f.requesters port)
    (λ q. then_never (lane_at f (lanes.Down port)) _ (lane_never f (lanes.Down port)) (λ e. mapped_never (collect_on e.receiver q) _ (collect_never e.receiver q)))

pub would_happen : (f : Fabric) (event : Event) (r : Refusal) → Refused f event r → is_memory r ≡ true → IsOk (answer f event)
would_happen f event r h k = by_answer (answer f event) (answer_never f event) h
  where
    by_answer : (a : Result (Seen × Fabric) Refusal) → Never a → Refuses (event_grows f) a r → IsOk a
    by_answer (Ok x) n j = refl
    by_answer (Err x) n j = absurd (let no : is_memory r ≡ false = ap is_memory j ∙ n in cc)
