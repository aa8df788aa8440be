-- A refusal by the parts that are held is one by the fabric.
use Rattle.std.proofs.Common.{◌≡◌, ℕ, zero, suc, ◌+◌, ◌<◌, List, [], ◌∷◌, Ok, Err, Result, None, refl, sym, ap, ⊎_elim, subst, arith}
use Rattle.std.specs.Prelude.{slice_get}
use Rattle.std.proofs.lemmas.Option.{slice_get_past}
use mathlib.Core.Option.{some}
use lib.ListN.{get_elem?}
use Rattle.dllp_core.specs.declared.packet.Dllp.{Dllp}
use Rattle.seq_memory.specs.History.{MemoryView}
use Rattle.requester_core.specs.RequesterView.{RequesterView}
use Rattle.switch_core.specs.declared.route_fault.RouteFault.TheVariants.{NoPort}
use Rattle.lane_core.specs.declared.packet.WirePacket.{WirePacket}
use Rattle.lane_core.specs.Steps.{LaneEndsView, ReceiverEndView, SenderEndView}
use Rattle.fabric_steps.specs.Fabric.{Fabric}
use Rattle.fabric_steps.specs.Event.{Event, Seen}
use Rattle.fabric_steps.specs.declared.event.EventOf.TheVariants as events
use Rattle.fabric_steps.specs.declared.event.LaneName.{LaneName}
use Rattle.fabric_steps.specs.declared.event.LaneName.TheVariants as lanes
use Rattle.fabric_steps.specs.declared.event.LinkEvent.{LinkEvent}
use Rattle.fabric_steps.specs.declared.event.LinkEvent.TheVariants as links
use Rattle.fabric_steps.specs.declared.fault.Refusal.{Refusal}
use Rattle.fabric_steps.specs.declared.fault.Refusal.TheVariants as refusals
use Rattle.fabric_core.specs.Answers.{Refuses, map_ok, lane_grows, arrival_grows, serving_grows, event_grows, transmit_on, deliver_on, deliver_dllp_on, timer_on, retrained_on, submit_on, destination_on, forward_on, serve_on, link_on, link_at, port_from, lane_to, part_at, Refused}
use Rattle.fabric_core.specs.Steps.{HasLane}
use Rattle.hall_laws.specs.declared.part.PartValue.{PartValue}
use Rattle.hall_laws.specs.declared.part.PartValue.TheVariants.{Memory, Requester, Sender, Forward, Back, Receiver}
use Rattle.hall_laws.specs.declared.token.Token.{Token}
use Rattle.hall_laws.specs.Parts.{ends, slot, lane_slot, with_lane}
use Rattle.hall_laws.specs.Standing.{Values}
use Rattle.hall_laws.specs.Rule.{Agrees, parts}
use Rattle.hall_laws.specs.Shows.{MayRefuse}
use Rattle.hall_laws.specs.Duties.{KnowsLane, IsAtPort}
use Rattle.hall_laws.specs.Causes.{KnownHolding, TransmitIsRefused, SenderHasNothing, DeliverIsRefused, WireHasNothing, SendDllpIsRefused, DeliverDllpIsRefused, BackHasNothing, TimerIsRefused, RetrainedIsRefused, UpHasNoWay, UpIsKept, OutHasNoWay, OutHasNoLane, OutIsKept, ServeIsRefused, InHasNothing, SubmitIsRefused, CollectIsRefused}
use Rattle.hall_laws.proofs.OneEvent.{is_sender, is_receiver, is_forward, is_back, is_memory, lane_is, the_lane, the_end, the_requester, goes_inward, goes_outward, refuses_mapped, refuses_err}

-- nothing grows
abbrev nothing : {A : Type 0} → A → Refusal → Type 0
nothing a r = ⊥

module _ (t : Token) (ts : List Token) (held : Values) (k : KnownHolding t ts held) where
  abbrev whole : Fabric
  whole = k.0.0.fabric

  -- the parts that are held, as they stand in the fabric
  there : Agrees k.0.0 held
  there = subst (Agrees k.0.0) k.1 k.0.2.0.0

  may : (event : Event) (r : Refusal) → Refused whole event r → MayRefuse t.knows event r
  may event r why = (k.0.0, k.0.1, k.0.2.0.1, why)

  module _ (name : LaneName) (named : KnowsLane t name) where
    abbrev lane : (e : LaneEndsView) × HasLane whole name e
    lane = the_lane k.0.0 k.0.1 t.knows k.0.2.0.1 name named

    end : (c n : ℕ) (v : PartValue) → c < 4 → n ≡ lane_slot name + c → get_elem? (parts k.0.0) n ≡ some v → get_elem? (ends lane.0) c ≡ some v
    end c n v small at is = the_end k.0.0 k.0.1 t.knows k.0.2.0.1 name lane.0 c n v lane.1 small at is

    sender : (s : SenderEndView) → get_elem? (parts k.0.0) (lane_slot name) ≡ some (Sender s) → lane.0.sender ≡ s
    sender s is = is_sender lane.0.sender s (end 0 (lane_slot name) (Sender s) (omega arith) (omega arith) is)

    forward : (w : List WirePacket) → get_elem? (parts k.0.0) (lane_slot name + 1) ≡ some (Forward w) → lane.0.forward ≡ w
    forward w is = is_forward lane.0.forward w (end 1 (lane_slot name + 1) (Forward w) (omega arith) refl is)

    back : (b : List Dllp) → get_elem? (parts k.0.0) (lane_slot name + 2) ≡ some (Back b) → lane.0.back ≡ b
    back b is = is_back lane.0.back b (end 2 (lane_slot name + 2) (Back b) (omega arith) refl is)

    receiver : (v : ReceiverEndView) → get_elem? (parts k.0.0) (lane_slot name + 3) ≡ some (Receiver v) → lane.0.receiver ≡ v
    receiver v is = is_receiver lane.0.receiver v (end 3 (lane_slot name + 3) (Receiver v) (omega arith) refl is)

    -- a call of the link of the lane, whose answer comes from that over its parts
    link : {A : Type 0} (event : Event) (call : LinkEvent) (r : Refusal) (grows : A → Refusal → Type 0) (a : Result A Refusal) (g : A → Seen × LaneEndsView)
        → ((f : Fabric) → Refuses (event_grows f) (link_at f name call) r → Refused f event r) → link_on lane.0 call ≡ map_ok a g
        → ((x : A) → grows x r → event_grows whole ((g x).0, with_lane whole name (g x).1) r) → Refuses grows a r → MayRefuse t.knows event r
    link event call r grows a g is on same why = may event r (is whole (rw (lane_is whole name lane.0 lane.1, on)
        (refuses_mapped (λ x. event_grows whole (x.0, with_lane whole name x.1)) (event_grows whole) _ (map_ok a g) r (λ x h. h) (refuses_mapped grows (λ x. event_grows whole (x.0, with_lane whole name x.1)) g a r same why))))

-- ---- calls of a link

pub transmit_refused : TransmitIsRefused
transmit_refused t ts name s w r named k why =
    let h : Values = (lane_slot name + 1, Forward w) ∷ ((lane_slot name, Sender s) ∷ []) in let b = there t ts h k in
    link t ts h k name named (events.Transmit name) links.Transmit r lane_grows (transmit_on (lane t ts h k name named).0.sender (lane t ts h k name named).0.forward) _ (λ f x. x) refl (λ x h. h)
    (rw (sender t ts h k name named s b.1.0, forward t ts h k name named w b.0) why)

pub sender_has_nothing : SenderHasNothing
sender_has_nothing t ts name s named k none =
    let h : Values = (lane_slot name, Sender s) ∷ [] in
    let e : LaneEndsView = (lane t ts h k name named).0 in
    link t ts h k name named (events.Transmit name) links.Transmit refusals.Idle lane_grows (transmit_on e.sender e.forward) _ (λ f x. x) refl (λ x h. h)
    (rw (sender t ts h k name named s (there t ts h k).0, none e.forward) refl)

pub deliver_refused : DeliverIsRefused
deliver_refused t ts name w v fate r named k why =
    let h : Values = (lane_slot name + 3, Receiver v) ∷ ((lane_slot name + 1, Forward w) ∷ []) in let b = there t ts h k in
    let e : LaneEndsView = (lane t ts h k name named).0 in
    link t ts h k name named (events.Deliver name fate) (links.Deliver fate) r (λ x. arrival_grows x.0) (deliver_on e.forward e.receiver fate) _ (λ f x. x) refl (λ x h. h)
    (rw (forward t ts h k name named w b.1.0, receiver t ts h k name named v b.0) why)

pub wire_has_nothing : WireHasNothing
wire_has_nothing t ts name w fate named k none =
    let h : Values = (lane_slot name + 1, Forward w) ∷ [] in
    let e : LaneEndsView = (lane t ts h k name named).0 in
    link t ts h k name named (events.Deliver name fate) (links.Deliver fate) refusals.Idle (λ x. arrival_grows x.0) (deliver_on e.forward e.receiver fate) _ (λ f x. x) refl (λ x h. h)
    (rw (forward t ts h k name named w (there t ts h k).0, none e.receiver) refl)

pub send_dllp_refused : SendDllpIsRefused
send_dllp_refused t ts name v b kind r named k why =
    let h : Values = (lane_slot name + 2, Back b) ∷ ((lane_slot name + 3, Receiver v) ∷ []) in
    let e = lane t ts h k name named in
    may t ts h k (events.SendDllp name kind) r (rw (lane_is (whole t ts h k) name e.0 e.1) why)

pub deliver_dllp_refused : DeliverDllpIsRefused
deliver_dllp_refused t ts name b s fate r named k why =
    let h : Values = (lane_slot name, Sender s) ∷ ((lane_slot name + 2, Back b) ∷ []) in let a = there t ts h k in
    let e : LaneEndsView = (lane t ts h k name named).0 in
    link t ts h k name named (events.DeliverDllp name fate) (links.DeliverDllp fate) r nothing (deliver_dllp_on e.back e.sender fate) _ (λ f x. x) refl (λ x h. absurd h)
    (rw (back t ts h k name named b a.1.0, sender t ts h k name named s a.0, why) refl)

pub back_has_nothing : BackHasNothing
back_has_nothing t ts name b fate named k none =
    let h : Values = (lane_slot name + 2, Back b) ∷ [] in
    let e : LaneEndsView = (lane t ts h k name named).0 in
    link t ts h k name named (events.DeliverDllp name fate) (links.DeliverDllp fate) refusals.Idle nothing (deliver_dllp_on e.back e.sender fate) _ (λ f x. x) refl (λ x h. absurd h)
    (rw (back t ts h k name named b (there t ts h k).0, none e.sender) refl)

pub timer_refused : TimerIsRefused
timer_refused t ts name s r named k why =
    let h : Values = (lane_slot name, Sender s) ∷ [] in
    let e : LaneEndsView = (lane t ts h k name named).0 in
    link t ts h k name named (events.Timer name) links.Timer r nothing (timer_on e.sender) _ (λ f x. x) refl (λ x h. absurd h)
    (rw (sender t ts h k name named s (there t ts h k).0, why) refl)

pub retrained_refused : RetrainedIsRefused
retrained_refused t ts name s r named k why =
    let h : Values = (lane_slot name, Sender s) ∷ [] in
    let e : LaneEndsView = (lane t ts h k name named).0 in
    link t ts h k name named (events.Retrained name) links.Retrained r nothing (retrained_on e.sender) _ (λ f x. x) refl (λ x h. absurd h)
    (rw (sender t ts h k name named s (there t ts h k).0, why) refl)

-- ---- forwarding and serving

-- the packet has no way
no_way : (t : Token) (ts : List Token) (name : LaneName) (from place : ℕ) (v : ReceiverEndView) (r : Refusal) → KnowsLane t name → port_from name ≡ Ok from
    → KnownHolding t ts ((lane_slot name + 3, Receiver v) ∷ []) → destination_on v place from ≡ Err r → MayRefuse t.knows (events.Forward name place) r
no_way t ts name from place v r named is k why =
    let h : Values = (lane_slot name + 3, Receiver v) ∷ [] in
    let e = lane t ts h k name named in
    may t ts h k (events.Forward name place) r (rw (is, lane_is (whole t ts h k) name e.0 e.1, receiver t ts h k name named v (there t ts h k).0, why) refl)

pub up_no_way : UpHasNoWay
up_no_way t ts port place v r named k why = no_way t ts (lanes.Up port) port place v r named refl k why

pub out_no_way : OutHasNoWay
out_no_way t ts place v r k why = no_way t ts lanes.Outward 0 place v r tt refl k why

-- the next lane has no room for it
kept : (t : Token) (ts : List Token) (name next : LaneName) (from place to : ℕ) (v : ReceiverEndView) (s : SenderEndView) (r : Refusal) → KnowsLane t name → KnowsLane t next → port_from name ≡ Ok from → lane_to to ≡ next
    → KnownHolding t ts ((lane_slot next, Sender s) ∷ ((lane_slot name + 3, Receiver v) ∷ []))
    → destination_on v place from ≡ Ok to → Refuses lane_grows (forward_on v place s) r → MayRefuse t.knows (events.Forward name place) r
kept t ts name next from place to v s r named known is_from is_next k routed why =
    let h : Values = (lane_slot next, Sender s) ∷ ((lane_slot name + 3, Receiver v) ∷ []) in let b = there t ts h k in
    let e = lane t ts h k name named in let n = lane t ts h k next known in
    may t ts h k (events.Forward name place) r
    (rw (is_from, lane_is (whole t ts h k) name e.0 e.1, receiver t ts h k name named v b.1.0, routed, is_next, lane_is (whole t ts h k) next n.0 n.1, sender t ts h k next known s b.0) (refuses_mapped lane_grows (event_grows (whole t ts h k)) _ (forward_on v place s) r (λ x h. h) why))

pub up_kept : UpIsKept
up_kept t ts port place to v s r named k routed why =
    let in_is : to ≡ 0 = goes_inward v place port to named.0 routed in
    kept t ts (lanes.Up port) lanes.Inward port place to v s r named tt refl (ap lane_to in_is) k routed why

pub out_kept : OutIsKept
out_kept t ts place zero v s r named k routed why = absurd (let z = named.0 in omega arith)
out_kept t ts place (suc i) v s r named k routed why = kept t ts lanes.Outward (lanes.Down (suc i)) 0 place (suc i) v s r tt named refl refl k routed why

-- its port has no lane
no_lane : (f : Fabric) (place i : ℕ) (v : ReceiverEndView) → f.outward.receiver ≡ v → destination_on v place 0 ≡ Ok (suc i) → slice_get f.down i ≡ None → Refused f (events.Forward lanes.Outward place) (refusals.Route NoPort)
no_lane f place i v is routed past = let routed' : destination_on f.outward.receiver place 0 ≡ Ok (suc i) = subst (λ (z : ReceiverEndView). destination_on z place 0 ≡ Ok (suc i)) (sym is) routed in rw (routed', past) refl

pub out_no_lane : OutHasNoLane
out_no_lane t ts place zero v k routed none = absurd (goes_outward v place routed)
out_no_lane t ts place (suc i) v k routed none =
    let h : Values = (8, Receiver v) ∷ [] in
    let f : Fabric = whole t ts h k in
    let many = k.0.2.0.1.config.requesters in let down = k.0.1.sound.lanes.down in
    let past = ⊎_elim (λ (z : suc i ≡ 0). absurd cc) (λ (z : t.knows.config.requesters < suc i). slice_get_past f.down i (omega (arith, z, many, down))) none in
    may t ts h k (events.Forward lanes.Outward place) (refusals.Route NoPort) (no_lane f place i v (is_receiver f.outward.receiver v (there t ts h k).0) routed past)

pub serve_refused : ServeIsRefused
serve_refused t ts place v m s r k why =
    let h : Values = (5, Sender s) ∷ ((0, Memory m) ∷ ((4, Receiver v) ∷ [])) in let b = there t ts h k in
    let f : Fabric = whole t ts h k in
    let why' : Refuses (λ x. serving_grows f.outward.sender x.3) (serve_on f.inward.receiver place f.memory f.outward.sender) r = serving f (is_receiver f.inward.receiver v b.1.1.0) (is_memory f.memory m b.1.0) (is_sender f.outward.sender s b.0) in
    may t ts h k (events.Serve place) r (refuses_mapped (λ x. serving_grows f.outward.sender x.3) (event_grows f) _ (serve_on f.inward.receiver place f.memory f.outward.sender) r (λ x h. h) why')
  where
    serving : (f : Fabric) → f.inward.receiver ≡ v → f.memory ≡ m → f.outward.sender ≡ s → Refuses (λ x. serving_grows f.outward.sender x.3) (serve_on f.inward.receiver place f.memory f.outward.sender) r
    serving f is_v is_m is_s =
        subst (λ (z : ReceiverEndView). Refuses (λ x. serving_grows f.outward.sender x.3) (serve_on z place f.memory f.outward.sender) r) (sym is_v)
        (subst (λ (z : MemoryView). Refuses (λ x. serving_grows f.outward.sender x.3) (serve_on v place z f.outward.sender) r) (sym is_m)
        (subst (λ (z : SenderEndView). Refuses (λ x. serving_grows z x.3) (serve_on v place m z) r) (sym is_s) why))

pub in_has_nothing : InHasNothing
in_has_nothing t ts place v k none =
    let h : Values = (4, Receiver v) ∷ [] in
    let f : Fabric = whole t ts h k in
    let none' : serve_on f.inward.receiver place f.memory f.outward.sender ≡ Err refusals.NotTakeable =
    subst (λ (z : ReceiverEndView). serve_on z place f.memory f.outward.sender ≡ Err refusals.NotTakeable) (sym (is_receiver f.inward.receiver v (there t ts h k).0)) (none f.memory f.outward.sender) in
    may t ts h k (events.Serve place) refusals.NotTakeable (refuses_mapped nothing (event_grows f) _ (serve_on f.inward.receiver place f.memory f.outward.sender) refusals.NotTakeable (λ x h. absurd h) (refuses_err nothing (serve_on f.inward.receiver place f.memory f.outward.sender) refusals.NotTakeable none'))

-- ---- a requester's calls

module _ (t : Token) (ts : List Token) (port : ℕ) (at : IsAtPort t port) (q : RequesterView) (held : Values) (k : KnownHolding t ts held) where
  asks : get_elem? (parts k.0.0) (slot port 0) ≡ some (Requester q) → part_at k.0.0.fabric.requesters port ≡ Ok q
  asks is = let there = the_requester k.0.0 k.0.1 t.knows k.0.2.0.1 port q (let p = at.0 in omega arith) at.1 is in rw (there.1.is_port, there.1.there) refl

pub submit_refused : SubmitIsRefused
submit_refused t ts port op m q s r at k why =
    let h : Values = (slot port 1, Sender s) ∷ ((slot port 0, Requester q) ∷ ((0, Memory m) ∷ [])) in let b = there t ts h k in
    let f : Fabric = whole t ts h k in let name = lanes.Up port in
    let named : KnowsLane t name = ((let p = at.0 in omega arith), at.1) in
    let e = lane t ts h k name named in
    may t ts h k (events.Submit port op) r
    (rw (asks t ts port at q h k b.1.0, lane_is f name e.0 e.1, sender t ts h k name named s b.0) (refuses_mapped lane_grows (event_grows f) _ (submit_on q s op) r (λ x h. h) why))

pub collect_refused : CollectIsRefused
collect_refused t ts port m q v r at k why =
    let h : Values = (slot port 5 + 3, Receiver v) ∷ ((slot port 0, Requester q) ∷ ((0, Memory m) ∷ [])) in let b = there t ts h k in
    let f : Fabric = whole t ts h k in let name = lanes.Down port in
    let named : KnowsLane t name = ((let p = at.0 in omega arith), at.1) in
    let e = lane t ts h k name named in
    may t ts h k (events.Collect port) r (rw (asks t ts port at q h k b.1.0, lane_is f name e.0 e.1, receiver t ts h k name named v b.0, why) refl)
