-- What each event owes at its release.
use Rattle.std.proofs.Common.{◌≡◌, ◌≢◌, ℕ, zero, suc, ◌+◌, ◌<◌, List, [], ◌∷◌, set, refl, sym, ap, ◌∙◌, subst, arith, Result, Ok}
use Rattle.std.specs.Prelude.{slice_get}
use mathlib.Core.Option.{some}
use lib.ListN.{get_elem?}
use Rattle.dllp_core.specs.declared.packet.Dllp.{Dllp}
use Rattle.seq_memory.specs.Entries.{Entry}
use Rattle.seq_memory.specs.History.{MemoryView}
use Rattle.requester_core.specs.RequesterView.{RequesterView}
use Rattle.history_words.specs.Records.{Record}
use Rattle.lane_core.specs.Steps.{LaneEndsView, ReceiverEndView, SenderEndView}
use Rattle.fabric_steps.specs.Lists.{Each}
use Rattle.fabric_steps.specs.Fabric.{Fabric}
use Rattle.fabric_steps.specs.Event.{Event, Seen}
use Rattle.fabric_steps.specs.declared.event.EventOf.TheVariants as events
use Rattle.fabric_steps.specs.declared.event.LaneName.{LaneName}
use Rattle.fabric_steps.specs.declared.event.LaneName.TheVariants as lanes
use Rattle.fabric_steps.specs.declared.event.LinkEvent.{LinkEvent}
use Rattle.fabric_steps.specs.declared.event.LinkEvent.TheVariants as links
use Rattle.fabric_steps.specs.declared.event.SeenOf.TheVariants as seen
use Rattle.fabric_steps.specs.declared.fault.Refusal.{Refusal}
use Rattle.fabric_core.specs.Answers.{map_ok, send_dllp_on, link_on, link_at, destination_on, forward_on, port_from, part_at, lane_to, with_requester, Happens, SubmitFits, ForwardFits}
use Rattle.fabric_core.specs.Kept.{records_of}
use Rattle.fabric_core.specs.Steps.{HasLane}
use Rattle.hall_laws.specs.declared.part.PartValue.{PartValue}
use Rattle.hall_laws.specs.declared.part.PartValue.TheVariants.{Memory, Requester, Sender, Forward, Back, Receiver}
use Rattle.hall_laws.specs.declared.token.Token.{Token}
use Rattle.hall_laws.specs.declared.token.Knowledge.{Knowledge}
use Rattle.hall_laws.specs.Waiting.{requester_in}
use Rattle.hall_laws.specs.Parts.{ends, parts_of, lane_slot, slot, with_lane}
use Rattle.hall_laws.specs.Rule.{Goes, after_event, after_silent, learned, learned_also, with_done}
use Rattle.hall_laws.specs.Duties.{KnowsLane, IsAtPort, TransmitOwes, DeliverOwes, SendDllpOwes, DeliverDllpOwes, TimerOwes, RetrainedOwes, ForwardUpOwes, ForwardOutOwes, ServeOwes, SubmitOwes, CollectOwes}
use Rattle.hall_laws.proofs.Parts.{put_requester, put_end}
use Rattle.hall_laws.proofs.Lanes.{put_two, with_lane_lanes}
use Rattle.hall_laws.proofs.OneEvent.{is_sender, is_receiver, is_forward, is_back, is_memory, lane_is, the_lane, the_end, the_requester, leave_one, leave_two, leave_second, leave_in, goes, goes_inward}

same_ok : {A E : Type 0} {x y : A} → ◌≡◌ {A = Result A E} (Ok x) (Ok y) → x ≡ y
same_ok h = cc

-- ---- calls of a link

-- the event is this call of the link of this lane, of which no seat learns anything
record IsLinkEvent (event : Event) (name : LaneName) (link : LinkEvent) (what : Seen) : Type 0 where
  happens : (f f' : Fabric) → link_at f name link ≡ Ok (what, f') → Happens f event what f'
  silent : (n : ℕ) → records_of event what n ≡ []
  same : (h : List Entry) (w : Knowledge) → learned event what h w ≡ w

no_records : (event : Event) (what : Seen) (i n : ℕ) → records_of event what n ≡ [] → Each (λ (r : Record). requester_in r ≡ i) (records_of event what n)
no_records event what i n none = subst (Each (λ (r : Record). requester_in r ≡ i)) (sym none) tt

linked : (f : Fabric) (name : LaneName) (link : LinkEvent) (what : Seen) (e e' : LaneEndsView) → HasLane f name e → link_on e link ≡ Ok (what, e') → link_at f name link ≡ Ok (what, with_lane f name e')
linked f name link what e e' has did = rw (lane_is f name e has, did) refl

module _ (event : Event) (name : LaneName) (link : LinkEvent) (what : Seen) (is : IsLinkEvent event name link what) (t : Token) (named : KnowsLane t name) where
  -- over the ends at the places c and d, of which the first is released
  link_of_two : (c d : ℕ) (v v' w w' : PartValue) → c < 4 → d < 4 → d ≢ c → t.held ≡ (lane_slot name + d, w) ∷ ((lane_slot name + c, v) ∷ [])
      → ((e : LaneEndsView) → get_elem? (ends e) c ≡ some v → get_elem? (ends e) d ≡ some w → (mid : LaneEndsView) × (e' : LaneEndsView) × (link_on e link ≡ Ok (what, e')) × (ends mid ≡ set (ends e) d w') × (ends e' ≡ set (ends mid) c v'))
      → Goes event what t (lane_slot name + c) v' (after_silent event what ((lane_slot name + d, w') ∷ []) t)
  link_of_two c d v v' w w' small_c small_d apart held does =
      goes event what t (after_silent event what ((lane_slot name + d, w') ∷ []) t) (lane_slot name + c) v' ((lane_slot name + d, w) ∷ ((lane_slot name + c, v) ∷ [])) held (leave_two (lane_slot name + c) (lane_slot name + d) v w w' (λ z. apart (omega arith)))
      (λ n. no_records event what (suc t.knows.number) n (is.silent n))
      (λ s sound a f.
      let lane = the_lane s sound t.knows f name named in
      let e : LaneEndsView = lane.0 in
      let x = does e (the_end s sound t.knows f name e c (lane_slot name + c) v lane.1 small_c refl a.1.0) (the_end s sound t.knows f name e d (lane_slot name + d) w lane.1 small_d refl a.0) in record {
        after = with_lane s.fabric name x.1;
        happens = is.happens s.fabric (with_lane s.fabric name x.1) (linked s.fabric name link what e x.1 lane.1 x.2);
        parts = put_two s.fabric sound.sound.lanes name e x.0 x.1 d c (lane_slot name + d) (lane_slot name + c) w' v' lane.1 small_d small_c refl refl x.3 x.4;
        knows = ap (with_done event what) (sym (is.same s.fabric.memory.entries t.knows));
      })

  -- over the sender's end
  link_of_sender : (v v' : SenderEndView) → t.held ≡ (lane_slot name, Sender v) ∷ [] → ((e : LaneEndsView) → e.sender ≡ v → link_on e link ≡ Ok (what, record e { sender = v' })) → Goes event what t (lane_slot name) (Sender v') (after_silent event what [] t)
  link_of_sender v v' held does =
      goes event what t (after_silent event what [] t) (lane_slot name) (Sender v') ((lane_slot name, Sender v) ∷ []) held (leave_one (lane_slot name) (Sender v)) (λ n. no_records event what (suc t.knows.number) n (is.silent n))
      (λ s sound a f.
      let lane = the_lane s sound t.knows f name named in
      let e : LaneEndsView = lane.0 in let e' : LaneEndsView = record e { sender = v' } in
      let same : e.sender ≡ v = is_sender e.sender v (the_end s sound t.knows f name e 0 (lane_slot name) (Sender v) lane.1 (omega arith) (omega arith) a.0) in record {
        after = with_lane s.fabric name e';
        happens = is.happens s.fabric (with_lane s.fabric name e') (linked s.fabric name link what e e' lane.1 (does e same));
        parts = put_end s.fabric sound.sound.lanes name e e' 0 (lane_slot name) (Sender v') lane.1 (omega arith) (omega arith) refl;
        knows = ap (with_done event what) (sym (is.same s.fabric.memory.entries t.knows));
      })

pub transmit_goes : TransmitOwes
transmit_goes t name s s' w w' n named held did =
    let held' : t.held ≡ (lane_slot name + 1, Forward w) ∷ ((lane_slot name + 0, Sender s) ∷ []) = held ∙ ap (λ (k : ℕ). (lane_slot name + 1, Forward w) ∷ ((k, Sender s) ∷ [])) (omega arith) in
    subst (λ (k : ℕ). Goes (events.Transmit name) (seen.Sent n) t k (Sender s') (after_silent (events.Transmit name) (seen.Sent n) ((lane_slot name + 1, Forward w') ∷ []) t)) (omega arith)
    (link_of_two (events.Transmit name) name links.Transmit (seen.Sent n) (record { happens = λ f f' x. (x, tt); silent = λ n. refl; same = λ h w. refl }) t named 0 1 (Sender s) (Sender s') (Forward w) (Forward w') (omega arith) (omega arith) (λ z. omega arith) held'
    (λ e a b. (record e { forward = w' }, record e { sender = s'; forward = w' }, rw (is_sender e.sender s a, is_forward e.forward w b, did) refl, refl, refl)))

pub deliver_goes : DeliverOwes
deliver_goes t name w w' r r' fate x named held did =
    link_of_two (events.Deliver name fate) name (links.Deliver fate) (seen.Delivered x) (record { happens = λ f f' x. (x, tt); silent = λ n. refl; same = λ h w. refl }) t named 1 3 (Forward w) (Forward w') (Receiver r) (Receiver r') (omega arith) (omega arith) (λ z. omega arith) held
    (λ e a b. (record e { receiver = r' }, record e { forward = w'; receiver = r' }, rw (is_forward e.forward w a, is_receiver e.receiver r b, did) refl, refl, refl))

pub send_dllp_goes : SendDllpOwes
send_dllp_goes t name r r' b b' kind d named held did =
    link_of_two (events.SendDllp name kind) name (links.SendDllp kind) (seen.SentDllp d) (record { happens = λ f f' x. (x, tt); silent = λ n. refl; same = λ h w. refl }) t named 3 2 (Receiver r) (Receiver r') (Back b) (Back b') (omega arith) (omega arith) (λ z. omega arith) held
    (λ e x y. let did' : send_dllp_on e.receiver e.back kind ≡ Ok (d, r', b') = rw (is_receiver e.receiver r x, is_back e.back b y) did in (
      record e { back = b' },
      record e { back = b'; receiver = r' },
      ap (λ (a : Result (Dllp × ReceiverEndView × List Dllp) Refusal). map_ok a (λ z. (seen.SentDllp z.0, record e { receiver = z.1; back = z.2 }))) did',
      refl,
      refl,
    ))

pub deliver_dllp_goes : DeliverDllpOwes
deliver_dllp_goes t name b b' s s' fate x named held did =
    let held' : t.held ≡ (lane_slot name + 0, Sender s) ∷ ((lane_slot name + 2, Back b) ∷ []) = held ∙ ap (λ (k : ℕ). (k, Sender s) ∷ ((lane_slot name + 2, Back b) ∷ [])) (omega arith) in
    subst (λ (k : ℕ). Goes (events.DeliverDllp name fate) (seen.SeenDllp x) t (lane_slot name + 2) (Back b') (after_silent (events.DeliverDllp name fate) (seen.SeenDllp x) ((k, Sender s') ∷ []) t)) (omega arith)
    (link_of_two (events.DeliverDllp name fate) name (links.DeliverDllp fate) (seen.SeenDllp x) (record { happens = λ f f' x. (x, tt); silent = λ n. refl; same = λ h w. refl }) t named 2 0 (Back b) (Back b') (Sender s) (Sender s') (omega arith) (omega arith) (λ z. omega arith) held'
    (λ e y a. (record e { sender = s' }, record e { sender = s'; back = b' }, rw (is_back e.back b y, is_sender e.sender s a, did) refl, refl, refl)))

pub timer_goes : TimerOwes
timer_goes t name s s' n named held did =
    link_of_sender (events.Timer name) name links.Timer (seen.Back n) (record { happens = λ f f' x. (x, tt); silent = λ n. refl; same = λ h w. refl }) t named s s' held (λ e is. rw (is, did) refl)

pub retrained_goes : RetrainedOwes
retrained_goes t name s s' named held did =
    link_of_sender (events.Retrained name) name links.Retrained seen.Retrained (record { happens = λ f f' x. (x, tt); silent = λ n. refl; same = λ h w. refl }) t named s s' held (λ e is. rw (is, did) refl)

-- ---- a packet that goes on

-- the lanes of a forwarding are two
record AreTwo (name next : LaneName) : Type 0 where
  slots : lane_slot next ≢ lane_slot name + 3
  keeps : (f : Fabric) (e n : LaneEndsView) → HasLane f name e → HasLane (with_lane f next n) name e
  either : (f : Fabric) (e n : LaneEndsView) → with_lane (with_lane f name e) next n ≡ with_lane (with_lane f next n) name e

forward_goes : (t : Token) (name next : LaneName) (from place to : ℕ) (r r' : ReceiverEndView) (s s' : SenderEndView) → KnowsLane t name → KnowsLane t next → AreTwo name next → port_from name ≡ Ok from → lane_to to ≡ next
    → t.held ≡ (lane_slot next, Sender s) ∷ ((lane_slot name + 3, Receiver r) ∷ [])
    → destination_on r place from ≡ Ok to → forward_on r place s ≡ Ok (r', s') → ForwardFits r place
    → Goes (events.Forward name place) (seen.To to) t (lane_slot name + 3) (Receiver r') (after_silent (events.Forward name place) (seen.To to) ((lane_slot next, Sender s') ∷ []) t)
forward_goes t name next from place to r r' s s' named known two is_from is_next held routed did spelled =
    goes (events.Forward name place) (seen.To to) t (after_silent (events.Forward name place) (seen.To to) ((lane_slot next, Sender s') ∷ []) t) (lane_slot name + 3) (Receiver r') ((lane_slot next, Sender s) ∷ ((lane_slot name + 3, Receiver r) ∷ [])) held (leave_two (lane_slot name + 3) (lane_slot next) (Receiver r) (Sender s) (Sender s') two.slots)
    (λ n. tt)
    (λ w sound a f.
    let g : Fabric = w.fabric in
    let here = the_lane w sound t.knows f name named in let there = the_lane w sound t.knows f next known in
    let e : LaneEndsView = here.0 in let n : LaneEndsView = there.0 in
    let is_r : e.receiver ≡ r = is_receiver e.receiver r (the_end w sound t.knows f name e 3 (lane_slot name + 3) (Receiver r) here.1 (omega arith) refl a.1.0) in
    let is_s : n.sender ≡ s = is_sender n.sender s (the_end w sound t.knows f next n 0 (lane_slot next) (Sender s) there.1 (omega arith) (omega arith) a.0) in
    let e' : LaneEndsView = record e { receiver = r' } in let n' : LaneEndsView = record n { sender = s' } in
    let mid : Fabric = with_lane g next n' in record {
      after = with_lane (with_lane g name e') next n';
      happens = (
        rw (is_from, lane_is g name e here.1, is_r, routed, is_next, lane_is g next n there.1, is_s, did) refl,
        λ x at. let same : e ≡ x = same_ok (sym (lane_is g name e here.1) ∙ at) in subst (λ (z : ReceiverEndView). ForwardFits z place) (sym is_r ∙ ap (λ (z : LaneEndsView). z.receiver) same) spelled,
      );
      parts = ap parts_of (two.either g e' n')
          ∙ (put_end mid (with_lane_lanes g next n' sound.sound.lanes) name e e' 3 (lane_slot name + 3) (Receiver r') (two.keeps g e n' here.1) (omega arith) refl refl
          ∙ ap (λ (l : List PartValue). set l (lane_slot name + 3) (Receiver r')) (put_end g sound.sound.lanes next n n' 0 (lane_slot next) (Sender s') there.1 (omega arith) (omega arith) refl));
      knows = refl;
    })

pub up_goes : ForwardUpOwes
up_goes t port place to r r' s s' named held routed did spelled =
    let in_is : to ≡ 0 = goes_inward r place port to named.0 routed in
    forward_goes t (lanes.Up port) lanes.Inward port place to r r' s s' named tt
    (record { slots = λ z. omega arith; keeps = λ f e n has. has; either = λ f e n. refl }) refl (ap lane_to in_is) held routed did spelled

pub out_goes : ForwardOutOwes
out_goes t place zero r r' s s' named held routed did spelled = absurd (let z = named.0 in omega arith)
out_goes t place (suc i) r r' s s' named held routed did spelled =
    forward_goes t lanes.Outward (lanes.Down (suc i)) 0 place (suc i) r r' s s' tt named
    (record { slots = λ z. omega arith; keeps = λ f e n has. has; either = λ f e n. refl }) refl refl held routed did spelled

-- ---- a request that acts

pub serve_goes : ServeOwes
serve_goes t place at r r' m m' s s' held did spelled =
    goes (events.Serve place) (seen.At at) t (after_event (events.Serve place) (seen.At at) m.entries ((0, Memory m') ∷ ((5, Sender s') ∷ [])) t) 4 (Receiver r') ((5, Sender s) ∷ ((0, Memory m) ∷ ((4, Receiver r) ∷ []))) held
    (leave_in (Sender s) (Sender s') (Memory m) (Memory m') (Receiver r)) (λ n. tt)
    (λ w sound b f.
    let g : Fabric = w.fabric in
    let is_s : g.outward.sender ≡ s = is_sender g.outward.sender s b.0 in
    let is_m : g.memory ≡ m = is_memory g.memory m b.1.0 in
    let is_r : g.inward.receiver ≡ r = is_receiver g.inward.receiver r b.1.1.0 in record {
      after = record g { memory = m'; inward = record g.inward { receiver = r' }; outward = record g.outward { sender = s' } };
      happens = (rw (is_r, is_m, is_s, did) refl, rw (is_r, is_m) spelled);
      parts = refl;
      knows = refl;
    })

-- ---- a requester's call

same_requesters : (f : Fabric) (name : LaneName) (e : LaneEndsView) → (with_lane f name e).requesters ≡ f.requesters
same_requesters f (lanes.Up port) e = refl
same_requesters f (lanes.Down port) e = refl
same_requesters f lanes.Inward e = refl
same_requesters f lanes.Outward e = refl

-- over the end at the place c of this lane, whose ends are then as `after` says
request_goes : (event : Event) (what : Seen) (t : Token) (port c u : ℕ) (name : LaneName) (m : MemoryView) (q q' : RequesterView) (v v' : PartValue) (after : LaneEndsView → LaneEndsView)
    → IsAtPort t port → KnowsLane t name → c < 4 → u ≡ lane_slot name + c → 0 < u → u ≢ slot port 0
    → t.held ≡ (u, v) ∷ ((slot port 0, Requester q) ∷ ((0, Memory m) ∷ []))
    → ((n : ℕ) → Each (λ (r : Record). requester_in r ≡ suc t.knows.number) (records_of event what n))
    → ((e : LaneEndsView) → ends (after e) ≡ set (ends e) c v')
    → ((f : Fabric) (e : LaneEndsView) → get_elem? (ends e) c ≡ some v → part_at f.requesters port ≡ Ok q → HasLane f name e → Happens f event what (with_requester (with_lane f name (after e)) port q'))
    → Goes event what t (slot port 0) (Requester q') (after_event event what m.entries ((u, v') ∷ ((0, Memory m) ∷ [])) t)
request_goes event what t port c u name m q q' v v' after at named small at_u some_u apart held own is_after does =
    goes event what t (after_event event what m.entries ((u, v') ∷ ((0, Memory m) ∷ [])) t) (slot port 0) (Requester q') ((u, v) ∷ ((slot port 0, Requester q) ∷ ((0, Memory m) ∷ []))) held
    (leave_second u (slot port 0) v v' (Requester q) (Memory m) (Memory m) some_u (let p = at.0 in omega arith) apart) own
    (λ w sound b f.
    let g : Fabric = w.fabric in
    let h = sound.sound.lanes in
    let lane = the_lane w sound t.knows f name named in
    let e : LaneEndsView = lane.0 in
    let there = the_requester w sound t.knows f port q (let p = at.0 in omega arith) at.1 b.1.0 in
    let is_m : g.memory ≡ m = is_memory g.memory m b.1.1.0 in
    let mid : Fabric = with_lane g name (after e) in record {
      after = with_requester mid port q';
      happens = does g e (the_end w sound t.knows f name e c u v lane.1 small at_u b.0) (rw (there.1.is_port, there.1.there) refl) lane.1;
      parts = ap (λ (n : ℕ). parts_of (with_requester mid n q')) there.1.is_port
          ∙ (put_requester mid (with_lane_lanes g name (after e) h) there.0 q q' (slot port 0) (ap (λ (l : List RequesterView). slice_get l there.0) (same_requesters g name (after e)) ∙ there.1.there) (ap (λ (n : ℕ). slot n 0) there.1.is_port)
          ∙ (ap (λ (l : List PartValue). set l (slot port 0) (Requester q')) (put_end g h name e (after e) c u v' lane.1 small at_u (is_after e))
          ∙ ap (λ (z : MemoryView). set (set (set (parts_of g) 0 (Memory z)) u v') (slot port 0) (Requester q')) is_m));
      knows = ap (λ (z : MemoryView). learned_also event what z.entries t.knows) (sym is_m);
    })

pub submit_goes : SubmitOwes
submit_goes t port number op m q q' s s' at held did fits =
    request_goes (events.Submit port op) (seen.Submitted number) t port 0 (slot port 1) (lanes.Up port) m q q' (Sender s) (Sender s') (λ e. record e { sender = s' }) at ((let p = at.0 in omega arith), at.1) (omega arith) (omega arith) (omega arith) (λ z. omega arith) held
    (λ n. (at.0, tt)) (λ e. refl)
    (λ f e end part has. (rw (part, lane_is f (lanes.Up port) e has, is_sender e.sender s end, did) refl, λ x there. subst (λ (z : RequesterView). SubmitFits z op) (same_ok (sym part ∙ there)) fits))

pub collect_goes : CollectOwes
collect_goes t port x m q q' v v' at held did =
    request_goes (events.Collect port) (seen.Collected x) t port 3 (slot port 5 + 3) (lanes.Down port) m q q' (Receiver v) (Receiver v') (λ e. record e { receiver = v' }) at ((let p = at.0 in omega arith), at.1) (omega arith) refl (omega arith) (λ z. omega arith) held
    (λ n. (at.0, tt)) (λ e. refl)
    (λ f e end part has. (rw (part, lane_is f (lanes.Down port) e has, is_receiver e.receiver v end, did) refl, tt))
