-- What each call of a lane leaves, and what a chart makes of it.
use Rattle.std.proofs.Common.{◌≡◌, ◌∙◌, ℕ, ◌+◌, Bool, true, false, List, [], ◌∷◌, ◌++◌, length, drop, refl, sym, ap, subst, Option, Some, None, Result, Ok}
use Rattle.std.specs.Prelude.{nat_lt, if◌then◌else◌, slice_get}
use Rattle.seq12.specs.Numbers.{distance_of}
use Rattle.tlp_core.specs.Ops.{Op}
use Rattle.tlp_core.specs.TlpView.{TlpView}
use Rattle.tlp_core.specs.Operation.{op_of}
use Rattle.seq_memory.specs.Entries.{Entry}
use Rattle.dllp_core.specs.declared.packet.Dllp.{Dllp}
use Rattle.dllp_core.specs.declared.packet.Dllp.TheVariants.{Ack, Nak, Update}
use Rattle.link_replay.specs.declared.fault.AckFault.{AckFault}
use Rattle.link_replay.specs.CargoView.{CargoView}
use Rattle.link_replay.specs.SenderView.{SenderView, next_item, number_at, acknowledged as dropped, from_oldest}
use Rattle.link_replay.specs.declared.receiver.Reception.TheVariants.{Accept, Duplicate, NakNow, Quiet}
use Rattle.switch_core.specs.Routing.{port_of}
use Rattle.flow_control.specs.Queue.{Item}
use Rattle.lane_core.specs.declared.packet.WirePacket.{WirePacket}
use Rattle.lane_core.specs.declared.packet.Fate.{Fate}
use Rattle.lane_core.specs.declared.packet.Fate.TheVariants.{Good, Failed, Lost}
use Rattle.lane_core.specs.declared.packet.Arrival.{Arrival}
use Rattle.lane_core.specs.declared.packet.Arrival.TheVariants.{Answered, Gone}
use Rattle.lane_core.specs.declared.packet.DllpSeen.{DllpSeen}
use Rattle.lane_core.specs.declared.packet.DllpSeen.TheVariants as seen
use Rattle.lane_core.specs.declared.packet.DllpKind.{DllpKind}
use Rattle.lane_core.specs.Content.{cargo_of, item_spelled}
use Rattle.lane_core.specs.Steps.{LaneEndsView, ReceiverEndView, all_but_first, packets_sent, entered as entered_at, after_transmission, wire_after_transmit, arrival_of, queue_with, after_arrival, delivered, after_deliver, dllp_of, after_send, wire_after_send, sender_after, is_expected, seen_by, dllp_seen, sending_told, after_timer, after_retraining, after_take}
use Rattle.flow_control.specs.Account.{gate_told}
use Rattle.flow_control.specs.Credits.{CreditGateView}
use Rattle.chart_rows.specs.declared.row.Carried.{Carried}
use Rattle.chart_rows.specs.declared.row.PacketSent.{PacketSent}
use Rattle.chart_rows.specs.declared.row.DllpSent.{DllpSent}
use Rattle.chart_links.specs.CourseView.{CourseView, known, next_carried, next_packet, sent, queued, arrived, without, sent_back, without_back, acknowledged, replayed, entered, told}
use Rattle.chart_links.specs.Lanes.{is_accepted}
use Rattle.chart_arrows.specs.Accounts.{AreSo, IsOf, IsSaid, IsSaidOfBytes, IsSaidOnWire, IsAccountOf}
use Rattle.chart_arrows.proofs.Lists.{HasSo, length_so, one_more_so, drop_so, remove_so, at_so, other_so, get_before, map_more, map_rest}

-- ---- a longer history

of_more : (h : List Entry) (x : Entry) (o : Option Op) (requester number : ℕ) (c : Carried) → IsOf h o requester number c → IsOf (h ++ x ∷ []) o requester number c
of_more h x (Some op) requester number c is = is
of_more h x None requester number c is = (is.0, (is.1.0, get_before h (x ∷ []) is.1.0 _ is.1.1), is.2)

said_more : (h : List Entry) (x : Entry) (item : Item) (c : Option Carried) → IsSaid h item c → IsSaid (h ++ x ∷ []) item c
said_more h x item None is = absurd is
said_more h x item (Some c) is = of_more h x (op_of item.0) (port_of item.0) item.1 c is

bytes_more : (h : List Entry) (x : Entry) (cargo : CargoView) (c : Option Carried) → IsSaidOfBytes h cargo c → IsSaidOfBytes (h ++ x ∷ []) cargo c
bytes_more h x cargo c is = (is.0, is.1, said_more h x is.0 c is.2)

wire_more : (h : List Entry) (x : Entry) (p : WirePacket) (s : PacketSent) → IsSaidOnWire h p s → IsSaidOnWire (h ++ x ∷ []) p s
wire_more h x p s is = (is.0, bytes_more h x p.cargo s.carried is.1)

pub account_more : (h : List Entry) (x : Entry) (e : LaneEndsView) (c : CourseView) → IsAccountOf h e c → IsAccountOf (h ++ x ∷ []) e c
account_more h x e c a = record {
  acked = a.acked;
  kept = other_so (IsSaidOfBytes h) (IsSaidOfBytes (h ++ x ∷ [])) e.sender.sending.kept c.kept (bytes_more h x) a.kept;
  place = a.place;
  replays = a.replays;
  wire = other_so (IsSaidOnWire h) (IsSaidOnWire (h ++ x ∷ [])) e.forward c.wire (wire_more h x) a.wire;
  back = a.back;
  queue = other_so (IsSaid h) (IsSaid (h ++ x ∷ [])) e.receiver.queue c.queue (said_more h x) a.queue;
}

-- ---- a packet enters, and is sent

pub account_entered : (h : List Entry) (e : LaneEndsView) (c : CourseView) (t : TlpView) (mark : ℕ) (k : Carried) → item_spelled (cargo_of t mark) ≡ Some (t, mark) → IsSaid h (t, mark) (Some k)
    → IsAccountOf h e c → IsAccountOf h (record e { sender = entered_at e.sender t mark }) (entered (Some k) c)
account_entered h e c t mark k spelled said a = record {
  acked = a.acked;
  kept = one_more_so (IsSaidOfBytes h) e.sender.sending.kept (cargo_of t mark) c.kept (Some k) a.kept ((t, mark), spelled, said);
  place = a.place;
  replays = a.replays;
  wire = a.wire;
  back = a.back;
  queue = a.queue;
}

pub not_none : {X : Type 0} (b : Bool) (o : Option X) (x : X) → (if b then None else o) ≡ Some x → (b ≡ false) × (o ≡ Some x)
not_none true o x e = absurd cc
not_none false o x e = (refl, e)

place_on : (p q m n : ℕ) (b : Bool) → p ≡ q → m ≡ n → b ≡ false → (if nat_lt p m then p + 1 else p) ≡ (if b then q else (if nat_lt q n then q + 1 else q))
place_on p q m n b at long running = rw (at, long, running) refl

pub next_said : (h : List Entry) (e : LaneEndsView) (c : CourseView) (cargo : CargoView) → slice_get e.sender.sending.kept e.sender.sending.place ≡ Some cargo → IsAccountOf h e c
    → IsSaidOfBytes h cargo (next_carried c)
next_said h e c cargo there a =
    let k : HasSo (IsSaidOfBytes h) cargo c.kept e.sender.sending.place = at_so (IsSaidOfBytes h) e.sender.sending.kept c.kept e.sender.sending.place cargo a.kept there in
    let found : slice_get c.kept c.place ≡ Some k.y = ap (λ (p : ℕ). slice_get c.kept p) a.place ∙ k.there in
    subst (λ (o : Option Carried). IsSaidOfBytes h cargo o) (sym (ap (λ (o : Option (Option Carried)). known o) found)) k.is

pub account_sent : (h : List Entry) (e : LaneEndsView) (c : CourseView) (row : Option ℕ) (cargo : CargoView) → next_item e.sender.sending ≡ Some cargo → IsAccountOf h e c
    → IsAccountOf h (record e { sender = after_transmission e.sender; forward = wire_after_transmit e.sender e.forward }) (sent (number_at e.sender.sending e.sender.sending.place) row c)
account_sent h e c row cargo item a =
    let s : SenderView = e.sender.sending in
    let goes = not_none s.stopped (slice_get s.kept s.place) cargo item in
    let packet : PacketSent = next_packet (number_at s s.place) row c in
    record {
      acked = a.acked;
      kept = a.kept;
      place = place_on c.place s.place (length c.kept) (length s.kept) s.stopped a.place (length_so (IsSaidOfBytes h) s.kept c.kept a.kept) goes.0;
      replays = a.replays;
      wire = subst (λ (o : Option CargoView). AreSo (IsSaidOnWire h) (e.forward ++ packets_sent s o) (c.wire ++ packet ∷ [])) (sym item)
          (one_more_so (IsSaidOnWire h) e.forward (record { number = number_at s s.place; cargo = cargo }) c.wire packet a.wire (refl, next_said h e c cargo goes.1 a));
      back = a.back;
      queue = a.queue;
    }

-- ---- a packet arrives, and is taken

rest_so : {X Y : Type 0} (so : X → Y → Type 0) (xs : List X) (ys : List Y) → AreSo so xs ys → AreSo so (all_but_first xs) (drop 1 ys)
rest_so so [] [] a = tt
rest_so so [] (y ∷ ys) a = absurd a
rest_so so (x ∷ xs) [] a = absurd a
rest_so so (x ∷ xs) (y ∷ ys) a = a.1

arrives : (h : List Entry) (p : WirePacket) (s : PacketSent) (r : ReceiverEndView) (q : List (Option Carried)) (arrival : Arrival) → IsSaidOnWire h p s → AreSo (IsSaid h) r.queue q
    → AreSo (IsSaid h) (after_arrival r p.cargo arrival).queue (if is_accepted arrival then q ++ s.carried ∷ [] else q)
arrives h p s r q (Answered Accept) w a =
    subst (λ (o : Option Item). AreSo (IsSaid h) (queue_with r.queue o) (q ++ s.carried ∷ [])) (sym w.1.1) (one_more_so (IsSaid h) r.queue w.1.0 q s.carried a w.1.2)
arrives h p s r q (Answered Duplicate) w a = a
arrives h p s r q (Answered NakNow) w a = a
arrives h p s r q (Answered Quiet) w a = a
arrives h p s r q Gone w a = a

abbrev or_arrival : Arrival → Option Arrival → Arrival
or_arrival d (Some x) = x
or_arrival d None = d

queue_by : (h : List Entry) (wire : List WirePacket) (cw : List PacketSent) (r : ReceiverEndView) (q : List (Option Carried)) (fate : Fate) (arrival : Arrival) → AreSo (IsSaidOnWire h) wire cw
    → AreSo (IsSaid h) r.queue q → delivered wire r fate ≡ Some arrival → AreSo (IsSaid h) (after_deliver wire r fate).queue (if is_accepted arrival then queued (slice_get cw 0) q else q)
queue_by h [] cw r q fate arrival w a e = absurd cc
queue_by h (p ∷ ps) [] r q fate arrival w a e = absurd w
queue_by h (p ∷ ps) (s ∷ ss) r q fate arrival w a e =
    let is : arrival_of r.receiving p.number fate ≡ arrival = ap (or_arrival arrival) e in
    subst (λ (x : Arrival). AreSo (IsSaid h) (after_arrival r p.cargo x).queue (if is_accepted arrival then q ++ s.carried ∷ [] else q)) (sym is) (arrives h p s r q arrival w.0 a)

pub account_arrived : (h : List Entry) (e : LaneEndsView) (c : CourseView) (fate : Fate) (arrival : Arrival) → delivered e.forward e.receiver fate ≡ Some arrival → IsAccountOf h e c
    → IsAccountOf h (record e { forward = all_but_first e.forward; receiver = after_deliver e.forward e.receiver fate }) (arrived (is_accepted arrival) c)
account_arrived h e c fate arrival came a = record {
  acked = a.acked;
  kept = a.kept;
  place = a.place;
  replays = a.replays;
  wire = rest_so (IsSaidOnWire h) e.forward c.wire a.wire;
  back = a.back;
  queue = queue_by h e.forward c.wire e.receiver c.queue fate arrival a.wire a.queue came;
}

pub account_taken : (h : List Entry) (e : LaneEndsView) (c : CourseView) (place : ℕ) → IsAccountOf h e c → IsAccountOf h (record e { receiver = after_take e.receiver place }) (without place c)
account_taken h e c place a = record {
  acked = a.acked;
  kept = a.kept;
  place = a.place;
  replays = a.replays;
  wire = a.wire;
  back = a.back;
  queue = remove_so (IsSaid h) place e.receiver.queue c.queue a.queue;
}

-- what the chart says of the packet at a place of the queue
pub queue_said : (h : List Entry) (e : LaneEndsView) (c : CourseView) (place : ℕ) (item : Item) → slice_get e.receiver.queue place ≡ Some item → IsAccountOf h e c
    → HasSo (IsSaid h) item c.queue place
queue_said h e c place item there a = at_so (IsSaid h) e.receiver.queue c.queue place item a.queue there

-- ---- DLLPs

pub account_sent_back : (h : List Entry) (e : LaneEndsView) (c : CourseView) (row : Option ℕ) (kind : DllpKind) → IsAccountOf h e c
    → IsAccountOf h (record e { receiver = after_send e.receiver kind; back = wire_after_send e.receiver kind e.back }) (sent_back (dllp_of e.receiver kind) row c)
account_sent_back h e c row kind a = record {
  acked = a.acked;
  kept = a.kept;
  place = a.place;
  replays = a.replays;
  wire = a.wire;
  back = map_more (λ (d : DllpSent). d.dllp) c.back (record { dllp = dllp_of e.receiver kind; row = row }) ∙ ap (λ (t : List Dllp). t ++ dllp_of e.receiver kind ∷ []) a.back;
  queue = a.queue;
}

-- all that was sent goes once more
pub account_replayed : (h : List Entry) (e : LaneEndsView) (c : CourseView) → IsAccountOf h e c → IsAccountOf h (record e { sender = after_timer e.sender }) (replayed c)
account_replayed h e c a = record {
  acked = a.acked;
  kept = a.kept;
  place = refl;
  replays = rw (a.place, a.replays) refl;
  wire = a.wire;
  back = a.back;
  queue = a.queue;
}

pub account_trained : (h : List Entry) (e : LaneEndsView) (c : CourseView) → IsAccountOf h e c → IsAccountOf h (record e { sender = after_retraining e.sender }) c
account_trained h e c a = record { acked = a.acked; kept = a.kept; place = a.place; replays = a.replays; wire = a.wire; back = a.back; queue = a.queue }

-- one DLLP fewer on the wire back, whatever credits the sender knows then
pub account_fewer : (h : List Entry) (e : LaneEndsView) (c : CourseView) (d : Dllp) (ds : List Dllp) (gate : CreditGateView) → e.back ≡ d ∷ ds → IsAccountOf h e c
    → IsAccountOf h (record e { back = ds; sender = record { sending = e.sender.sending; gate = gate } }) (without_back c)
account_fewer h e c d ds gate is a = record {
  acked = a.acked;
  kept = a.kept;
  place = a.place;
  replays = a.replays;
  wire = a.wire;
  back = map_rest (λ (x : DllpSent). x.dllp) c.back d ds (a.back ∙ is);
  queue = a.queue;
}

-- the sender is as it was
account_gone : (h : List Entry) (e : LaneEndsView) (c : CourseView) (d : Dllp) (ds : List Dllp) → e.back ≡ d ∷ ds → IsAccountOf h e c
    → IsAccountOf h (record e { back = ds; sender = e.sender }) (without_back c)
account_gone h e c d ds is a = record {
  acked = a.acked;
  kept = a.kept;
  place = a.place;
  replays = a.replays;
  wire = a.wire;
  back = map_rest (λ (x : DllpSent). x.dllp) c.back d ds (a.back ∙ is);
  queue = a.queue;
}

pub account_dropped : (h : List Entry) (e : LaneEndsView) (c : CourseView) (number : ℕ) → IsAccountOf h e c
    → IsAccountOf h (record e { sender = record { sending = dropped e.sender.sending number; gate = e.sender.gate } }) (acknowledged number c)
account_dropped h e c number a =
    let s : SenderView = e.sender.sending in
    record {
      acked = refl;
      kept = subst (λ (n : ℕ). AreSo (IsSaidOfBytes h) (drop (distance_of number s.acked) s.kept) (drop (distance_of number n) c.kept)) (sym a.acked)
          (drop_so (IsSaidOfBytes h) (distance_of number s.acked) s.kept c.kept a.kept);
      place = rw (a.acked, a.place) refl;
      replays = rw (a.acked, a.replays) refl;
      wire = a.wire;
      back = a.back;
      queue = a.queue;
    }

tells : (h : List Entry) (e : LaneEndsView) (c : CourseView) (d : Dllp) (ds : List Dllp) → e.back ≡ d ∷ ds → is_expected e.sender.sending d ≡ true → IsAccountOf h e c
    → IsAccountOf h (record e { back = ds; sender = record { sending = sending_told e.sender.sending d; gate = gate_told e.sender.gate d } }) (told (seen.Took d) (without_back c))
tells h e c (Ack number) ds is expected a =
    let gate : CreditGateView = gate_told e.sender.gate (Ack number) in
    subst (λ (b : Bool). IsAccountOf h (record e { back = ds; sender = record { sending = if b then dropped e.sender.sending number else e.sender.sending; gate = gate } }) (acknowledged number (without_back c)))
    (sym expected)
    (account_dropped h (record e { back = ds; sender = record { sending = e.sender.sending; gate = gate } }) (without_back c) number (account_fewer h e c (Ack number) ds gate is a))
tells h e c (Nak number) ds is expected a =
    let gate : CreditGateView = gate_told e.sender.gate (Nak number) in
    let mid : LaneEndsView = record e { back = ds; sender = record { sending = e.sender.sending; gate = gate } } in
    subst (λ (b : Bool). IsAccountOf h (record e { back = ds; sender = record { sending = if b then from_oldest (dropped e.sender.sending number) else e.sender.sending; gate = gate } })
    (replayed (acknowledged number (without_back c)))) (sym expected)
    (account_replayed h (record mid { sender = record { sending = dropped e.sender.sending number; gate = gate } }) (acknowledged number (without_back c))
    (account_dropped h mid (without_back c) number (account_fewer h e c (Nak number) ds gate is a)))
tells h e c (Update class headers units) ds is expected a =
    let gate : CreditGateView = gate_told e.sender.gate (Update class headers units) in
    let b = account_fewer h e c (Update class headers units) ds gate is a in
    record { acked = b.acked; kept = b.kept; place = b.place; replays = b.replays; wire = b.wire; back = b.back; queue = b.queue }

abbrev or_seen : DllpSeen → Result (Option DllpSeen) AckFault → DllpSeen
or_seen d (Ok (Some x)) = x
or_seen d _ = d

takes : (h : List Entry) (e : LaneEndsView) (c : CourseView) (d : Dllp) (ds : List Dllp) (fate : Fate) (b : Bool) (what : DllpSeen) → e.back ≡ d ∷ ds → is_expected e.sender.sending d ≡ b
    → seen_by d b fate ≡ Ok (Some what) → IsAccountOf h e c → IsAccountOf h (record e { back = ds; sender = sender_after (d ∷ ds) e.sender fate }) (told what (without_back c))
takes h e c d ds Good true what is expected has a =
    subst (λ (w : DllpSeen). IsAccountOf h (record e { back = ds; sender = sender_after (d ∷ ds) e.sender Good }) (told w (without_back c))) (ap (or_seen what) has) (tells h e c d ds is expected a)
takes h e c d ds Good false what is expected has a = absurd cc
takes h e c d ds Failed b what is expected has a =
    subst (λ (w : DllpSeen). IsAccountOf h (record e { back = ds; sender = e.sender }) (told w (without_back c))) (ap (or_seen what) has) (account_gone h e c d ds is a)
takes h e c d ds Lost b what is expected has a =
    subst (λ (w : DllpSeen). IsAccountOf h (record e { back = ds; sender = e.sender }) (told w (without_back c))) (ap (or_seen what) has) (account_gone h e c d ds is a)

told_by : (h : List Entry) (e : LaneEndsView) (c : CourseView) (back : List Dllp) (fate : Fate) (what : DllpSeen) → e.back ≡ back → dllp_seen back e.sender fate ≡ Ok (Some what) → IsAccountOf h e c
    → IsAccountOf h (record e { back = all_but_first back; sender = sender_after back e.sender fate }) (told what (without_back c))
told_by h e c [] fate what is has a = absurd cc
told_by h e c (d ∷ ds) fate what is has a = takes h e c d ds fate (is_expected e.sender.sending d) what is refl has a

pub account_told : (h : List Entry) (e : LaneEndsView) (c : CourseView) (fate : Fate) (what : DllpSeen) → dllp_seen e.back e.sender fate ≡ Ok (Some what) → IsAccountOf h e c
    → IsAccountOf h (record e { back = all_but_first e.back; sender = sender_after e.back e.sender fate }) (told what (without_back c))
account_told h e c fate what has a = told_by h e c e.back fate what refl has a
