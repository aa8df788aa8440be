-- What a lane's calls do to its credits.
use Rattle.std.proofs.Common.{◌≡◌, ℕ, zero, suc, ◌<◌, ◌≤◌, Bool, true, false, List, [], ◌∷◌, ◌++◌, length, map, filter, take, drop, Option, Some, None, refl, sym, ◌∙◌, ap, arith}
use Rattle.std.specs.Prelude.{slice_get, remove, nat_le, nat_lt, if◌then◌else◌, ◌&&◌}
use Rattle.std.specs.Option.{option_map}
use Rattle.std.proofs.lemmas.List.{append-nil, map-append, take-map, drop-map, take_all, drop_all, length-map}
use Rattle.std.proofs.lemmas.List.Elements.{filter-append}
use Rattle.std.proofs.lemmas.Option.{slice_get-map}
use Rattle.std.proofs.lemmas.Bool.Decides.{nat_tests}
use Rattle.tlp_core.specs.TlpView.{TlpView, IsPacket}
use Rattle.tlp_core.specs.Layout.{Spells, canonical}
use Rattle.dllp_core.specs.declared.packet.Dllp.{Dllp}
use Rattle.dllp_core.specs.declared.packet.Dllp.TheVariants.{Ack, Nak, Update}
use Rattle.seq12.specs.Numbers.{previous_of}
use Rattle.link_replay.specs.declared.receiver.NakScheduled.{NakScheduled}
use Rattle.link_replay.specs.declared.receiver.NakScheduled.TheVariants.{Clear, Due, Sent}
use Rattle.link_replay.specs.ReceiverView.{ReceiverView, acknowledgment_of, dllp_by}
use Rattle.link_replay.specs.CargoView.{CargoView}
use Rattle.flow_control.specs.declared.needs.Need.{Need}
use Rattle.flow_control.specs.declared.limits.LaneCredits.{LaneCredits}
use Rattle.flow_control.specs.declared.ledger.CreditLedger.{CreditLedger}
use Rattle.flow_control.specs.Needs.{need_of}
use Rattle.flow_control.specs.Limits.{least_units}
use Rattle.dllp_core.specs.declared.packet.Class.{Class}
use Rattle.dllp_core.specs.declared.packet.Class.TheVariants.{Posted, NonPosted, Completion}
use Rattle.flow_control.specs.Credits.{CreditGateView, gate_covers, update_of}
use Rattle.flow_control.specs.Account.{Direction, Event, Consume, Receive, Free, is_small, may_go, consumed_if, freed_at, new_direction, after_events, after_event}
use Rattle.flow_control.specs.Queue.{Item, is_takeable}
use Rattle.lane_core.specs.declared.packet.WirePacket.{WirePacket}
use Rattle.lane_core.specs.declared.packet.Fate.{Fate}
use Rattle.lane_core.specs.declared.packet.Fate.TheVariants.{Good, Failed, Lost}
use Rattle.lane_core.specs.declared.packet.DllpKind.{DllpKind}
use Rattle.lane_core.specs.declared.packet.DllpKind.TheVariants as kinds
use Rattle.lane_core.specs.Content.{items_of, unaccepted_of}
use Rattle.lane_core.specs.Steps.{LaneEndsView, SenderEndView, ReceiverEndView, new_lane, may_enter, entered, with_room, all_but_first, arrival_of, taken_on, ledger_with, queue_with, after_deliver, sender_after, after_take, ledger_freed}
use Rattle.lane_core.specs.Calls.{Call, MakeRoom, Release, Enter, Transmit, Deliver, SendDllp, DeliverDllp, Timer, Retrained, Take, IsCall, AreCalls, after_call, list_of, accepted_from, after_calls, on_the_way}
use Rattle.lane_core.specs.Credit.{needs_of, is_update, direction_of, dllp_events, events_of, events_in}
use Rattle.lane_core.proofs.Below.{Below}
use Rattle.lane_core.proofs.UnderWay.{AreNumbered}
use Rattle.lane_core.proofs.Sound.{answers_in, IsSound, both_true, enter_one, deliver_right, deliver_dllp_right, step_sound, new_sound}

-- the need of a packet is small

small_parts : (header units : ℕ) → header ≡ 1 → units ≤ 8 → nat_le header 127 && nat_le units 2047 ≡ true
small_parts header units e h = grind (arith, nat_tests)

few : (class : Class) → least_units class ≤ 8
few Posted = omega arith
few NonPosted = omega arith
few Completion = omega arith

pub packet_small : Below → (t : TlpView) → IsPacket t → is_small (need_of t) ≡ true
packet_small laws t k =
    let units : (need_of t).units ≤ least_units (need_of t).class = laws.units t k in
    let most : least_units (need_of t).class ≤ 8 = few (need_of t).class in
    small_parts (need_of t).header (need_of t).units (laws.header t) (omega arith)

-- Enter

pub goes : Below → (gate : CreditGateView) (t : TlpView) → IsPacket t → gate_covers gate (need_of t) ≡ true → may_go gate (need_of t) ≡ true
goes laws gate t k c = rw (packet_small laws t k, c) refl

consumed : (d : Direction) (need : Need) (b : Bool) → b ≡ true → consumed_if b d need ≡ consumed_if true d need
consumed d need true e = refl
consumed d need false e = cc

enter_direction : Below → (e : LaneEndsView) (t : TlpView) (mark : ℕ) (b : Bool) → may_enter e.sender (need_of t) ≡ b → Spells (canonical t) t → IsSound e →
    direction_of (if b then record e { sender = entered e.sender t mark } else e) ≡ after_events (direction_of e) (if b then Consume (need_of t) ∷ [] else [])
enter_direction laws e t mark true h spells k =
    let tests = both_true (gate_covers e.sender.gate (need_of t)) (nat_lt (length e.sender.sending.kept) 2047) h in
    let room : length e.sender.sending.kept < 2047 = grind (arith, nat_tests, tests.1) in
    ap (λ (way : List Item). record { gate = (entered e.sender t mark).gate; ledger = e.receiver.ledger; on_the_way = needs_of way; queue = needs_of e.receiver.queue; wire = filter is_update e.back })
    (sym (enter_one laws.read e t mark spells room k).1)
    ∙ ap (λ (needs : List Need). record { gate = (entered e.sender t mark).gate; ledger = e.receiver.ledger; on_the_way = needs; queue = needs_of e.receiver.queue; wire = filter is_update e.back })
    (map-append (λ (item : Item). need_of item.0) (on_the_way e) ((t, mark) ∷ []))
    ∙ sym (consumed (direction_of e) (need_of t) (may_go e.sender.gate (need_of t)) (goes laws e.sender.gate t spells.grammar tests.0))
enter_direction laws e t mark false h spells k = refl

room_direction : (e : LaneEndsView) (b : Bool) → direction_of (if b then record e { sender = with_room e.sender } else e) ≡ direction_of e
room_direction e true = refl
room_direction e false = refl

-- Deliver

received_direction : (gate : CreditGateView) (ledger : CreditLedger) (queue : List Item) (wire : List Dllp) (way left : List Item) (o : Option Item) → way ≡ list_of o ++ left →
    ◌≡◌ {A = Direction} (record { gate = gate; ledger = ledger_with ledger o; on_the_way = needs_of left; queue = needs_of (queue_with queue o); wire = wire })
    (after_events (record { gate = gate; ledger = ledger; on_the_way = needs_of way; queue = needs_of queue; wire = wire }) (map (λ (item : Item). Receive) (list_of o)))
received_direction gate ledger queue wire way left None h = rw h refl
received_direction gate ledger queue wire way left (Some item) h = rw (h, map-append (λ (i : Item). need_of i.0) queue (item ∷ [])) refl

deliver_direction : (s : SenderEndView) (f : List WirePacket) (back : List Dllp) (r : ReceiverEndView) (fate : Fate) → AreNumbered s.sending f (answers_in back) r.receiving.next →
    direction_of (record { sender = s; forward = all_but_first f; back = back; receiver = after_deliver f r fate })
    ≡ after_events (direction_of (record { sender = s; forward = f; back = back; receiver = r })) (map (λ (item : Item). Receive) (accepted_from f r fate))
deliver_direction s [] back r fate k = refl
deliver_direction s (p ∷ f) back r fate k =
    received_direction s.gate r.ledger r.queue (filter is_update back) (items_of (unaccepted_of s.sending r.receiving.next))
    (items_of (unaccepted_of s.sending (after_deliver (p ∷ f) r fate).receiving.next)) (taken_on (arrival_of r.receiving p.number fate) p.cargo)
    (deliver_right s.sending (p ∷ f) (answers_in back) r fate k).1

-- the back wire

no_update : (r : ReceiverView) → filter is_update (acknowledgment_of r ∷ []) ≡ []
no_update r = by_nak r.nak
  where
    by_nak : (nak : NakScheduled) → filter is_update (dllp_by nak (previous_of r.next) ∷ []) ≡ []
    by_nak Clear = refl
    by_nak Due = refl
    by_nak Sent = refl

with_wire : (d : Direction) (wire more : List Dllp) → wire ≡ more → ◌≡◌ {A = Direction} (record d { wire = wire }) (record d { wire = more })
with_wire d wire more h = rw h refl

send_direction : (e : LaneEndsView) (kind : DllpKind) → direction_of (after_call e (SendDllp kind)) ≡ after_events (direction_of e) (events_of e (SendDllp kind))
send_direction e kinds.Answer =
    with_wire (direction_of e) (filter is_update (e.back ++ acknowledgment_of e.receiver.receiving ∷ [])) (filter is_update e.back)
    (filter-append is_update e.back (acknowledgment_of e.receiver.receiving ∷ []) ∙ ap (λ (ds : List Dllp). filter is_update e.back ++ ds) (no_update e.receiver.receiving) ∙ append-nil (filter is_update e.back))
send_direction e (kinds.Update class) =
    with_wire (direction_of e) (filter is_update (e.back ++ update_of e.receiver.ledger class ∷ [])) (filter is_update e.back ++ update_of e.receiver.ledger class ∷ [])
    (filter-append is_update e.back (update_of e.receiver.ledger class ∷ []))

with_way : (d : Direction) (way more : List CargoView) → way ≡ more →
    ◌≡◌ {A = Direction} (record d { on_the_way = needs_of (items_of way) }) (record d { on_the_way = needs_of (items_of more) })
with_way d way more h = rw h refl

dllp_direction : (s : SenderEndView) (f : List WirePacket) (back : List Dllp) (r : ReceiverEndView) (fate : Fate) → AreNumbered s.sending f (answers_in back) r.receiving.next →
    direction_of (record { sender = sender_after back s fate; forward = f; back = all_but_first back; receiver = r })
    ≡ after_events (direction_of (record { sender = s; forward = f; back = back; receiver = r })) (dllp_events back fate)
dllp_direction s f [] r fate k = refl
dllp_direction s f (Update class header units ∷ ds) r Good k = refl
dllp_direction s f (Update class header units ∷ ds) r Failed k = refl
dllp_direction s f (Update class header units ∷ ds) r Lost k = refl
dllp_direction s f (Ack number ∷ ds) r Good k =
    with_way (direction_of (record { sender = s; forward = f; back = ds; receiver = r })) _ _ (deliver_dllp_right s f (Ack number ∷ ds) r.receiving.next Good k).1
dllp_direction s f (Ack number ∷ ds) r Failed k = refl
dllp_direction s f (Ack number ∷ ds) r Lost k = refl
dllp_direction s f (Nak number ∷ ds) r Good k =
    with_way (direction_of (record { sender = s; forward = f; back = ds; receiver = r })) _ _ (deliver_dllp_right s f (Nak number ∷ ds) r.receiving.next Good k).1
dllp_direction s f (Nak number ∷ ds) r Failed k = refl
dllp_direction s f (Nak number ∷ ds) r Lost k = refl

-- Take

pub need_there : (queue : List Item) (place : ℕ) → slice_get (needs_of queue) place ≡ option_map (λ (item : Item). need_of item.0) (slice_get queue place)
need_there queue place = slice_get-map (λ (item : Item). need_of item.0) queue place

needs_left : (queue : List Item) (place : ℕ) → needs_of (remove queue place) ≡ remove (needs_of queue) place
needs_left queue place =
    map-append (λ (item : Item). need_of item.0) (take place queue) (drop (suc place) queue)
    ∙ ap (λ (needs : List Need). needs ++ needs_of (drop (suc place) queue)) (sym (take-map (λ (item : Item). need_of item.0) place queue))
    ∙ ap (λ (needs : List Need). take place (needs_of queue) ++ needs) (sym (drop-map (λ (item : Item). need_of item.0) (suc place) queue))

slice_get_none : (xs : List Item) (i : ℕ) → slice_get xs i ≡ None → length xs ≤ i
slice_get_none [] i h = omega arith
slice_get_none (x ∷ xs) zero h = cc
slice_get_none (x ∷ xs) (suc i) h = let rest : length xs ≤ i = slice_get_none xs i h in omega arith

nothing_left : (queue : List Item) (place : ℕ) → slice_get queue place ≡ None → remove (needs_of queue) place ≡ needs_of queue
nothing_left queue place h =
    let past : length (needs_of queue) ≤ place = omega (arith, length-map queue (λ (item : Item). need_of item.0), slice_get_none queue place h) in
    rw (take_all place (needs_of queue) past, drop_all (suc place) (needs_of queue) (omega arith)) (append-nil (needs_of queue))

take_direction : (e : LaneEndsView) (place : ℕ) (b : Bool) →
    direction_of (if b then record e { receiver = after_take e.receiver place } else e) ≡ after_events (direction_of e) (if b then Free place ∷ [] else [])
take_direction e place false = refl
take_direction e place true =
    rw (needs_left e.receiver.queue place, need_there e.receiver.queue place) (by_place (slice_get e.receiver.queue place) refl)
  where
    by_place : (o : Option Item) → slice_get e.receiver.queue place ≡ o →
        ◌≡◌ {A = Direction} (record { gate = e.sender.gate; ledger = ledger_freed e.receiver.ledger o; on_the_way = needs_of (on_the_way e); queue = remove (needs_of e.receiver.queue) place; wire = filter is_update e.back })
        (freed_at (option_map (λ (item : Item). need_of item.0) o) (direction_of e) place)
    by_place (Some item) h = refl
    by_place None h = rw (nothing_left e.receiver.queue place h) refl

-- each call, and any list of them

pub step_direction : Below → (e : LaneEndsView) (call : Call) → IsCall call → IsSound e → direction_of (after_call e call) ≡ after_events (direction_of e) (events_of e call)
step_direction laws e (MakeRoom need) i k = room_direction e (may_enter e.sender need)
step_direction laws e Release i k = refl
step_direction laws e (Enter t mark) i k = enter_direction laws e t mark (may_enter e.sender (need_of t)) refl i k
step_direction laws e Transmit i k = refl
step_direction laws e (Deliver fate) i k = deliver_direction e.sender e.forward e.back e.receiver fate k.numbered
step_direction laws e (SendDllp kind) i k = send_direction e kind
step_direction laws e (DeliverDllp fate) i k = dllp_direction e.sender e.forward e.back e.receiver fate k.numbered
step_direction laws e Timer i k = refl
step_direction laws e Retrained i k = refl
step_direction laws e (Take place) i k = take_direction e place (is_takeable e.receiver.queue place)

events_append : (d : Direction) (xs ys : List Event) → after_events d (xs ++ ys) ≡ after_events (after_events d xs) ys
events_append d [] ys = refl
events_append d (x ∷ xs) ys = events_append (after_event d x) xs ys

pub run_direction : Below → (e : LaneEndsView) (calls : List Call) → AreCalls calls → IsSound e → direction_of (after_calls e calls) ≡ after_events (direction_of e) (events_in e calls)
run_direction laws e [] i k = refl
run_direction laws e (call ∷ calls) i k =
    run_direction laws (after_call e call) calls i.1 (step_sound laws.read e call i.0 k).0
    ∙ ap (λ (d : Direction). after_events d (events_in (after_call e call) calls)) (step_direction laws e call i.0 k)
    ∙ sym (events_append (direction_of e) (events_of e call) (events_in (after_call e call) calls))

pub lane_direction : Below → (credits : LaneCredits) (calls : List Call) → AreCalls calls →
    direction_of (after_calls (new_lane credits) calls) ≡ after_events (new_direction credits) (events_in (new_lane credits) calls)
lane_direction laws credits calls i = run_direction laws (new_lane credits) calls i (new_sound credits)
