-- On the lanes of a fabric no more packets arrive than were sent.
use Rattle.std.proofs.Common.{◌≡◌, ◌∙◌, ◌≢◌, ◌⊎◌, ℕ, zero, suc, ◌+◌, ◌-◌, ◌≤◌, ◌<◌, Bool, true, false, List, [], ◌∷◌, length, refl, sym, ap, subst, inl, inr, Option, Some, None, Result, Ok, Err, arith}
use Rattle.std.specs.Prelude.{◌==◌, nat_le, ◌&&◌, not, if◌then◌else◌, replicate, slice_get}
use Rattle.std.specs.Option.{option_map}
use Rattle.std.proofs.lemmas.List.{length-append}
use Rattle.std.proofs.lemmas.Bool.{leb-true}
use Rattle.std.proofs.lemmas.Bool.Decides.{eqb_tells}
use Rattle.tlp_core.specs.Ops.{Op}
use Rattle.seq_memory.specs.History.{MemoryView}
use Rattle.requester_core.specs.RequesterView.{RequesterView}
use Rattle.requester_core.specs.Answers.{Answer}
use Rattle.link_replay.specs.CargoView.{CargoView}
use Rattle.link_replay.specs.SenderView.{next_item, number_at}
use Rattle.lane_core.specs.declared.packet.WirePacket.{WirePacket}
use Rattle.lane_core.specs.declared.packet.Fate.{Fate}
use Rattle.lane_core.specs.declared.packet.Arrival.{Arrival}
use Rattle.lane_core.specs.declared.packet.DllpSeen.{DllpSeen}
use Rattle.lane_core.specs.declared.packet.DllpKind.{DllpKind}
use Rattle.dllp_core.specs.declared.packet.Dllp.{Dllp}
use Rattle.lane_core.specs.Steps.{LaneEndsView, ReceiverEndView, SenderEndView, all_but_first, packets_sent, transmitted, delivered, after_deliver, after_transmission, wire_after_transmit}
use Rattle.fabric_steps.specs.Fabric.{Fabric}
use Rattle.fabric_core.specs.declared.config.Config.{Config}
use Rattle.fabric_core.specs.declared.config.ConfigFault.{ConfigFault}
use Rattle.fabric_steps.specs.Event.{Event, Seen}
use Rattle.fabric_steps.specs.declared.event.EventOf.TheVariants as events
use Rattle.fabric_steps.specs.declared.event.LaneName.{LaneName}
use Rattle.fabric_steps.specs.declared.event.LaneName.TheVariants as lanes
use Rattle.fabric_steps.specs.declared.event.LinkEvent.{LinkEvent}
use Rattle.fabric_steps.specs.declared.event.LinkEvent.TheVariants as links
use Rattle.fabric_steps.specs.declared.event.SeenOf.TheVariants as seen
use Rattle.fabric_steps.specs.declared.fault.Refusal.{Refusal}
use Rattle.fabric_steps.specs.declared.fault.Refusal.TheVariants as refusals
use Rattle.fabric_core.specs.Answers.{map_ok, some_or, transmit_on, deliver_on, deliver_dllp_on, timer_on, retrained_on, send_dllp_on, submit_on, forward_on, serve_on, collect_on, part_at, with_part, with_lane, with_requester, lane_to, port_from, or_no_port, link_on, link_at, forward_to, destination_on, answer}
use Rattle.fabric_core.specs.Answers as parts
use Rattle.fabric_core.specs.New.{new_fabric, config_fault}
use Rattle.chart_rows.specs.declared.row.Deed.{Deed}
use Rattle.chart_rows.specs.declared.row.PacketSent.{PacketSent}
use Rattle.chart_links.specs.CourseView.{CourseView}
use Rattle.chart_links.specs.Lanes.{place_of, lane_at, followed}
use Rattle.chart_links.specs.ChartView.{ChartView, headed}
use Rattle.chart_laws.specs.Arrows.{Tale, told, row_in, deed_in, sent_on, begun_on, NeverMore}
use Rattle.chart_laws.specs.Happened.{Happened}
use Rattle.chart_arrows.proofs.Parts.{Few, part_same, part_other, part_len, place_at, lane_is, few_more, ends_same, ends_other, few_with, in_no_port, leads_away, of_and, of_map, of_some}

-- ---- the lanes of a fabric

abbrev on : Result LaneEndsView Refusal → ℕ
on (Ok e) = length e.forward
on (Err r) = 0

-- how many packets are on the wire of a lane
abbrev flying : Fabric → LaneName → ℕ
flying f lane = on (parts.lane_at f lane)

-- ---- what an event leaves

abbrev deed_of : Option ℕ → List CourseView → Event → Seen → Deed
deed_of row cs event what = (followed cs row event what).deed

-- on the wire of the lane at a place
record Passes (k : ℕ) (row : Option ℕ) (cs : List CourseView) (f : Fabric) (event : Event) (what : Seen) (f' : Fabric) : Type 0 where
  there : length (begun_on k (deed_of row cs event what)) ≤ flying f (lane_at k)
  left : flying f (lane_at k) + length (sent_on k row (deed_of row cs event what)) ≡ length (begun_on k (deed_of row cs event what)) + flying f' (lane_at k)
  few : Few f → Few f'

-- each wire is as long as before
record Kept (f f' : Fabric) : Type 0 where
  up : (p : ℕ) → on (part_at f'.up p) ≡ on (part_at f.up p)
  down : (p : ℕ) → on (part_at f'.down p) ≡ on (part_at f.down p)
  inward : length f'.inward.forward ≡ length f.inward.forward
  outward : length f'.outward.forward ≡ length f.outward.forward
  up_len : length f'.up ≡ length f.up
  down_len : length f'.down ≡ length f.down

kept_flying : (f f' : Fabric) (lane : LaneName) → Kept f f' → flying f' lane ≡ flying f lane
kept_flying f f' (lanes.Up port) kept = kept.up port
kept_flying f f' (lanes.Down port) kept = kept.down port
kept_flying f f' lanes.Inward kept = kept.inward
kept_flying f f' lanes.Outward kept = kept.outward

of_kept : (k : ℕ) (row : Option ℕ) (cs : List CourseView) (f : Fabric) (event : Event) (what : Seen) (f' : Fabric)
    → begun_on k (deed_of row cs event what) ≡ [] → sent_on k row (deed_of row cs event what) ≡ [] → Kept f f' → Passes k row cs f event what f'
of_kept k row cs f event what f' begun_none sent_none kept =
    let b : length (begun_on k (deed_of row cs event what)) ≡ 0 = ap (λ (t : List (Option PacketSent)). length t) begun_none in
    let s : length (sent_on k row (deed_of row cs event what)) ≡ 0 = ap (λ (t : List (Option PacketSent)). length t) sent_none in
    let same : flying f' (lane_at k) ≡ flying f (lane_at k) = kept_flying f f' (lane_at k) kept in
    record { there = omega (arith, b); left = omega (arith, b, s, same); few = few_more f f' kept.up_len kept.down_len }

-- other ends of a lane, with as much on its wire
on_with_by : (xs : List LaneEndsView) (p q : ℕ) (x y : LaneEndsView) → part_at xs p ≡ Ok x → length y.forward ≡ length x.forward
    → (((p == q) ≡ true) × (p ≡ q)) ⊎ (((p == q) ≡ false) × (p ≢ q)) → on (part_at (with_part xs p y) q) ≡ on (part_at xs q)
on_with_by xs p q x y e same (inl w) =
    subst (λ (j : ℕ). on (part_at (with_part xs p y) j) ≡ on (part_at xs j)) w.1
    (ap (λ (o : Result LaneEndsView Refusal). on o) (part_same xs p x y e) ∙ same ∙ sym (ap (λ (o : Result LaneEndsView Refusal). on o) e))
on_with_by xs p q x y e same (inr w) = ap (λ (o : Result LaneEndsView Refusal). on o) (part_other xs p q y w.1)

on_with : (xs : List LaneEndsView) (p q : ℕ) (x y : LaneEndsView) → part_at xs p ≡ Ok x → length y.forward ≡ length x.forward → on (part_at (with_part xs p y) q) ≡ on (part_at xs q)
on_with xs p q x y e same = on_with_by xs p q x y e same (eqb_tells p q)

-- a lane with other ends, and as much on its wire
kept_with : (f : Fabric) (lane : LaneName) (e e' : LaneEndsView) → parts.lane_at f lane ≡ Ok e → length e'.forward ≡ length e.forward → Kept f (with_lane f lane e')
kept_with f (lanes.Up port) e e' has same = record {
  up = λ p. on_with f.up port p e e' has same;
  down = λ p. refl;
  inward = refl;
  outward = refl;
  up_len = part_len f.up port e';
  down_len = refl;
}
kept_with f (lanes.Down port) e e' has same = record {
  up = λ p. refl;
  down = λ p. on_with f.down port p e e' has same;
  inward = refl;
  outward = refl;
  up_len = refl;
  down_len = part_len f.down port e';
}
kept_with f lanes.Inward e e' has same = record {
  up = λ p. refl;
  down = λ p. refl;
  inward = same ∙ sym (ap (λ (o : Result LaneEndsView Refusal). on o) has);
  outward = refl;
  up_len = refl;
  down_len = refl;
}
kept_with f lanes.Outward e e' has same = record {
  up = λ p. refl;
  down = λ p. refl;
  inward = refl;
  outward = same ∙ sym (ap (λ (o : Result LaneEndsView Refusal). on o) has);
  up_len = refl;
  down_len = refl;
}

kept_then : (f g h : Fabric) → Kept f g → Kept g h → Kept f h
kept_then f g h a b = record {
  up = λ p. b.up p ∙ a.up p;
  down = λ p. b.down p ∙ a.down p;
  inward = b.inward ∙ a.inward;
  outward = b.outward ∙ a.outward;
  up_len = b.up_len ∙ a.up_len;
  down_len = b.down_len ∙ a.down_len;
}

-- ---- events of a link

abbrev when : Bool → ℕ → ℕ
when b n = if b then n else 0

when_none : (b : Bool) → 0 ≡ when b 0
when_none true = refl
when_none false = refl

when_one : (b : Bool) (x : Option PacketSent) → length (if b then x ∷ [] else []) ≡ when b 1
when_one true x = refl
when_one false x = refl

-- so many packets arrive on a lane, and so many are sent
record Counts (k : ℕ) (row : Option ℕ) (cs : List CourseView) (event : Event) (what : Seen) (lane : LaneName) (b s : ℕ) : Type 0 where
  begun : length (begun_on k (deed_of row cs event what)) ≡ when (place_of lane == k) b
  sent : length (sent_on k row (deed_of row cs event what)) ≡ when (place_of lane == k) s

of_lane_by : (k : ℕ) (row : Option ℕ) (cs : List CourseView) (f : Fabric) (event : Event) (what : Seen) (lane : LaneName) (e e' : LaneEndsView) (b s : ℕ) → k < 16 → Few f
    → parts.lane_at f lane ≡ Ok e → Counts k row cs event what lane b s → b ≤ length e.forward → length e.forward + s ≡ b + length e'.forward
    → (((place_of lane == k) ≡ true) × (place_of lane ≡ k)) ⊎ (((place_of lane == k) ≡ false) × (place_of lane ≢ k)) → Passes k row cs f event what (with_lane f lane e')
of_lane_by k row cs f event what lane e e' b s lt few has counts enough moved (inl w) =
    let here : lane_at k ≡ lane = lane_is f lane e k few has w.1 in
    let begun : length (begun_on k (deed_of row cs event what)) ≡ b = counts.begun ∙ ap (λ (x : Bool). when x b) w.0 in
    let went : length (sent_on k row (deed_of row cs event what)) ≡ s = counts.sent ∙ ap (λ (x : Bool). when x s) w.0 in
    let before : flying f (lane_at k) ≡ length e.forward = ap (λ (l : LaneName). flying f l) here ∙ ap (λ (o : Result LaneEndsView Refusal). on o) has in
    let after : flying (with_lane f lane e') (lane_at k) ≡ length e'.forward =
    ap (λ (l : LaneName). flying (with_lane f lane e') l) here ∙ ap (λ (o : Result LaneEndsView Refusal). on o) (ends_same f lane e e' has) in
    record { there = omega (arith, begun, before, enough); left = omega (arith, begun, went, before, after, moved); few = few_with f lane e' }
of_lane_by k row cs f event what lane e e' b s lt few has counts enough moved (inr w) =
    let other : lane ≢ lane_at k = λ is. w.1 (ap (λ (l : LaneName). place_of l) is ∙ place_at k lt) in
    let begun : length (begun_on k (deed_of row cs event what)) ≡ 0 = counts.begun ∙ ap (λ (x : Bool). when x b) w.0 in
    let went : length (sent_on k row (deed_of row cs event what)) ≡ 0 = counts.sent ∙ ap (λ (x : Bool). when x s) w.0 in
    let same : flying (with_lane f lane e') (lane_at k) ≡ flying f (lane_at k) = ap (λ (o : Result LaneEndsView Refusal). on o) (ends_other f lane (lane_at k) e' other) in
    record { there = omega (arith, begun); left = omega (arith, begun, went, same); few = few_with f lane e' }

of_lane : (k : ℕ) (row : Option ℕ) (cs : List CourseView) (f : Fabric) (event : Event) (what : Seen) (lane : LaneName) (e e' : LaneEndsView) (b s : ℕ) → k < 16 → Few f
    → parts.lane_at f lane ≡ Ok e → Counts k row cs event what lane b s → b ≤ length e.forward → length e.forward + s ≡ b + length e'.forward
    → Passes k row cs f event what (with_lane f lane e')
of_lane k row cs f event what lane e e' b s lt few has counts enough moved =
    of_lane_by k row cs f event what lane e e' b s lt few has counts enough moved (eqb_tells (place_of lane) k)

-- ---- what a link does

shorter_by : (xs : List WirePacket) (p : WirePacket) (ps : List WirePacket) → xs ≡ p ∷ ps → length xs ≡ 1 + length (all_but_first xs)
shorter_by [] p ps e = absurd cc
shorter_by (x ∷ xs) p ps e = omega arith

longer_by : (e : LaneEndsView) (o : Option CargoView) (n : ℕ) → next_item e.sender.sending ≡ o → option_map (λ cargo. number_at e.sender.sending e.sender.sending.place) o ≡ Some n
    → length (wire_after_transmit e.sender e.forward) ≡ length e.forward + 1
longer_by e None n is has = absurd cc
longer_by e (Some cargo) n is has =
    length-append e.forward (packets_sent e.sender.sending (next_item e.sender.sending)) ∙ ap (λ (t : Option CargoView). length e.forward + length (packets_sent e.sender.sending t)) is

shorter : (wire ps : List WirePacket) (r : ReceiverEndView) (fate : Fate) (a : Arrival) → wire ≡ ps → delivered ps r fate ≡ Some a → length wire ≡ 1 + length (all_but_first wire)
shorter wire [] r fate a is has = absurd cc
shorter wire (p ∷ ps) r fate a is has = shorter_by wire p ps is

at_link : (k : ℕ) (row : Option ℕ) (cs : List CourseView) (f : Fabric) (event : Event) (lane : LaneName) (link : LinkEvent) (b : Seen × Fabric)
    → link_at f lane link ≡ Ok b → ((e : LaneEndsView) (x : Seen × LaneEndsView) → parts.lane_at f lane ≡ Ok e → link_on e link ≡ Ok x → Passes k row cs f event x.0 (with_lane f lane x.1)) → Passes k row cs f event b.0 b.1
at_link k row cs f event lane link b eq all =
    of_and (λ (p : Seen × Fabric). Passes k row cs f event p.0 p.1) (parts.lane_at f lane) (λ (e : LaneEndsView). map_ok (link_on e link) (λ (x : Seen × LaneEndsView). (x.0, with_lane f lane x.1))) b eq
    (λ e has is. of_map (λ (p : Seen × Fabric). Passes k row cs f event p.0 p.1) (link_on e link) (λ (x : Seen × LaneEndsView). (x.0, with_lane f lane x.1)) b is (λ x on. all e x has on))

of_transmit : (k : ℕ) (row : Option ℕ) (cs : List CourseView) (f : Fabric) (lane : LaneName) (b : Seen × Fabric) → k < 16 → Few f → answer f (events.Transmit lane) ≡ Ok b
    → Passes k row cs f (events.Transmit lane) b.0 b.1
of_transmit k row cs f lane b lt few eq =
    at_link k row cs f (events.Transmit lane) lane links.Transmit b eq
    (λ e x has is. of_map (λ (p : Seen × LaneEndsView). Passes k row cs f (events.Transmit lane) p.0 (with_lane f lane p.1)) (transmit_on e.sender e.forward)
    (λ (y : ℕ × SenderEndView × List WirePacket). (seen.Sent y.0, record e { sender = y.1; forward = y.2 })) x is
    (λ y on. of_map (λ (y : ℕ × SenderEndView × List WirePacket). Passes k row cs f (events.Transmit lane) (seen.Sent y.0) (with_lane f lane (record e { sender = y.1; forward = y.2 })))
    (some_or refusals.Idle (transmitted e.sender)) (λ (n : ℕ). (n, after_transmission e.sender, wire_after_transmit e.sender e.forward)) y on
    (λ n went.
    let longer = longer_by e (next_item e.sender.sending) n refl (of_some refusals.Idle (transmitted e.sender) n went) in
    of_lane k row cs f (events.Transmit lane) (seen.Sent n) lane e (record e { sender = after_transmission e.sender; forward = wire_after_transmit e.sender e.forward }) 0 1 lt few has
    (record { begun = when_none (place_of lane == k); sent = when_one (place_of lane == k) _ }) (omega arith) (omega (arith, longer)))))

of_deliver : (k : ℕ) (row : Option ℕ) (cs : List CourseView) (f : Fabric) (lane : LaneName) (fate : Fate) (b : Seen × Fabric) → k < 16 → Few f → answer f (events.Deliver lane fate) ≡ Ok b
    → Passes k row cs f (events.Deliver lane fate) b.0 b.1
of_deliver k row cs f lane fate b lt few eq =
    at_link k row cs f (events.Deliver lane fate) lane (links.Deliver fate) b eq
    (λ e x has is. of_map (λ (p : Seen × LaneEndsView). Passes k row cs f (events.Deliver lane fate) p.0 (with_lane f lane p.1)) (deliver_on e.forward e.receiver fate)
    (λ (y : Arrival × List WirePacket × ReceiverEndView). (seen.Delivered y.0, record e { forward = y.1; receiver = y.2 })) x is
    (λ y on. of_map (λ (y : Arrival × List WirePacket × ReceiverEndView). Passes k row cs f (events.Deliver lane fate) (seen.Delivered y.0) (with_lane f lane (record e { forward = y.1; receiver = y.2 })))
    (some_or refusals.Idle (delivered e.forward e.receiver fate)) (λ (a : Arrival). (a, all_but_first e.forward, after_deliver e.forward e.receiver fate)) y on
    (λ a came.
    let less = shorter e.forward e.forward e.receiver fate a refl (of_some refusals.Idle (delivered e.forward e.receiver fate) a came) in
    of_lane k row cs f (events.Deliver lane fate) (seen.Delivered a) lane e (record e { forward = all_but_first e.forward; receiver = after_deliver e.forward e.receiver fate }) 1 0 lt few has
    (record { begun = when_one (place_of lane == k) _; sent = when_none (place_of lane == k) }) (omega (arith, less)) (omega (arith, less)))))

-- one that leaves the forward wire
of_same : (k : ℕ) (row : Option ℕ) (cs : List CourseView) (f : Fabric) (event : Event) (what : Seen) (lane : LaneName) (e e' : LaneEndsView) → parts.lane_at f lane ≡ Ok e
    → begun_on k (deed_of row cs event what) ≡ [] → sent_on k row (deed_of row cs event what) ≡ [] → length e'.forward ≡ length e.forward → Passes k row cs f event what (with_lane f lane e')
of_same k row cs f event what lane e e' has b s same = of_kept k row cs f event what (with_lane f lane e') b s (kept_with f lane e e' has same)

of_send : (k : ℕ) (row : Option ℕ) (cs : List CourseView) (f : Fabric) (lane : LaneName) (kind : DllpKind) (b : Seen × Fabric) → answer f (events.SendDllp lane kind) ≡ Ok b
    → Passes k row cs f (events.SendDllp lane kind) b.0 b.1
of_send k row cs f lane kind b eq =
    at_link k row cs f (events.SendDllp lane kind) lane (links.SendDllp kind) b eq
    (λ e x has is. of_map (λ (p : Seen × LaneEndsView). Passes k row cs f (events.SendDllp lane kind) p.0 (with_lane f lane p.1)) (send_dllp_on e.receiver e.back kind)
    (λ (y : Dllp × ReceiverEndView × List Dllp). (seen.SentDllp y.0, record e { receiver = y.1; back = y.2 })) x is
    (λ y on. of_same k row cs f (events.SendDllp lane kind) (seen.SentDllp y.0) lane e (record e { receiver = y.1; back = y.2 }) has refl refl refl))

of_dllp : (k : ℕ) (row : Option ℕ) (cs : List CourseView) (f : Fabric) (lane : LaneName) (fate : Fate) (b : Seen × Fabric) → answer f (events.DeliverDllp lane fate) ≡ Ok b
    → Passes k row cs f (events.DeliverDllp lane fate) b.0 b.1
of_dllp k row cs f lane fate b eq =
    at_link k row cs f (events.DeliverDllp lane fate) lane (links.DeliverDllp fate) b eq
    (λ e x has is. of_map (λ (p : Seen × LaneEndsView). Passes k row cs f (events.DeliverDllp lane fate) p.0 (with_lane f lane p.1)) (deliver_dllp_on e.back e.sender fate)
    (λ (y : DllpSeen × List Dllp × SenderEndView). (seen.SeenDllp y.0, record e { back = y.1; sender = y.2 })) x is
    (λ y on. of_same k row cs f (events.DeliverDllp lane fate) (seen.SeenDllp y.0) lane e (record e { back = y.1; sender = y.2 }) has refl refl refl))

of_timer : (k : ℕ) (row : Option ℕ) (cs : List CourseView) (f : Fabric) (lane : LaneName) (b : Seen × Fabric) → answer f (events.Timer lane) ≡ Ok b
    → Passes k row cs f (events.Timer lane) b.0 b.1
of_timer k row cs f lane b eq =
    at_link k row cs f (events.Timer lane) lane links.Timer b eq
    (λ e x has is. of_map (λ (p : Seen × LaneEndsView). Passes k row cs f (events.Timer lane) p.0 (with_lane f lane p.1)) (timer_on e.sender)
    (λ (y : ℕ × SenderEndView). (seen.Back y.0, record e { sender = y.1 })) x is
    (λ y on. of_same k row cs f (events.Timer lane) (seen.Back y.0) lane e (record e { sender = y.1 }) has refl refl refl))

of_retrained : (k : ℕ) (row : Option ℕ) (cs : List CourseView) (f : Fabric) (lane : LaneName) (b : Seen × Fabric) → answer f (events.Retrained lane) ≡ Ok b
    → Passes k row cs f (events.Retrained lane) b.0 b.1
of_retrained k row cs f lane b eq =
    at_link k row cs f (events.Retrained lane) lane links.Retrained b eq
    (λ e x has is. of_map (λ (p : Seen × LaneEndsView). Passes k row cs f (events.Retrained lane) p.0 (with_lane f lane p.1)) (retrained_on e.sender)
    (λ (s : SenderEndView). (seen.Retrained, record e { sender = s })) x is
    (λ s on. of_same k row cs f (events.Retrained lane) seen.Retrained lane e (record e { sender = s }) has refl refl refl))

-- ---- events of the other parts

-- another requester at a port leaves the lanes
of_submit : (k : ℕ) (row : Option ℕ) (cs : List CourseView) (f : Fabric) (port : ℕ) (op : Op) (b : Seen × Fabric) → answer f (events.Submit port op) ≡ Ok b
    → Passes k row cs f (events.Submit port op) b.0 b.1
of_submit k row cs f port op b eq =
    of_and (λ (p : Seen × Fabric). Passes k row cs f (events.Submit port op) p.0 p.1) (part_at f.requesters port) _ b eq
    (λ q of_q is. of_and (λ (p : Seen × Fabric). Passes k row cs f (events.Submit port op) p.0 p.1) (parts.lane_at f (lanes.Up port)) _ b is
    (λ e has was. of_map (λ (p : Seen × Fabric). Passes k row cs f (events.Submit port op) p.0 p.1) (submit_on q e.sender op)
    (λ (x : ℕ × RequesterView × SenderEndView). (seen.Submitted x.0, with_requester (with_lane f (lanes.Up port) (record e { sender = x.2 })) port x.1)) b was
    (λ x on.
    let kept = kept_with f (lanes.Up port) e (record e { sender = x.2 }) has refl in
    of_kept k row cs f (events.Submit port op) (seen.Submitted x.0) (with_requester (with_lane f (lanes.Up port) (record e { sender = x.2 })) port x.1) refl refl
    (record { up = kept.up; down = kept.down; inward = kept.inward; outward = kept.outward; up_len = kept.up_len; down_len = kept.down_len }))))

of_forward_to : (k : ℕ) (row : Option ℕ) (cs : List CourseView) (f : Fabric) (name : LaneName) (place to : ℕ) (e : LaneEndsView) (b : Seen × Fabric)
    → name ≢ lane_to to → parts.lane_at f name ≡ Ok e → forward_to f name e place to ≡ Ok b → Passes k row cs f (events.Forward name place) b.0 b.1
of_forward_to k row cs f name place to e b ne has eq =
    of_and (λ (p : Seen × Fabric). Passes k row cs f (events.Forward name place) p.0 p.1) (or_no_port (parts.lane_at f (lane_to to))) _ b eq
    (λ next there is. of_map (λ (p : Seen × Fabric). Passes k row cs f (events.Forward name place) p.0 p.1) (forward_on e.receiver place next.sender)
    (λ (x : ReceiverEndView × SenderEndView). (seen.To to, with_lane (with_lane f name (record e { receiver = x.0 })) (lane_to to) (record next { sender = x.1 }))) b is
    (λ x on.
    let from = with_lane f name (record e { receiver = x.0 }) in
    let still = ends_other f name (lane_to to) (record e { receiver = x.0 }) ne ∙ in_no_port (parts.lane_at f (lane_to to)) next there in
    of_kept k row cs f (events.Forward name place) (seen.To to) (with_lane from (lane_to to) (record next { sender = x.1 })) refl refl
    (kept_then f from (with_lane from (lane_to to) (record next { sender = x.1 })) (kept_with f name e (record e { receiver = x.0 }) has refl)
    (kept_with from (lane_to to) next (record next { sender = x.1 }) still refl))))

of_forward : (k : ℕ) (row : Option ℕ) (cs : List CourseView) (f : Fabric) (name : LaneName) (place : ℕ) (b : Seen × Fabric) → answer f (events.Forward name place) ≡ Ok b
    → Passes k row cs f (events.Forward name place) b.0 b.1
of_forward k row cs f name place b eq =
    of_and (λ (p : Seen × Fabric). Passes k row cs f (events.Forward name place) p.0 p.1) (port_from name) _ b eq
    (λ from leads is. of_and (λ (p : Seen × Fabric). Passes k row cs f (events.Forward name place) p.0 p.1) (parts.lane_at f name) _ b is
    (λ e has was. of_and (λ (p : Seen × Fabric). Passes k row cs f (events.Forward name place) p.0 p.1) (destination_on e.receiver place from) _ b was
    (λ to routed goes. of_forward_to k row cs f name place to e b (leads_away name from to leads) has goes)))

of_serve : (k : ℕ) (row : Option ℕ) (cs : List CourseView) (f : Fabric) (place : ℕ) (b : Seen × Fabric) → answer f (events.Serve place) ≡ Ok b
    → Passes k row cs f (events.Serve place) b.0 b.1
of_serve k row cs f place b eq =
    of_map (λ (p : Seen × Fabric). Passes k row cs f (events.Serve place) p.0 p.1) (serve_on f.inward.receiver place f.memory f.outward.sender)
    (λ (x : ℕ × ReceiverEndView × MemoryView × SenderEndView). (seen.At x.0, record f { memory = x.2; inward = record f.inward { receiver = x.1 }; outward = record f.outward { sender = x.3 } })) b eq
    (λ x on. of_kept k row cs f (events.Serve place) (seen.At x.0) (record f { memory = x.2; inward = record f.inward { receiver = x.1 }; outward = record f.outward { sender = x.3 } }) refl refl
    (record { up = λ at. refl; down = λ at. refl; inward = refl; outward = refl; up_len = refl; down_len = refl }))

of_collect : (k : ℕ) (row : Option ℕ) (cs : List CourseView) (f : Fabric) (port : ℕ) (b : Seen × Fabric) → answer f (events.Collect port) ≡ Ok b
    → Passes k row cs f (events.Collect port) b.0 b.1
of_collect k row cs f port b eq =
    of_and (λ (p : Seen × Fabric). Passes k row cs f (events.Collect port) p.0 p.1) (part_at f.requesters port) _ b eq
    (λ q of_q is. of_and (λ (p : Seen × Fabric). Passes k row cs f (events.Collect port) p.0 p.1) (parts.lane_at f (lanes.Down port)) _ b is
    (λ e has was. of_map (λ (p : Seen × Fabric). Passes k row cs f (events.Collect port) p.0 p.1) (collect_on e.receiver q)
    (λ (x : Answer × ReceiverEndView × RequesterView). (seen.Collected x.0, with_requester (with_lane f (lanes.Down port) (record e { receiver = x.1 })) port x.2)) b was
    (λ x on.
    let kept = kept_with f (lanes.Down port) e (record e { receiver = x.1 }) has refl in
    of_kept k row cs f (events.Collect port) (seen.Collected x.0) (with_requester (with_lane f (lanes.Down port) (record e { receiver = x.1 })) port x.2) refl refl
    (record { up = kept.up; down = kept.down; inward = kept.inward; outward = kept.outward; up_len = kept.up_len; down_len = kept.down_len }))))

-- ---- all events

passes : (k : ℕ) (row : Option ℕ) (cs : List CourseView) (f : Fabric) (event : Event) (b : Seen × Fabric) → k < 16 → Few f → answer f event ≡ Ok b → Passes k row cs f event b.0 b.1
passes k row cs f (events.Submit port op) b lt few eq = of_submit k row cs f port op b eq
passes k row cs f (events.Transmit lane) b lt few eq = of_transmit k row cs f lane b lt few eq
passes k row cs f (events.Deliver lane fate) b lt few eq = of_deliver k row cs f lane fate b lt few eq
passes k row cs f (events.SendDllp lane kind) b lt few eq = of_send k row cs f lane kind b eq
passes k row cs f (events.DeliverDllp lane fate) b lt few eq = of_dllp k row cs f lane fate b eq
passes k row cs f (events.Timer lane) b lt few eq = of_timer k row cs f lane b eq
passes k row cs f (events.Retrained lane) b lt few eq = of_retrained k row cs f lane b eq
passes k row cs f (events.Forward lane place) b lt few eq = of_forward k row cs f lane place b eq
passes k row cs f (events.Serve place) b lt few eq = of_serve k row cs f place b eq
passes k row cs f (events.Collect port) b lt few eq = of_collect k row cs f port b eq

never : (ts : List Tale) (k n : ℕ) (v : ChartView) (f left : Fabric) → k < 16 → Few f → n ≡ flying f (lane_at k) → Happened f ts left → NeverMore k n v ts
never [] k n v f left lt few is h = tt
never (Tale.Settles line ∷ ts) k n v f left lt few is h = never ts k n (headed v line) f left lt few is h
never (Tale.Happens t ∷ ts) k n v f left lt few is h =
    let p : Passes k (row_in v t) v.courses f t.event t.what h.0 = passes k (row_in v t) v.courses f t.event (t.what, h.0) lt few h.1 in
    let b = length (begun_on k (deed_in v t)) in
    let s = length (sent_on k (row_in v t) (deed_in v t)) in
    let there : b ≤ flying f (lane_at k) = p.there in
    let left_is : flying f (lane_at k) + s ≡ b + flying h.0 (lane_at k) = p.left in
    let now : n + s - b ≡ flying h.0 (lane_at k) = omega (arith, is, left_is) in
    (omega (arith, there, is), never ts k (n + s - b) (told v t) h.0 left lt (p.few few) now h.2)

-- ---- a new fabric

abbrev or_nothing : Option LaneEndsView → ℕ
or_nothing None = 0
or_nothing (Some e) = length e.forward

on_new : (n p : ℕ) (e : LaneEndsView) → length e.forward ≡ 0 → or_nothing (slice_get (replicate n e) p) ≡ 0
on_new zero p e none = refl
on_new (suc n) zero e none = none
on_new (suc n) (suc p) e none = on_new n p e none

on_none : (o : Option LaneEndsView) → or_nothing o ≡ 0 → on (some_or refusals.NoSuchPart o) ≡ 0
on_none None e = refl
on_none (Some x) e = e

on_new_part : (n p : ℕ) (e : LaneEndsView) → length e.forward ≡ 0 → on (part_at (replicate n e) p) ≡ 0
on_new_part n zero e none = refl
on_new_part n (suc p) e none = on_none (slice_get (replicate n e) p) (on_new n p e none)

new_flying : (c : Config) (lane : LaneName) → 0 ≡ flying (new_fabric c) lane
new_flying c (lanes.Up port) = sym (on_new_part c.requesters port _ refl)
new_flying c (lanes.Down port) = sym (on_new_part c.requesters port _ refl)
new_flying c lanes.Inward = refl
new_flying c lanes.Outward = refl

length_new : (n : ℕ) (e : LaneEndsView) → length (replicate n e) ≡ n
length_new zero e = refl
length_new (suc n) e = ap suc (length_new n e)

few_by : (n : ℕ) (b d : Bool) (rest : Option ConfigFault) (x : ConfigFault) → nat_le 1 n ≡ b → nat_le n 7 ≡ d → (if not (b && d) then Some x else rest) ≡ None → n ≤ 7
few_by n b true rest x low high e = leb-true n 7 high
few_by n true false rest x low high e = absurd cc
few_by n false false rest x low high e = absurd cc

new_few : (c : Config) → config_fault c ≡ None → Few (new_fabric c)
new_few c e =
    let few : c.requesters ≤ 7 = few_by c.requesters (nat_le 1 c.requesters) (nat_le c.requesters 7) _ _ refl refl e in
    record {
      up = subst (λ (n : ℕ). n ≤ 7) (sym (length_new c.requesters _)) few;
      down = subst (λ (n : ℕ). n ≤ 7) (sym (length_new c.requesters _)) few;
    }

pub never_more : (c : Config) (v : ChartView) (k : ℕ) (ts : List Tale) (left : Fabric) → k < 16 → config_fault c ≡ None → Happened (new_fabric c) ts left → NeverMore k 0 v ts
never_more c v k ts left lt faultless h = never ts k 0 v (new_fabric c) left lt (new_few c faultless) (new_flying c (lane_at k)) h
