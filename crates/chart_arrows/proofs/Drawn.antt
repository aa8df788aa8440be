-- What is drawn of an event.
use Rattle.std.proofs.Common.{◌≡◌, ◌∙◌, ℕ, zero, suc, ◌-◌, Bool, true, false, List, [], ◌∷◌, refl, sym, ap, subst, Option, Some, None, Result, Ok, arith}
use Rattle.std.specs.Prelude.{◌==◌, not, ◌&&◌, if◌then◌else◌, slice_get}
use Rattle.seq12.specs.Numbers.{distance_of}
use Rattle.seq_memory.specs.Entries.{Entry}
use Rattle.dllp_core.specs.declared.packet.Dllp.{Dllp}
use Rattle.dllp_core.specs.declared.packet.Dllp.TheVariants.{Ack, Nak, Update}
use Rattle.link_replay.specs.declared.fault.AckFault.{AckFault}
use Rattle.link_replay.specs.CargoView.{CargoView}
use Rattle.link_replay.specs.SenderView.{SenderView, next_item, acknowledged as dropped, from_oldest}
use Rattle.flow_control.specs.Queue.{Item}
use Rattle.lane_core.specs.declared.packet.WirePacket.{WirePacket}
use Rattle.lane_core.specs.declared.packet.Fate.{Fate}
use Rattle.lane_core.specs.declared.packet.Fate.TheVariants.{Good, Failed, Lost}
use Rattle.lane_core.specs.declared.packet.Arrival.{Arrival}
use Rattle.lane_core.specs.declared.packet.DllpSeen.{DllpSeen}
use Rattle.lane_core.specs.declared.packet.DllpSeen.TheVariants as told_as
use Rattle.lane_core.specs.Steps.{LaneEndsView, SenderEndView, all_but_first, is_expected, seen_by, dllp_seen, sender_after, after_timer, sending_told}
use Rattle.fabric_steps.specs.Fabric.{Fabric}
use Rattle.fabric_steps.specs.declared.event.EventOf.TheVariants as events
use Rattle.fabric_steps.specs.declared.event.LaneName.{LaneName}
use Rattle.fabric_steps.specs.declared.event.LaneName.TheVariants as lanes
use Rattle.fabric_steps.specs.declared.event.LinkEvent.TheVariants as links
use Rattle.fabric_steps.specs.Event.{Seen}
use Rattle.fabric_steps.specs.declared.event.SeenOf.TheVariants as seen
use Rattle.fabric_steps.specs.declared.fault.Refusal.TheVariants as refusals
use Rattle.fabric_core.specs.Answers.{and_then, map_err, some_or, deliver_dllp_on, timer_on, with_lane, answer}
use Rattle.fabric_core.specs.Answers as parts
use Rattle.chart_rows.specs.declared.row.Carried.{Carried}
use Rattle.chart_rows.specs.declared.row.DllpSent.{DllpSent}
use Rattle.chart_rows.specs.declared.row.PacketSent.{PacketSent}
use Rattle.chart_rows.specs.declared.row.Deed.TheVariants as deeds
use Rattle.chart_rows.specs.declared.row.Replay.{Replay}
use Rattle.chart_rows.specs.declared.row.Replay.TheVariants as replays
use Rattle.chart_links.specs.CourseView.{CourseView, acknowledged, next_carried, oldest, oldest_back, taken, without_back, replay_of, told_replay}
use Rattle.chart_links.specs.Lanes.{asked_found, asked, followed}
use Rattle.chart_arrows.specs.Accounts.{IsSaid, IsSaidOfBytes, IsSaidOnWire, IsAccountOf, AreAccountsOf}
use Rattle.chart_arrows.specs.Replays.{replay_by, replay_between}
use Rattle.chart_arrows.proofs.Lists.{HasSo, at_so}
use Rattle.chart_arrows.proofs.Parts.{ok_or, ends_same, of_map, if_err}
use Rattle.chart_arrows.proofs.Rests.{Rests, dropped as rests_dropped}
use Rattle.chart_arrows.proofs.Ends.{account_dropped, account_fewer, next_said, not_none}
use Rattle.chart_arrows.proofs.Standing.{IsOldest, oldest_seen}
use Rattle.chart_arrows.proofs.Links.{by_link, seen_ok}
use Rattle.chart_arrows.proofs.Passing.{IsTaken, is_taken}

-- ---- what a sender sends once more

contrary : (p : ℕ) → (p == 0) ≡ false → p ≡ 0 → ⊥
contrary zero e z = cc
contrary (suc p) e z = cc

stops_at : (p r : ℕ) (a b stopped : Bool) → (p == 0) ≡ a → (stopped ≡ true → p ≡ 0)
    → (if a then replays.Nothing else (if b then replays.Stopped p else replays.Again p)) ≡ replay_by (not stopped && (if a then stopped else (if b then true else stopped))) p
stops_at p r true b true is rests = rw is refl
stops_at p r true b false is rests = rw is refl
stops_at p r false b true is rests = absurd (contrary p is (rests refl))
stops_at p r false true false is rests = refl
stops_at p r false false false is rests = rw is refl

less_zero : (m : ℕ) → m - 0 ≡ m
less_zero m = omega arith

same_less : (m : ℕ) → m - m ≡ 0
same_less m = omega arith

distance_same : (a : ℕ) → distance_of a a ≡ 0
distance_same a = omega arith

back_all : (p a : ℕ) → (p - distance_of a a) - 0 ≡ p
back_all p a = ap (λ (d : ℕ). (p - d) - 0) (distance_same a) ∙ less_zero (p - 0) ∙ less_zero p

back_none : (p a : ℕ) → (p - distance_of a a) - p ≡ 0
back_none p a = ap (λ (d : ℕ). (p - d) - p) (distance_same a) ∙ ap (λ (m : ℕ). m - p) (less_zero p) ∙ same_less p

replayed_by : (h : List Entry) (e : LaneEndsView) (c : CourseView) (places : ℕ) → IsAccountOf h e c → Rests e.sender.sending → places ≡ e.sender.sending.place
    → replay_of c ≡ replay_by (not e.sender.sending.stopped && (from_oldest e.sender.sending).stopped) places
replayed_by h e c places a rests are =
    let s : SenderView = e.sender.sending in
    let says : replay_of c ≡ (if s.place == 0 then replays.Nothing else (if s.replays == 3 then replays.Stopped s.place else replays.Again s.place)) = rw (a.place, a.replays) refl in
    says ∙ stops_at s.place s.replays (s.place == 0) (s.replays == 3) s.stopped refl rests ∙ ap (λ (p : ℕ). replay_by (not s.stopped && (from_oldest s).stopped) p) (sym are)

quiet_by : (stopped : Bool) (places : ℕ) → places ≡ 0 → replays.Nothing ≡ replay_by (not stopped && stopped) places
quiet_by true places none = rw none refl
quiet_by false places none = rw none refl

told_by : (h : List Entry) (e : LaneEndsView) (c : CourseView) (d : Dllp) (ds : List Dllp) → e.back ≡ d ∷ ds → is_expected e.sender.sending d ≡ true → IsAccountOf h e c → Rests e.sender.sending
    → told_replay (told_as.Took d) (without_back c) ≡ replay_between e.sender.sending (sending_told e.sender.sending d)
told_by h e c (Ack number) ds is expected a rests =
    let s : SenderView = e.sender.sending in
    subst (λ (b : Bool). replays.Nothing ≡ replay_between s (if b then dropped s number else s)) (sym expected)
    (quiet_by s.stopped ((s.place - distance_of number s.acked) - (s.place - distance_of number s.acked)) (same_less (s.place - distance_of number s.acked)))
told_by h e c (Nak number) ds is expected a rests =
    let s : SenderView = e.sender.sending in
    let mid : LaneEndsView = record e { back = ds; sender = record { sending = s; gate = e.sender.gate } } in
    let now : LaneEndsView = record mid { sender = record { sending = dropped s number; gate = e.sender.gate } } in
    subst (λ (b : Bool). replay_of (acknowledged number (without_back c)) ≡ replay_between s (if b then from_oldest (dropped s number) else s)) (sym expected)
    (replayed_by h now (acknowledged number (without_back c)) ((s.place - distance_of number s.acked) - 0)
    (account_dropped h mid (without_back c) number (account_fewer h e c (Nak number) ds e.sender.gate is a)) (rests_dropped s number rests) (less_zero (s.place - distance_of number s.acked)))
told_by h e c (Update class headers units) ds is expected a rests =
    quiet_by e.sender.sending.stopped ((e.sender.sending.place - distance_of e.sender.sending.acked e.sender.sending.acked) - e.sender.sending.place) (back_none e.sender.sending.place e.sender.sending.acked)

abbrev or_seen : DllpSeen → Result (Option DllpSeen) AckFault → DllpSeen
or_seen d (Ok (Some x)) = x
or_seen d _ = d

gone : (s : SenderView) (c : CourseView) (what : DllpSeen) → told_as.Gone ≡ what → told_replay what (without_back c) ≡ replay_between s s
gone s c what is =
    subst (λ (w : DllpSeen). told_replay w (without_back c) ≡ replay_between s s) is (quiet_by s.stopped ((s.place - distance_of s.acked s.acked) - s.place) (back_none s.place s.acked))

seen_replay : (h : List Entry) (e : LaneEndsView) (c : CourseView) (d : Dllp) (ds : List Dllp) (fate : Fate) (b : Bool) (what : DllpSeen) → e.back ≡ d ∷ ds → is_expected e.sender.sending d ≡ b
    → seen_by d b fate ≡ Ok (Some what) → IsAccountOf h e c → Rests e.sender.sending
    → told_replay what (without_back c) ≡ replay_between e.sender.sending (sender_after (d ∷ ds) e.sender fate).sending
seen_replay h e c d ds Good true what is expected has a rests =
    subst (λ (w : DllpSeen). told_replay w (without_back c) ≡ replay_between e.sender.sending (sending_told e.sender.sending d)) (ap (or_seen what) has) (told_by h e c d ds is expected a rests)
seen_replay h e c d ds Good false what is expected has a rests = absurd cc
seen_replay h e c d ds Failed b what is expected has a rests = gone e.sender.sending c what (ap (or_seen what) has)
seen_replay h e c d ds Lost b what is expected has a rests = gone e.sender.sending c what (ap (or_seen what) has)

drawn_by : (h : List Entry) (e : LaneEndsView) (c : CourseView) (back : List Dllp) (fate : Fate) (what : DllpSeen) → e.back ≡ back → dllp_seen back e.sender fate ≡ Ok (Some what)
    → IsAccountOf h e c → Rests e.sender.sending → IsOldest back c.back × (told_replay what (without_back c) ≡ replay_between e.sender.sending (sender_after back e.sender fate).sending)
drawn_by h e c [] fate what is has a rests = absurd cc
drawn_by h e c (d ∷ ds) fate what is has a rests =
    (oldest_seen e c.back (d ∷ ds) fate what (a.back ∙ is) has, seen_replay h e c d ds fate (is_expected e.sender.sending d) what is refl has a rests)

-- ---- events

is_other : (f : Fabric) (lane : LaneName) (e now x : LaneEndsView) → parts.lane_at f lane ≡ Ok e → parts.lane_at (with_lane f lane now) lane ≡ Ok x → now ≡ x
is_other f lane e now x has there = ap (ok_or now) (sym (ends_same f lane e now has) ∙ there)

-- of the lane's ends before and after
abbrev Between : Fabric → LaneName → (Seen → LaneEndsView → LaneEndsView → Type 0) → Seen × Fabric → Type 0
Between f lane So b = (e e' : LaneEndsView) → parts.lane_at f lane ≡ Ok e → parts.lane_at b.1 lane ≡ Ok e' → So b.0 e e'

between : (f : Fabric) (lane : LaneName) (So : Seen → LaneEndsView → LaneEndsView → Type 0) (what : Seen) (e now : LaneEndsView) → parts.lane_at f lane ≡ Ok e → So what e now
    → Between f lane So (what, with_lane f lane now)
between f lane So what e now has so =
    λ x y there after.
    subst (λ (z : LaneEndsView). So what z y) (ap (ok_or e) (sym has ∙ there)) (subst (λ (z : LaneEndsView). So what e z) (is_other f lane e now y has after) so)

abbrev Expires : List CourseView → Option ℕ → LaneName → Seen → LaneEndsView → LaneEndsView → Type 0
Expires cs row lane what e e' = (followed cs row (events.Timer lane) what).deed ≡ deeds.Expired lane (replay_between e.sender.sending e'.sender.sending)

expires : (f : Fabric) (cs : List CourseView) (row : Option ℕ) (lane : LaneName) (e : LaneEndsView) (n : ℕ) → AreAccountsOf f cs → parts.lane_at f lane ≡ Ok e → Rests e.sender.sending
    → Expires cs row lane (seen.Back n) e (record e { sender = after_timer e.sender })
expires f cs row lane e n all has rests =
    let a = all lane e has in
    let s : SenderView = e.sender.sending in
    ap (λ (o : Option CourseView). deeds.Expired lane (asked_found replay_of replays.Nothing o)) a.1
    ∙ ap (λ (r : Replay). deeds.Expired lane r) (replayed_by f.memory.entries e a.0 ((s.place - distance_of s.acked s.acked) - 0) a.2 rests (back_all s.place s.acked))

pub expired : (f : Fabric) (cs : List CourseView) (row : Option ℕ) (lane : LaneName) (b : Seen × Fabric) → AreAccountsOf f cs
    → ((e : LaneEndsView) → parts.lane_at f lane ≡ Ok e → Rests e.sender.sending) → answer f (events.Timer lane) ≡ Ok b → Between f lane (Expires cs row lane) b
expired f cs row lane b all rests eq =
    by_link (Between f lane (Expires cs row lane)) f lane links.Timer b eq
    (λ e x has is. of_map (λ (p : Seen × LaneEndsView). Between f lane (Expires cs row lane) (p.0, with_lane f lane p.1)) (timer_on e.sender)
    (λ (y : ℕ × SenderEndView). (seen.Back y.0, record e { sender = y.1 })) x is
    (λ y on. if_err (λ (y : ℕ × SenderEndView). Between f lane (Expires cs row lane) (seen.Back y.0, with_lane f lane (record e { sender = y.1 }))) (e.sender.sending.place == 0)
    (e.sender.sending.place, after_timer e.sender) refusals.Idle y on
    (between f lane (Expires cs row lane) (seen.Back e.sender.sending.place) e (record e { sender = after_timer e.sender }) has
    (expires f cs row lane e e.sender.sending.place all has (rests e has)))))

abbrev Arrives : List CourseView → Option ℕ → LaneName → Fate → Seen → LaneEndsView → LaneEndsView → Type 0
Arrives cs row lane fate what e e' =
    (s : DllpSent) × (slice_get e.back 0 ≡ Some s.dllp) × ((followed cs row (events.DeliverDllp lane fate) what).deed ≡ deeds.ArrivedDllp lane fate (Some s) (replay_between e.sender.sending e'.sender.sending))

arrives : (f : Fabric) (cs : List CourseView) (row : Option ℕ) (lane : LaneName) (fate : Fate) (e : LaneEndsView) (what : DllpSeen) → AreAccountsOf f cs → parts.lane_at f lane ≡ Ok e
    → Rests e.sender.sending → dllp_seen e.back e.sender fate ≡ Ok (Some what)
    → Arrives cs row lane fate (seen.SeenDllp what) e (record e { back = all_but_first e.back; sender = sender_after e.back e.sender fate })
arrives f cs row lane fate e what all has rests came =
    let a = all lane e has in
    let d = drawn_by f.memory.entries e a.0 e.back fate what refl came a.2 rests in (
      d.0.s,
      d.0.is,
      ap (λ (o : Option CourseView). deeds.ArrivedDllp lane fate (asked_found oldest_back None o) (asked_found (λ (c : CourseView). told_replay what (without_back c)) replays.Nothing o)) a.1
          ∙ ap (λ (o : Option DllpSent). deeds.ArrivedDllp lane fate o (told_replay what (without_back a.0))) d.0.there
          ∙ ap (λ (r : Replay). deeds.ArrivedDllp lane fate (Some d.0.s) r) d.1,
    )

pub dllp_arrives : (f : Fabric) (cs : List CourseView) (row : Option ℕ) (lane : LaneName) (fate : Fate) (b : Seen × Fabric) → AreAccountsOf f cs
    → ((e : LaneEndsView) → parts.lane_at f lane ≡ Ok e → Rests e.sender.sending) → answer f (events.DeliverDllp lane fate) ≡ Ok b → Between f lane (Arrives cs row lane fate) b
dllp_arrives f cs row lane fate b all rests eq =
    by_link (Between f lane (Arrives cs row lane fate)) f lane (links.DeliverDllp fate) b eq
    (λ e x has is. of_map (λ (p : Seen × LaneEndsView). Between f lane (Arrives cs row lane fate) (p.0, with_lane f lane p.1)) (deliver_dllp_on e.back e.sender fate)
    (λ (y : DllpSeen × List Dllp × SenderEndView). (seen.SeenDllp y.0, record e { back = y.1; sender = y.2 })) x is
    (λ y on. of_map (λ (y : DllpSeen × List Dllp × SenderEndView). Between f lane (Arrives cs row lane fate) (seen.SeenDllp y.0, with_lane f lane (record e { back = y.1; sender = y.2 })))
    (and_then (map_err refusals.Protocol (dllp_seen e.back e.sender fate)) (some_or refusals.Idle)) (λ (what : DllpSeen). (what, all_but_first e.back, sender_after e.back e.sender fate)) y on
    (λ what came. between f lane (Arrives cs row lane fate) (seen.SeenDllp what) e (record e { back = all_but_first e.back; sender = sender_after e.back e.sender fate }) has
    (arrives f cs row lane fate e what all has (rests e has) (seen_ok (dllp_seen e.back e.sender fate) what came)))))

-- ---- packets

pub is_sent : (f : Fabric) (cs : List CourseView) (row : Option ℕ) (lane : LaneName) (e : LaneEndsView) (cargo : CargoView) (number : ℕ) → AreAccountsOf f cs → parts.lane_at f lane ≡ Ok e
    → next_item e.sender.sending ≡ Some cargo
    → (c : Option Carried) × IsSaidOfBytes f.memory.entries cargo c × ((followed cs row (events.Transmit lane) (seen.Sent number)).deed ≡ deeds.Sent lane number c)
is_sent f cs row lane e cargo number all has item =
    let a = all lane e has in
    let goes = not_none e.sender.sending.stopped (slice_get e.sender.sending.kept e.sender.sending.place) cargo item in
    (next_carried a.0, next_said f.memory.entries e a.0 cargo goes.1 a.2, ap (λ (o : Option CourseView). deeds.Sent lane number (asked_found next_carried None o)) a.1)

pub is_arrived : (f : Fabric) (cs : List CourseView) (row : Option ℕ) (lane : LaneName) (e : LaneEndsView) (p : WirePacket) (fate : Fate) (arrival : Arrival) → AreAccountsOf f cs
    → parts.lane_at f lane ≡ Ok e → slice_get e.forward 0 ≡ Some p
    → (s : PacketSent) × IsSaidOnWire f.memory.entries p s × ((followed cs row (events.Deliver lane fate) (seen.Delivered arrival)).deed ≡ deeds.Arrived lane fate arrival (Some s))
is_arrived f cs row lane e p fate arrival all has there =
    let a = all lane e has in
    let k : HasSo (IsSaidOnWire f.memory.entries) p a.0.wire 0 = at_so (IsSaidOnWire f.memory.entries) e.forward a.0.wire 0 p a.2.wire there in
    (k.y, k.is, ap (λ (o : Option CourseView). deeds.Arrived lane fate arrival (asked_found oldest None o)) a.1 ∙ ap (λ (o : Option PacketSent). deeds.Arrived lane fate arrival o) k.there)

pub is_forwarded : (f : Fabric) (cs : List CourseView) (row : Option ℕ) (lane : LaneName) (e : LaneEndsView) (x : Item) (place port : ℕ) → AreAccountsOf f cs → parts.lane_at f lane ≡ Ok e
    → slice_get e.receiver.queue place ≡ Some x
    → (c : Carried) × IsSaid f.memory.entries x (Some c) × ((followed cs row (events.Forward lane place) (seen.To port)).deed ≡ deeds.Forwarded (Some c))
is_forwarded f cs row lane e x place port all has there =
    let k : IsTaken f.memory.entries x (asked (taken place) None cs lane) = is_taken f.memory.entries f cs lane e place x all has there in
    (k.carried, k.said, ap (λ (o : Option Carried). deeds.Forwarded o) k.is)

pub is_served : (f : Fabric) (cs : List CourseView) (row : Option ℕ) (x : Item) (place index : ℕ) → AreAccountsOf f cs → slice_get f.inward.receiver.queue place ≡ Some x
    → (c : Carried) × IsSaid f.memory.entries x (Some c) × ((followed cs row (events.Serve place) (seen.At index)).deed ≡ deeds.Served (Some c) index)
is_served f cs row x place index all there =
    let k : IsTaken f.memory.entries x (asked (taken place) None cs lanes.Inward) = is_taken f.memory.entries f cs lanes.Inward f.inward place x all refl there in
    (k.carried, k.said, ap (λ (o : Option Carried). deeds.Served o index) k.is)

pub is_collected : (f : Fabric) (cs : List CourseView) (row : Option ℕ) (port : ℕ) (e : LaneEndsView) (x : Item) (what : Seen) → AreAccountsOf f cs → parts.lane_at f (lanes.Down port) ≡ Ok e
    → slice_get e.receiver.queue 0 ≡ Some x
    → (c : Carried) × IsSaid f.memory.entries x (Some c) × ((followed cs row (events.Collect port) what).deed ≡ deeds.Collected port (Some c))
is_collected f cs row port e x what all has there =
    let k : IsTaken f.memory.entries x (asked (taken 0) None cs (lanes.Down port)) = is_taken f.memory.entries f cs (lanes.Down port) e 0 x all has there in
    (k.carried, k.said, ap (λ (o : Option Carried). deeds.Collected port o) k.is)
