-- What a call of a link leaves of the accounts.
use Rattle.std.proofs.Common.{◌≡◌, ℕ, ◌+◌, List, ◌++◌, refl, ap, subst, Option, Some, None, Result, Ok, Err}
use Rattle.std.specs.Prelude.{◌==◌}
use Rattle.std.specs.Option.{option_map}
use Rattle.std.proofs.lemmas.List.{append-nil}
use Rattle.link_replay.specs.declared.fault.AckFault.{AckFault}
use Rattle.link_replay.specs.CargoView.{CargoView}
use Rattle.link_replay.specs.SenderView.{next_item, number_at}
use Rattle.lane_core.specs.declared.packet.WirePacket.{WirePacket}
use Rattle.lane_core.specs.declared.packet.Fate.{Fate}
use Rattle.lane_core.specs.declared.packet.Arrival.{Arrival}
use Rattle.lane_core.specs.declared.packet.DllpSeen.{DllpSeen}
use Rattle.lane_core.specs.declared.packet.DllpKind.{DllpKind}
use Rattle.dllp_core.specs.declared.packet.Dllp.{Dllp}
use Rattle.lane_core.specs.Steps.{LaneEndsView, ReceiverEndView, SenderEndView, all_but_first, transmitted, delivered, after_deliver, after_transmission, wire_after_transmit, dllp_of, after_send, wire_after_send, dllp_seen, sender_after, after_timer, after_retraining}
use Rattle.fabric_steps.specs.Fabric.{Fabric}
use Rattle.fabric_steps.specs.Event.{Event, Seen}
use Rattle.fabric_steps.specs.declared.event.EventOf.TheVariants as events
use Rattle.fabric_steps.specs.declared.event.LaneName.{LaneName}
use Rattle.fabric_steps.specs.declared.event.LinkEvent.{LinkEvent}
use Rattle.fabric_steps.specs.declared.event.LinkEvent.TheVariants as links
use Rattle.fabric_steps.specs.declared.event.SeenOf.TheVariants as seen
use Rattle.fabric_steps.specs.declared.fault.Refusal.TheVariants as refusals
use Rattle.fabric_core.specs.Answers.{and_then, map_ok, map_err, some_or, transmit_on, deliver_on, deliver_dllp_on, with_lane, link_on, link_at, answer}
use Rattle.fabric_core.specs.Answers as parts
use Rattle.chart_rows.specs.declared.row.PacketSent.{PacketSent}
use Rattle.chart_links.specs.CourseView.{CourseView, sent, arrived, sent_back, without_back, replayed, told as told_dllp}
use Rattle.chart_links.specs.Lanes.{place_of, lane_at, changed, is_accepted, followed}
use Rattle.chart_laws.specs.Arrows.{sent_on, begun_on}
use Rattle.chart_arrows.specs.Accounts.{IsAccountOf, AreAccountsOf}
use Rattle.chart_arrows.specs.Wires.{dllp_sent_on, dllp_begun_on}
use Rattle.chart_arrows.proofs.Parts.{Few, ok_or, of_ok, of_and, of_map, of_some, if_ok, if_err}
use Rattle.chart_arrows.proofs.Courses.{becomes, stays}
use Rattle.chart_arrows.proofs.Moves.{On, shown, keeps, sends, joins, told_wire}
use Rattle.chart_arrows.proofs.Ends.{account_sent, account_arrived, account_sent_back, account_replayed, account_trained, account_told}
use Rattle.chart_arrows.proofs.Standing.{of_lane, as_seen, packets_of, dllps_of, IsOldest, oldest_seen, packet_sent, packet_arrived, dllp_arrived}

-- ---- events of a link

-- what an event leaves of the accounts, and of the DLLPs on each wire back
pub record Kept (cs : List CourseView) (row : Option ℕ) (event : Event) (b : Seen × Fabric) : Type 0 where
  pub accounts : AreAccountsOf b.1 (followed cs row event b.0).courses
  pub wires : (k : ℕ) → On packets_of k cs ++ sent_on k row (followed cs row event b.0).deed ≡ begun_on k (followed cs row event b.0).deed ++ On packets_of k (followed cs row event b.0).courses
  pub backs : (k : ℕ) → On dllps_of k cs ++ dllp_sent_on k row (followed cs row event b.0).deed ≡ dllp_begun_on k (followed cs row event b.0).deed ++ On dllps_of k (followed cs row event b.0).courses

pub by_link : (Q : Seen × Fabric → Type 0) (f : Fabric) (lane : LaneName) (link : LinkEvent) (b : Seen × Fabric) → link_at f lane link ≡ Ok b
    → ((e : LaneEndsView) (x : Seen × LaneEndsView) → parts.lane_at f lane ≡ Ok e → link_on e link ≡ Ok x → Q (x.0, with_lane f lane x.1)) → Q b
by_link Q f lane link b eq all =
    of_and Q (parts.lane_at f lane) (λ (e : LaneEndsView). map_ok (link_on e link) (λ (x : Seen × LaneEndsView). (x.0, with_lane f lane x.1))) b eq
    (λ e has is. of_map Q (link_on e link) (λ (x : Seen × LaneEndsView). (x.0, with_lane f lane x.1)) b is (λ x on. all e x has on))

pub mapped : {X Y : Type 0} (f : X → Y) (o : Option X) (y : Y) → option_map f o ≡ Some y → (x : X) × (o ≡ Some x) × (Some (f x) ≡ Some y)
mapped f None y e = absurd cc
mapped f (Some x) y e = (x, refl, e)

abbrev pub or_number : ℕ → Option ℕ → ℕ
or_number d (Some n) = n
or_number d None = d

pub of_transmit : (cs : List CourseView) (row : Option ℕ) (f : Fabric) (lane : LaneName) (b : Seen × Fabric) → Few f → AreAccountsOf f cs → answer f (events.Transmit lane) ≡ Ok b
    → Kept cs row (events.Transmit lane) b
of_transmit cs row f lane b few all eq =
    by_link (Kept cs row (events.Transmit lane)) f lane links.Transmit b eq
    (λ e x has is. of_map (λ (p : Seen × LaneEndsView). Kept cs row (events.Transmit lane) (p.0, with_lane f lane p.1)) (transmit_on e.sender e.forward)
    (λ (y : ℕ × SenderEndView × List WirePacket). (seen.Sent y.0, record e { sender = y.1; forward = y.2 })) x is
    (λ y on. of_map (λ (y : ℕ × SenderEndView × List WirePacket). Kept cs row (events.Transmit lane) (seen.Sent y.0, with_lane f lane (record e { sender = y.1; forward = y.2 })))
    (some_or refusals.Idle (transmitted e.sender)) (λ (n : ℕ). (n, after_transmission e.sender, wire_after_transmit e.sender e.forward)) y on
    (λ n went.
    let m = mapped (λ (cargo : CargoView). number_at e.sender.sending e.sender.sending.place) (next_item e.sender.sending) n (of_some refusals.Idle (transmitted e.sender) n went) in
    let number : number_at e.sender.sending e.sender.sending.place ≡ n = ap (or_number n) m.2 in
    let now : LaneEndsView = record e { sender = after_transmission e.sender; forward = wire_after_transmit e.sender e.forward } in
    record {
      accounts = of_lane f cs (changed (sent n row) cs lane) lane e now (sent n row) few all has
          (λ c a. subst (λ (k : ℕ). IsAccountOf f.memory.entries now (sent k row c)) number (account_sent f.memory.entries e c row m.0 m.1 a)) (becomes cs lane (sent n row));
      wires = λ k. packet_sent n row cs lane k (all lane e has).0 (all lane e has).1;
      backs = λ k. keeps dllps_of (sent n row) (λ c. refl) cs lane k;
    })))

pub of_deliver : (cs : List CourseView) (row : Option ℕ) (f : Fabric) (lane : LaneName) (fate : Fate) (b : Seen × Fabric) → Few f → AreAccountsOf f cs → answer f (events.Deliver lane fate) ≡ Ok b
    → Kept cs row (events.Deliver lane fate) b
of_deliver cs row f lane fate b few all eq =
    by_link (Kept cs row (events.Deliver lane fate)) f lane (links.Deliver fate) b eq
    (λ e x has is. of_map (λ (p : Seen × LaneEndsView). Kept cs row (events.Deliver lane fate) (p.0, with_lane f lane p.1)) (deliver_on e.forward e.receiver fate)
    (λ (y : Arrival × List WirePacket × ReceiverEndView). (seen.Delivered y.0, record e { forward = y.1; receiver = y.2 })) x is
    (λ y on. of_map (λ (y : Arrival × List WirePacket × ReceiverEndView). Kept cs row (events.Deliver lane fate) (seen.Delivered y.0, with_lane f lane (record e { forward = y.1; receiver = y.2 })))
    (some_or refusals.Idle (delivered e.forward e.receiver fate)) (λ (a : Arrival). (a, all_but_first e.forward, after_deliver e.forward e.receiver fate)) y on
    (λ arrival came. record {
      accounts = of_lane f cs (changed (arrived (is_accepted arrival)) cs lane) lane e (record e { forward = all_but_first e.forward; receiver = after_deliver e.forward e.receiver fate })
          (arrived (is_accepted arrival)) few all has
          (λ c a. account_arrived f.memory.entries e c fate arrival (of_some refusals.Idle (delivered e.forward e.receiver fate) arrival came) a) (becomes cs lane (arrived (is_accepted arrival)));
      wires = λ k. packet_arrived (is_accepted arrival) f cs lane e fate arrival k all has (of_some refusals.Idle (delivered e.forward e.receiver fate) arrival came);
      backs = λ k. keeps dllps_of (arrived (is_accepted arrival)) (λ c. refl) cs lane k;
    })))

pub of_send : (cs : List CourseView) (row : Option ℕ) (f : Fabric) (lane : LaneName) (kind : DllpKind) (b : Seen × Fabric) → Few f → AreAccountsOf f cs → answer f (events.SendDllp lane kind) ≡ Ok b
    → Kept cs row (events.SendDllp lane kind) b
of_send cs row f lane kind b few all eq =
    by_link (Kept cs row (events.SendDllp lane kind)) f lane (links.SendDllp kind) b eq
    (λ e x has is.
    let d : Dllp = dllp_of e.receiver kind in
    let now : LaneEndsView = record e { receiver = after_send e.receiver kind; back = wire_after_send e.receiver kind e.back } in
    of_ok (λ (p : Seen × LaneEndsView). Kept cs row (events.SendDllp lane kind) (p.0, with_lane f lane p.1)) (seen.SentDllp d, now) x is
    (record {
      accounts = of_lane f cs (changed (sent_back d row) cs lane) lane e now (sent_back d row) few all has (λ c a. account_sent_back f.memory.entries e c row kind a) (becomes cs lane (sent_back d row));
      wires = λ k. keeps packets_of (sent_back d row) (λ c. refl) cs lane k;
      backs = λ k. sends dllps_of (sent_back d row) cs lane k (all lane e has).0 (Some (record { dllp = d; row = row })) (all lane e has).1 (joins (all lane e has).0.back (record { dllp = d; row = row }));
    }))

pub seen_ok : (r : Result (Option DllpSeen) AckFault) (what : DllpSeen) → and_then (map_err refusals.Protocol r) (some_or refusals.Idle) ≡ Ok what → r ≡ as_seen what
seen_ok (Ok None) what e = absurd cc
seen_ok (Ok (Some x)) what e = ap as_seen (ap (ok_or x) e)
seen_ok (Err x) what e = absurd cc

pub of_dllp : (cs : List CourseView) (row : Option ℕ) (f : Fabric) (lane : LaneName) (fate : Fate) (b : Seen × Fabric) → Few f → AreAccountsOf f cs → answer f (events.DeliverDllp lane fate) ≡ Ok b
    → Kept cs row (events.DeliverDllp lane fate) b
of_dllp cs row f lane fate b few all eq =
    by_link (Kept cs row (events.DeliverDllp lane fate)) f lane (links.DeliverDllp fate) b eq
    (λ e x has is. of_map (λ (p : Seen × LaneEndsView). Kept cs row (events.DeliverDllp lane fate) (p.0, with_lane f lane p.1)) (deliver_dllp_on e.back e.sender fate)
    (λ (y : DllpSeen × List Dllp × SenderEndView). (seen.SeenDllp y.0, record e { back = y.1; sender = y.2 })) x is
    (λ y on. of_map (λ (y : DllpSeen × List Dllp × SenderEndView). Kept cs row (events.DeliverDllp lane fate) (seen.SeenDllp y.0, with_lane f lane (record e { back = y.1; sender = y.2 })))
    (and_then (map_err refusals.Protocol (dllp_seen e.back e.sender fate)) (some_or refusals.Idle)) (λ (what : DllpSeen). (what, all_but_first e.back, sender_after e.back e.sender fate)) y on
    (λ what came.
    let was : dllp_seen e.back e.sender fate ≡ as_seen what = seen_ok (dllp_seen e.back e.sender fate) what came in
    let a = all lane e has in
    let first : IsOldest e.back a.0.back = oldest_seen e a.0.back e.back fate what a.2.back was in
    record {
      accounts = of_lane f cs (changed (λ c. told_dllp what (without_back c)) cs lane) lane e (record e { back = all_but_first e.back; sender = sender_after e.back e.sender fate })
          (λ c. told_dllp what (without_back c)) few all has (λ c a. account_told f.memory.entries e c fate what was a) (becomes cs lane (λ c. told_dllp what (without_back c)));
      wires = λ k. keeps packets_of (λ c. told_dllp what (without_back c)) (λ c. ap (λ (ps : List PacketSent). shown ps) (told_wire what c)) cs lane k;
      backs = λ k. dllp_arrived what cs lane k a.0 first.s a.1 first.there;
    })))

pub of_timer : (cs : List CourseView) (row : Option ℕ) (f : Fabric) (lane : LaneName) (b : Seen × Fabric) → Few f → AreAccountsOf f cs → answer f (events.Timer lane) ≡ Ok b
    → Kept cs row (events.Timer lane) b
of_timer cs row f lane b few all eq =
    by_link (Kept cs row (events.Timer lane)) f lane links.Timer b eq
    (λ e x has is. of_map (λ (p : Seen × LaneEndsView). Kept cs row (events.Timer lane) (p.0, with_lane f lane p.1)) (parts.timer_on e.sender)
    (λ (y : ℕ × SenderEndView). (seen.Back y.0, record e { sender = y.1 })) x is
    (λ y on. if_err (λ (y : ℕ × SenderEndView). Kept cs row (events.Timer lane) (seen.Back y.0, with_lane f lane (record e { sender = y.1 }))) (e.sender.sending.place == 0)
    (e.sender.sending.place, after_timer e.sender) refusals.Idle y on
    (record {
      accounts = of_lane f cs (changed replayed cs lane) lane e (record e { sender = after_timer e.sender }) replayed few all has (λ c a. account_replayed f.memory.entries e c a) (becomes cs lane replayed);
      wires = λ k. keeps packets_of (replayed) (λ c. refl) cs lane k;
      backs = λ k. keeps dllps_of (replayed) (λ c. refl) cs lane k;
    })))

pub of_retrained : (cs : List CourseView) (row : Option ℕ) (f : Fabric) (lane : LaneName) (b : Seen × Fabric) → Few f → AreAccountsOf f cs → answer f (events.Retrained lane) ≡ Ok b
    → Kept cs row (events.Retrained lane) b
of_retrained cs row f lane b few all eq =
    by_link (Kept cs row (events.Retrained lane)) f lane links.Retrained b eq
    (λ e x has is. of_map (λ (p : Seen × LaneEndsView). Kept cs row (events.Retrained lane) (p.0, with_lane f lane p.1)) (parts.retrained_on e.sender)
    (λ (s : SenderEndView). (seen.Retrained, record e { sender = s })) x is
    (λ s on. if_ok (λ (s : SenderEndView). Kept cs row (events.Retrained lane) (seen.Retrained, with_lane f lane (record e { sender = s }))) e.sender.sending.stopped
    (after_retraining e.sender) refusals.Idle s on
    (record {
      accounts = of_lane f cs cs lane e (record e { sender = after_retraining e.sender }) (λ c. c) few all has (λ c a. account_trained f.memory.entries e c a) (stays cs (place_of lane));
      wires = λ k. append-nil (On packets_of k cs);
      backs = λ k. append-nil (On dllps_of k cs);
    })))
