-- What an answer says of the parts that the event used.
use Rattle.std.proofs.Common.{ℕ, zero, suc, ◌≡◌, Bool, true, false, List, [], ◌∷◌, length, refl, sym, ap, subst, ◌∙◌, Option, Some, None, Result, Ok, Err, if◌then◌else◌, arith, ◌<◌}
use Rattle.std.specs.Prelude.{slice_get, slice_set, nat_lt, ◌&&◌, ◌==◌}
use Rattle.std.proofs.lemmas.Bool.Decides.{nat_tests}
use Rattle.tlp_core.specs.Ops.{Op}
use Rattle.tlp_core.specs.TlpView.{TlpView}
use Rattle.completer_core.specs.Serving.{completion_to}
use Rattle.requester_core.specs.Answers.{Answer}
use Rattle.requester_core.specs.RequesterView.{RequesterView, prepared, finished}
use Rattle.flow_control.specs.Needs.{need_of}
use Rattle.flow_control.specs.Credits.{gate_covers}
use Rattle.flow_control.specs.Queue.{Item, is_takeable}
use Rattle.switch_core.specs.Routing.{route, port_of, is_requester}
use Rattle.lane_core.specs.declared.packet.LaneRefusal.TheVariants as no_room
use Rattle.lane_core.specs.Steps.{LaneEndsView, ReceiverEndView, SenderEndView, entered, transmitted, delivered, dllp_of, dllp_seen, after_timer, after_retraining}
use Rattle.lane_core.specs.Calls.{after_call}
use Rattle.fabric_steps.specs.Fabric.{Fabric}
use Rattle.fabric_steps.specs.declared.event.LaneName.{LaneName}
use Rattle.fabric_steps.specs.declared.event.LaneName.TheVariants as lanes
use Rattle.fabric_steps.specs.declared.event.LinkEvent.{LinkEvent}
use Rattle.fabric_steps.specs.declared.event.LinkEvent.TheVariants as links
use Rattle.fabric_steps.specs.declared.event.SeenOf.TheVariants as seen
use Rattle.fabric_steps.specs.declared.fault.Refusal.{Refusal}
use Rattle.fabric_steps.specs.declared.fault.Refusal.TheVariants as refusals
use Rattle.fabric_core.specs.Answers.{and_then, map_ok, some_or, map_err, transmit_on, deliver_on, deliver_dllp_on, timer_on, retrained_on, link_on, link_at, part_at, or_no_port, enter_on, enter_if_any, item_at, submit_on, submit_at, destination_on, forward_on, forward_to, forward_at, act_on, serve_on, serve_at, collect_on, collect_at, SubmitFits, ForwardFits, ServeFits}
use Rattle.fabric_core.proofs.Answering.{goes_inward}
use Rattle.fabric_core.specs.ByParts.{Enters, EntersIfAny, IsAt, IsRoutedAs, IsSeen, Links, Submits, call_of}
use Rattle.fabric_core.specs.Steps.{HasPart, Happens}
use Rattle.fabric_core.specs.ByParts.{LinksAt, SubmitsAt, ForwardsUp, ForwardsOut, ServesAt, CollectsAt, HappensByParts}
use Rattle.fabric_steps.specs.Event.{Event, Seen}
use Rattle.fabric_steps.specs.declared.event.EventOf.TheVariants as events
use Rattle.switch_core.specs.Forwarding.{Forwards}
use Rattle.switch_core.specs.declared.route_fault.RouteFault.TheVariants.{NoPort}
use Rattle.tlp_core.specs.Layout.{Spells, canonical}
use Rattle.tlp_core.specs.Operation.{is_completion}

-- ---- what gives Ok

pub given : {A B : Type 0} (a : Result A Refusal) (f : A → B) (y : B) → map_ok a f ≡ Ok y → (x : A) × (a ≡ Ok x) × (f x ≡ y)
given (Ok x) f y h = (x, refl, cc)
given (Err r) f y h = absurd cc

pub then_ok : {A B : Type 0} (a : Result A Refusal) (g : A → Result B Refusal) (y : B) → and_then a g ≡ Ok y → (x : A) × (a ≡ Ok x) × (g x ≡ Ok y)
then_ok (Ok x) g y h = (x, refl, h)
then_ok (Err r) g y h = absurd cc

pub some_ok : {A : Type 0} (r : Refusal) (o : Option A) (x : A) → some_or r o ≡ Ok x → o ≡ Some x
some_ok r (Some y) x h = cc
some_ok r None x h = absurd cc

pub named_ok : {A E : Type 0} (name : E → Refusal) (a : Result A E) (x : A) → map_err name a ≡ Ok x → a ≡ Ok x
named_ok name (Ok y) x h = cc
named_ok name (Err e) x h = absurd cc

if_err : {A : Type 0} (b : Bool) (r : Refusal) (x y : A) → (if b then Err r else Ok x) ≡ Ok y → (b ≡ false) × (x ≡ y)
if_err true r x y h = absurd cc
if_err false r x y h = (refl, cc)

if_ok : {A : Type 0} (b : Bool) (r : Refusal) (x y : A) → (if b then Ok x else Err r) ≡ Ok y → (b ≡ true) × (x ≡ y)
if_ok true r x y h = (refl, cc)
if_ok false r x y h = absurd cc

-- ---- calls of a link

abbrev sees_of : {A B : Type 0} → A × B → A
sees_of p = p.0

seen_as : (e : LaneEndsView) (event : LinkEvent) (w what : Seen) (e' : LaneEndsView) → IsSeen e event w → ◌≡◌ {A = Seen × LaneEndsView} (w, after_call e (call_of event)) (what, e') → Links e event what e'
seen_as e event w what e' s is =
    record { sees = subst (IsSeen e event) (ap (λ (p : Seen × LaneEndsView). p.0) is) s; now = sym (ap (λ (p : Seen × LaneEndsView). p.1) is) }

moved : (n : ℕ) → (n == 0) ≡ false → 0 < n
moved n h = grind (arith, nat_tests)

pub linked : (e : LaneEndsView) (event : LinkEvent) (what : Seen) (e' : LaneEndsView) → link_on e event ≡ Ok (what, e') → Links e event what e'
linked e links.Transmit what e' h =
    let g = given (transmit_on e.sender e.forward) _ (what, e') h in
    let k = given (some_or refusals.Idle (transmitted e.sender)) _ g.0 g.1 in
    seen_as e links.Transmit (seen.Sent k.0) what e' (some_ok refusals.Idle (transmitted e.sender) k.0 k.1) (ap (λ x. (seen.Sent x.0, record e { sender = x.1; forward = x.2 })) k.2 ∙ g.2)
linked e (links.Deliver fate) what e' h =
    let g = given (deliver_on e.forward e.receiver fate) _ (what, e') h in
    let k = given (some_or refusals.Idle (delivered e.forward e.receiver fate)) _ g.0 g.1 in
    seen_as e (links.Deliver fate) (seen.Delivered k.0) what e' (some_ok refusals.Idle (delivered e.forward e.receiver fate) k.0 k.1) (ap (λ x. (seen.Delivered x.0, record e { forward = x.1; receiver = x.2 })) k.2 ∙ g.2)
linked e (links.SendDllp kind) what e' h = seen_as e (links.SendDllp kind) (seen.SentDllp (dllp_of e.receiver kind)) what e' refl cc
linked e (links.DeliverDllp fate) what e' h =
    let g = given (deliver_dllp_on e.back e.sender fate) _ (what, e') h in
    let k = given (and_then (map_err refusals.Protocol (dllp_seen e.back e.sender fate)) (some_or refusals.Idle)) _ g.0 g.1 in
    let j = then_ok (map_err refusals.Protocol (dllp_seen e.back e.sender fate)) (some_or refusals.Idle) k.0 k.1 in
    seen_as e (links.DeliverDllp fate) (seen.SeenDllp k.0) what e'
    (named_ok refusals.Protocol (dllp_seen e.back e.sender fate) j.0 j.1 ∙ ap Ok (some_ok refusals.Idle j.0 k.0 j.2))
    (ap (λ x. (seen.SeenDllp x.0, record e { back = x.1; sender = x.2 })) k.2 ∙ g.2)
linked e links.Timer what e' h =
    let g = given (timer_on e.sender) _ (what, e') h in
    let k = if_err (e.sender.sending.place == 0) refusals.Idle (e.sender.sending.place, after_timer e.sender) g.0 g.1 in
    seen_as e links.Timer (seen.Back e.sender.sending.place) what e' (refl, moved e.sender.sending.place k.0) (ap (λ x. (seen.Back x.0, record e { sender = x.1 })) k.1 ∙ g.2)
linked e links.Retrained what e' h =
    let g = given (retrained_on e.sender) _ (what, e') h in
    let k = if_ok e.sender.sending.stopped refusals.Idle (after_retraining e.sender) g.0 g.1 in
    seen_as e links.Retrained seen.Retrained what e' k.0 (ap (λ s. (seen.Retrained, record e { sender = s })) k.1 ∙ g.2)

-- in a list of lanes
in_list : (parts : List LaneEndsView) (port : ℕ) (e : LaneEndsView) → part_at parts port ≡ Ok e → (place : ℕ) × HasPart parts port place e
in_list parts zero e h = absurd cc
in_list parts (suc place) e h = (place, record { is_port = refl; there = some_ok refusals.NoSuchPart (slice_get parts place) e h })

pub links_at : (f : Fabric) (name : LaneName) (event : LinkEvent) (what : Seen) (f' : Fabric) → link_at f name event ≡ Ok (what, f') → LinksAt f name event what f'
links_at f (lanes.Up zero) event what f' h = absurd cc
links_at f (lanes.Up (suc i)) event what f' h =
    let a = then_ok (part_at f.up (suc i)) _ (what, f') h in
    let g = given (link_on a.0 event) _ (what, f') a.2 in
    let at = in_list f.up (suc i) a.0 a.1 in
    record {
      lanes = slice_set f.up i g.0.1;
      links = record { place = i; lane = a.0; lane_after = g.0.1; has_lane = record { is_port = refl; there = some_ok refusals.NoSuchPart (slice_get f.up i) a.0 a.1 }; links = linked a.0 event what g.0.1 (g.1 ∙ ap (λ w. Ok (w, g.0.1)) (ap (λ p. p.0) g.2)); now = refl };
      now = sym (ap (λ p. p.1) g.2);
    }
links_at f (lanes.Down zero) event what f' h = absurd cc
links_at f (lanes.Down (suc i)) event what f' h =
    let a = then_ok (part_at f.down (suc i)) _ (what, f') h in
    let g = given (link_on a.0 event) _ (what, f') a.2 in
    record {
      lanes = slice_set f.down i g.0.1;
      links = record { place = i; lane = a.0; lane_after = g.0.1; has_lane = record { is_port = refl; there = some_ok refusals.NoSuchPart (slice_get f.down i) a.0 a.1 }; links = linked a.0 event what g.0.1 (g.1 ∙ ap (λ w. Ok (w, g.0.1)) (ap (λ p. p.0) g.2)); now = refl };
      now = sym (ap (λ p. p.1) g.2);
    }
links_at f lanes.Inward event what f' h =
    let g = given (link_on f.inward event) _ (what, f') h in
    record { lane = g.0.1; links = linked f.inward event what g.0.1 (g.1 ∙ ap (λ w. Ok (w, g.0.1)) (ap (λ p. p.0) g.2)); now = sym (ap (λ p. p.1) g.2) }
links_at f lanes.Outward event what f' h =
    let g = given (link_on f.outward event) _ (what, f') h in
    record { lane = g.0.1; links = linked f.outward event what g.0.1 (g.1 ∙ ap (λ w. Ok (w, g.0.1)) (ap (λ p. p.0) g.2)); now = sym (ap (λ p. p.1) g.2) }

-- ---- packets

entering : {A : Type 0} (a b : Bool) (x y : A) (r s : Refusal) → (if a then (if b then Ok x else Err r) else Err s) ≡ Ok y → ((a && b) ≡ true) × (x ≡ y)
entering true true x y r s h = (refl, cc)
entering true false x y r s h = absurd cc
entering false b x y r s h = absurd cc

pub enters : (s : SenderEndView) (t : TlpView) (mark : ℕ) (s' : SenderEndView) → Spells (canonical t) t → enter_on s t mark ≡ Ok s' → Enters s t mark s'
enters s t mark s' spelled h =
    let k = entering (gate_covers s.gate (need_of t)) (nat_lt (length s.sending.kept) 2047) (entered s t mark) s' (refusals.Lane no_room.WindowFull) (refusals.Lane (no_room.NoCredits (need_of t).class)) h in
    record { may = k.0; spelled = spelled; now = sym k.1 }

pub at_place : (r : ReceiverEndView) (place : ℕ) (x : Item) → item_at r place ≡ Ok x → IsAt r place x.0 x.1
at_place r place x h =
    let k = by_test (is_takeable r.queue place) (some_or refusals.NotTakeable (slice_get r.queue place)) h in
    record { takeable = k.0; item = some_ok refusals.NotTakeable (slice_get r.queue place) x k.1 }
  where
    by_test : (b : Bool) (a : Result Item Refusal) → (if b then a else Err refusals.NotTakeable) ≡ Ok x → (b ≡ true) × (a ≡ Ok x)
    by_test true a e = (refl, e)
    by_test false a e = absurd cc

-- ---- Submit

pub submits : (q : RequesterView) (s : SenderEndView) (op : Op) (n : ℕ) (q' : RequesterView) (s' : SenderEndView) → SubmitFits q op → submit_on q s op ≡ Ok (n, q', s') → Submits q s op n q' s'
submits q s op n q' s' fits h =
    let p = then_ok (map_err refusals.Submit (prepared q op)) _ (n, q', s') h in
    let g = given (enter_on s p.0.1 p.0.0) _ (n, q', s') p.2 in
    let is : prepared q op ≡ Ok p.0 = named_ok refusals.Submit (prepared q op) p.0 p.1 in
    let same : p.0.0 ≡ n = ap (λ x. x.0) g.2 in
    let f = fits.request p.0.0 p.0.1 is in
    record {
      request = p.0.1;
      is_prepared = is ∙ ap (λ k. Ok (k, p.0.1)) same;
      asks = f.0;
      sound = fits.sound;
      enters = subst (λ (k : ℕ). Enters s p.0.1 k s') same (subst (Enters s p.0.1 p.0.0) (ap (λ x. x.2) g.2) (enters s p.0.1 p.0.0 g.0 f.1 g.1));
      now = sym (ap (λ x. x.1) g.2);
    }

pub submits_at : (f : Fabric) (port : ℕ) (op : Op) (what : Seen) (f' : Fabric) → ((q : RequesterView) → part_at f.requesters port ≡ Ok q → SubmitFits q op) → submit_at f port op ≡ Ok (what, f')
    → (n : ℕ) × (what ≡ seen.Submitted n) × SubmitsAt f port op n f'
submits_at f zero op what f' fits h = absurd cc
submits_at f (suc i) op what f' fits h =
    let a = then_ok (part_at f.requesters (suc i)) _ (what, f') h in
    let b = then_ok (part_at f.up (suc i)) _ (what, f') a.2 in
    let g = given (submit_on a.0 b.0.sender op) _ (what, f') b.2 in (
      g.0.0,
      sym (ap (λ p. p.0) g.2),
      record {
        place = i;
        requester = a.0;
        lane = b.0;
        has_requester = record { is_port = refl; there = some_ok refusals.NoSuchPart (slice_get f.requesters i) a.0 a.1 };
        has_lane = record { is_port = refl; there = some_ok refusals.NoSuchPart (slice_get f.up i) b.0 b.1 };
        requester_after = g.0.1;
        sender_after = g.0.2;
        submits = submits a.0 b.0.sender op g.0.0 g.0.1 g.0.2 (fits a.0 a.1) g.1;
        now = sym (ap (λ p. p.1) g.2);
      },
    )

-- ---- Forward

pub routed : (r : ReceiverEndView) (place from to : ℕ) → destination_on r place from ≡ Ok to → IsRoutedAs r place from (Ok to)
routed r place from to h =
    let x = then_ok (item_at r place) _ to h in
    record { packet = x.0.0; mark = x.0.1; there = at_place r place x.0 x.1; is = named_ok refusals.Route (route x.0.0 from) to x.2 }

pub forwards : (r r' : ReceiverEndView) (place : ℕ) (s s' : SenderEndView) → ForwardFits r place → forward_on r place s ≡ Ok (r', s') → Forwards r r' place s s'
forwards r r' place s s' fits h =
    let x = then_ok (item_at r place) _ (r', s') h in
    let g = given (enter_on s x.0.0 x.0.1) _ (r', s') x.2 in
    let i = at_place r place x.0 x.1 in
    let e = enters s x.0.0 x.0.1 g.0 (fits.spelled x.0.0 x.0.1 x.1) g.1 in
    record { packet = x.0.0; mark = x.0.1; takeable = i.takeable; there = i.item; may = e.may; spelled = e.spelled; sent = sym (ap (λ p. p.1) g.2) ∙ e.now; left = sym (ap (λ p. p.0) g.2) }

pub forwards_up : (f : Fabric) (port place : ℕ) (what : Seen) (f' : Fabric) → ((e : LaneEndsView) → part_at f.up port ≡ Ok e → ForwardFits e.receiver place) → forward_at f (lanes.Up port) place ≡ Ok (what, f')
    → (to : ℕ) × (what ≡ seen.To to) × ForwardsUp f port place to f'
forwards_up f zero place what f' fits h = absurd cc
forwards_up f (suc i) place what f' fits h =
    let a = then_ok (part_at f.up (suc i)) _ (what, f') h in
    let d = then_ok (destination_on a.0.receiver place (suc i)) _ (what, f') a.2 in
    let zero_is : d.0 ≡ 0 = goes_inward a.0.receiver place i d.0 d.1 in
    let there : slice_get f.up i ≡ Some a.0 = some_ok refusals.NoSuchPart (slice_get f.up i) a.0 a.1 in
    let rest : forward_to f (lanes.Up (suc i)) a.0 place 0 ≡ Ok (what, f') = subst (λ (to : ℕ). forward_to f (lanes.Up (suc i)) a.0 place to ≡ Ok (what, f')) zero_is d.2 in
    let g = given (forward_on a.0.receiver place f.inward.sender) _ (what, f') rest in (
      0,
      sym (ap (λ p. p.0) g.2),
      record {
        at_place = i;
        lane = a.0;
        has_lane = record { is_port = refl; there = there };
        routed = routed a.0.receiver place (suc i) 0 (subst (λ (to : ℕ). destination_on a.0.receiver place (suc i) ≡ Ok to) zero_is d.1);
        receiver_after = g.0.0;
        sender_after = g.0.1;
        forwards = forwards a.0.receiver g.0.0 place f.inward.sender g.0.1 (fits a.0 a.1) g.1;
        now = sym (ap (λ p. p.1) g.2);
      },
    )

never_zero : (r : ReceiverEndView) (place : ℕ) → destination_on r place 0 ≡ Ok 0 → ⊥
never_zero r place h =
    let x = then_ok (item_at r place) _ 0 h in
    by_kind x.0.0 (is_completion x.0.0.kind) (is_requester (port_of x.0.0)) refl (named_ok refusals.Route (route x.0.0 0) 0 x.2)
  where
    by_kind : (t : TlpView) (c z : Bool) → is_requester (port_of t) ≡ z → (if c then (if true && z then Ok (port_of t) else Err NoPort) else (if false then Ok 0 else Err NoPort)) ≡ Ok 0 → ⊥
    by_kind t true true e k = let port : port_of t ≡ 0 = cc in grind (arith, nat_tests)
    by_kind t true false e k = absurd cc
    by_kind t false z e k = absurd cc

-- the last steps, by the port
forwards_to : (f : Fabric) (place to : ℕ) (what : Seen) (f' : Fabric) → ForwardFits f.outward.receiver place → destination_on f.outward.receiver place 0 ≡ Ok to
    → forward_to f lanes.Outward f.outward place to ≡ Ok (what, f')
    → (to : ℕ) × (what ≡ seen.To to) × ForwardsOut f place to f'
forwards_to f place zero what f' fits d h = absurd (never_zero f.outward.receiver place d)
forwards_to f place (suc i) what f' fits d h =
    let b = then_ok (or_no_port (part_at f.down (suc i))) _ (what, f') h in
    let there : part_at f.down (suc i) ≡ Ok b.0 = has_port (part_at f.down (suc i)) b.0 b.1 in
    let g = given (forward_on f.outward.receiver place b.0.sender) _ (what, f') b.2 in (
      suc i,
      sym (ap (λ p. p.0) g.2),
      record {
        at_place = i;
        lane = b.0;
        routed = routed f.outward.receiver place 0 (suc i) d;
        has_lane = record { is_port = refl; there = some_ok refusals.NoSuchPart (slice_get f.down i) b.0 there };
        receiver_after = g.0.0;
        sender_after = g.0.1;
        forwards = forwards f.outward.receiver g.0.0 place b.0.sender g.0.1 fits g.1;
        now = sym (ap (λ p. p.1) g.2);
      },
    )
  where
    has_port : (a : Result LaneEndsView Refusal) (e : LaneEndsView) → or_no_port a ≡ Ok e → a ≡ Ok e
    has_port (Ok x) e k = k
    has_port (Err r) e k = absurd cc

pub forwards_out : (f : Fabric) (place : ℕ) (what : Seen) (f' : Fabric) → ForwardFits f.outward.receiver place → forward_at f lanes.Outward place ≡ Ok (what, f') → (to : ℕ) × (what ≡ seen.To to) × ForwardsOut f place to f'
forwards_out f place what f' fits h =
    let d = then_ok (destination_on f.outward.receiver place 0) _ (what, f') h in
    forwards_to f place d.0 what f' fits d.1 d.2

-- ---- Serve

any_enters : (s : SenderEndView) (o : Option TlpView) (mark : ℕ) (s' : SenderEndView) → ((c : TlpView) → o ≡ Some c → Spells (canonical c) c) → enter_if_any s o mark ≡ Ok s' → EntersIfAny s o mark s'
any_enters s None mark s' spelled h = cc
any_enters s (Some c) mark s' spelled h = enters s c mark s' (spelled c refl) h

pub serves_at : (f : Fabric) (place : ℕ) (what : Seen) (f' : Fabric) → ServeFits f.inward.receiver place f.memory → serve_at f place ≡ Ok (what, f') → (at : ℕ) × (what ≡ seen.At at) × ServesAt f place at f'
serves_at f place what f' fits h =
    let g = given (serve_on f.inward.receiver place f.memory f.outward.sender) _ (what, f') h in
    let x = then_ok (item_at f.inward.receiver place) _ g.0 g.1 in
    let y = given (act_on f.memory x.0.0 x.0.1 f.outward.sender) _ g.0 x.2 in
    let z = given (enter_if_any f.outward.sender (completion_to f.memory x.0.0) x.0.1) _ y.0 y.1 in (
      g.0.0,
      sym (ap (λ p. p.0) g.2),
      record {
        receiver_after = g.0.1;
        memory_after = g.0.2;
        sender_after = g.0.3;
        serves = record {
          packet = x.0.0;
          mark = x.0.1;
          there = at_place f.inward.receiver place x.0 x.1;
          acts = record {
            enters = subst (EntersIfAny f.outward.sender (completion_to f.memory x.0.0) x.0.1) (ap (λ p. p.2) z.2 ∙ ap (λ p. p.3) y.2)
                (any_enters f.outward.sender (completion_to f.memory x.0.0) x.0.1 z.0 (λ c e. fits.spelled x.0.0 x.0.1 c x.1 e) z.1);
            in_history = sym (ap (λ p. p.0) z.2 ∙ ap (λ p. p.0) y.2);
            now = sym (ap (λ p. p.1) z.2 ∙ ap (λ p. p.2) y.2);
          };
          now = sym (ap (λ p. p.1) y.2);
        };
        now = sym (ap (λ p. p.1) g.2);
      },
    )

-- ---- Collect

pub first_at : (r : ReceiverEndView) (x : Item) → slice_get r.queue 0 ≡ Some x → IsAt r 0 x.0 x.1
first_at r x h = by_queue r.queue h
  where
    by_queue : (queue : List Item) → slice_get queue 0 ≡ Some x → IsAt (record r { queue = queue }) 0 x.0 x.1
    by_queue [] e = absurd cc
    by_queue (y ∷ ys) e = record { takeable = refl; item = e }

pub collects_at : (f : Fabric) (port : ℕ) (what : Seen) (f' : Fabric) → collect_at f port ≡ Ok (what, f') → (a : Answer) × (what ≡ seen.Collected a) × CollectsAt f port a f'
collects_at f zero what f' h = absurd cc
collects_at f (suc i) what f' h =
    let a = then_ok (part_at f.requesters (suc i)) _ (what, f') h in
    let b = then_ok (part_at f.down (suc i)) _ (what, f') a.2 in
    let g = given (collect_on b.0.receiver a.0) _ (what, f') b.2 in
    let x = then_ok (some_or refusals.Idle (slice_get b.0.receiver.queue 0)) _ g.0 g.1 in
    let y = given (map_err refusals.Strange (finished a.0 x.0.0)) _ g.0 x.2 in (
      g.0.0,
      sym (ap (λ p. p.0) g.2),
      record {
        place = i;
        requester = a.0;
        lane = b.0;
        has_requester = record { is_port = refl; there = some_ok refusals.NoSuchPart (slice_get f.requesters i) a.0 a.1 };
        has_lane = record { is_port = refl; there = some_ok refusals.NoSuchPart (slice_get f.down i) b.0 b.1 };
        requester_after = g.0.2;
        receiver_after = g.0.1;
        collects = record {
          packet = x.0.0;
          mark = x.0.1;
          there = first_at b.0.receiver x.0 (some_ok refusals.Idle (slice_get b.0.receiver.queue 0) x.0 x.1);
          finishes = named_ok refusals.Strange (finished a.0 x.0.0) y.0 y.1 ∙ ap Ok (ap (λ p. p.0) y.2);
          requester = sym (ap (λ p. p.2) y.2);
          now = sym (ap (λ p. p.1) y.2);
        };
        now = sym (ap (λ p. p.1) g.2);
      },
    )

-- ---- all events

pub by_parts : (f : Fabric) (event : Event) (what : Seen) (f' : Fabric) → Happens f event what f' → HappensByParts f event what f'
by_parts f (events.Submit port op) what f' h = submits_at f port op what f' h.1 h.0
by_parts f (events.Transmit name) what f' h = links_at f name links.Transmit what f' h.0
by_parts f (events.Deliver name fate) what f' h = links_at f name (links.Deliver fate) what f' h.0
by_parts f (events.SendDllp name kind) what f' h = links_at f name (links.SendDllp kind) what f' h.0
by_parts f (events.DeliverDllp name fate) what f' h = links_at f name (links.DeliverDllp fate) what f' h.0
by_parts f (events.Timer name) what f' h = links_at f name links.Timer what f' h.0
by_parts f (events.Retrained name) what f' h = links_at f name links.Retrained what f' h.0
by_parts f (events.Forward (lanes.Up port) place) what f' h = forwards_up f port place what f' h.1 h.0
by_parts f (events.Forward lanes.Outward place) what f' h = forwards_out f place what f' (h.1 f.outward refl) h.0
by_parts f (events.Forward lanes.Inward place) what f' h = absurd cc
by_parts f (events.Forward (lanes.Down port) place) what f' h = absurd cc
by_parts f (events.Serve place) what f' h = serves_at f place what f' h.1 h.0
by_parts f (events.Collect port) what f' h = collects_at f port what f' h.0
