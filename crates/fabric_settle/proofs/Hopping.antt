-- What each event does to the hops that are left.
use Rattle.std.proofs.Common.{ℕ, ◌≡◌, ◌+◌, Bool, true, false, List, refl, sym, ap, ◌∙◌, subst, arith, Option, Some, None, Ok, if◌then◌else◌}
use Rattle.std.specs.Prelude.{slice_get, slice_set, is_some}
use Rattle.std.specs.List.{sum_by}
use Rattle.dllp_core.specs.declared.packet.Class.TheVariants.{Posted}
use Rattle.tlp_core.specs.TlpView.{TlpView}
use Rattle.tlp_core.specs.Operation.{op_of}
use Rattle.completer_core.specs.Serving.{completion_to}
use Rattle.requester_core.specs.Answers.{Answer}
use Rattle.flow_control.specs.declared.limits.LaneCredits.{LaneCredits}
use Rattle.flow_control.specs.Needs.{class_of}
use Rattle.flow_control.specs.Credits.{same}
use Rattle.switch_core.specs.Forwarding.{Forwards}
use Rattle.lane_core.specs.Steps.{LaneEndsView, ReceiverEndView, SenderEndView}
use Rattle.lane_core.specs.Calls.{content, on_the_way, IsRightWith}
use Rattle.fabric_steps.specs.Fabric.{Fabric}
use Rattle.fabric_steps.specs.ListFacts.{get_before}
use Rattle.fabric_steps.specs.Routed.{IsRouted}
use Rattle.fabric_steps.specs.Event.{Event, Seen}
use Rattle.fabric_steps.specs.declared.event.EventOf.TheVariants as events
use Rattle.fabric_steps.specs.declared.event.LaneName.{LaneName}
use Rattle.fabric_steps.specs.declared.event.LaneName.TheVariants as lanes
use Rattle.fabric_steps.specs.declared.event.LinkEvent.{LinkEvent}
use Rattle.fabric_steps.specs.declared.event.LinkEvent.TheVariants as links
use Rattle.fabric_core.specs.Answers.{answer, Happens}
use Rattle.fabric_core.specs.ByParts.{IsAt, Enters, EntersIfAny, LinksIn, LinksAt, ForwardsUp, ForwardsOut, ServesAt, CollectsAt, HappensByParts}
use Rattle.fabric_core.specs.Kept.{IsSoundFabric, IsNoSubmission, down_credits}
use Rattle.fabric_settle.specs.Hops.{hops_of, hops_in, hops_left, IsHop, IsOfLink}
use Rattle.fabric_settle.proofs.Contents.{KeepsContent, sum_set, enters_hops, takes_hops, links_hops}
use Rattle.fabric_settle.proofs.Served.{hops_if_any, served_hops}

-- the laws of the layers below
pub record Laws : Type 0 where
  pub keeps : KeepsContent
  pub asks : (f : Fabric) (place mark : ℕ) (t : TlpView) → IsRouted f → slice_get (content f.inward) place ≡ Some (t, mark) → is_some (op_of t) ≡ true
  pub happens : (f f' : Fabric) (event : Event) (what : Seen) → IsSoundFabric f → IsNoSubmission event → answer f event ≡ Ok (what, f') → Happens f event what f'
  pub parts : (f f' : Fabric) (event : Event) (what : Seen) → Happens f event what f' → HappensByParts f event what f'

-- ---- numbers

-- a packet leaves one of the `up` lanes and enters `in`
up_numbers : (u u' l l' i i' rest a b : ℕ) → u' + l ≡ u + l' → l' + b ≡ l → i' ≡ i + a → a + 1 ≡ b → u' + (i' + rest) + 1 ≡ u + (i + rest)
up_numbers u u' l l' i i' rest a b p q r s = omega arith

-- a request leaves `in`, and its completion enters `out`
serve_numbers : (u i i' o o' d a b : ℕ) → i' + b ≡ i → o' ≡ o + a → a + 1 ≡ b → u + (i' + (o' + d)) + 1 ≡ u + (i + (o + d))
serve_numbers u i i' o o' d a b p q r = omega arith

-- a completion leaves `out` and enters one of the `down` lanes
out_numbers : (u i o o' l l' d d' : ℕ) → o' + 2 ≡ o → d' + l ≡ d + l' → l' ≡ l + 1 → u + (i + (o' + d')) + 1 ≡ u + (i + (o + d))
out_numbers u i o o' l l' d d' p q r = omega arith

-- a completion leaves one of the `down` lanes
down_numbers : (u i o l l' d d' : ℕ) → d' + l ≡ d + l' → l' + 1 ≡ l → u + (i + (o + d')) + 1 ≡ u + (i + (o + d))
down_numbers u i o l l' d d' p q = omega arith

unmoved : (d d' l l' : ℕ) → d' + l ≡ d + l' → l' ≡ l → d' ≡ d
unmoved d d' l l' p q = omega arith

-- ---- a packet

one_more : (b : Bool) → (if b then 1 else 3) + 1 ≡ (if b then 2 else 4)
one_more true = refl
one_more false = refl

either : (n : ℕ) (b : Bool) → (if b then n else n) ≡ n
either n true = refl
either n false = refl

-- ---- hops

up_hop : Laws → (f : Fabric) (port place to : ℕ) (f' : Fabric) → IsSoundFabric f → ForwardsUp f port place to f' → hops_left f' + 1 ≡ hops_left f
up_hop l f port place to f' s h =
    let t = h.forwards.packet in
    let m = h.forwards.mark in
    let lane' : LaneEndsView = record h.lane { receiver = h.receiver_after } in
    let inward' : LaneEndsView = record f.inward { sender = h.sender_after } in
    subst (λ (g : Fabric). hops_left g + 1 ≡ hops_left f) (sym h.now)
    (up_numbers (sum_by (hops_in 2 4) f.up) (sum_by (hops_in 2 4) (slice_set f.up h.at_place lane')) (hops_in 2 4 h.lane) (hops_in 2 4 lane') (hops_in 1 3 f.inward) (hops_in 1 3 inward')
    (hops_in 2 2 f.outward + sum_by (hops_in 1 1) f.down) (hops_of 1 3 (t, m)) (hops_of 2 4 (t, m))
    (sum_set (hops_in 2 4) f.up h.at_place h.lane lane' h.has_lane.there)
    (takes_hops l.keeps 2 4 f.credits h.lane place m t h.receiver_after (s.up h.at_place h.lane h.has_lane.there) (record { takeable = h.forwards.takeable; item = h.forwards.there }) h.forwards.left)
    (enters_hops l.keeps 1 3 f.credits f.inward t m h.sender_after s.inward (record { may = h.forwards.may; spelled = h.forwards.spelled; now = h.forwards.sent }))
    (one_more (same (class_of t.kind) Posted)))

any_enters : Laws → (f : Fabric) (o : Option TlpView) (mark : ℕ) (s' : SenderEndView) → IsSoundFabric f → EntersIfAny f.outward.sender o mark s' → hops_in 2 2 (record f.outward { sender = s' }) ≡ hops_in 2 2 f.outward + hops_if_any o
any_enters l f None mark s' s h = subst (λ (x : SenderEndView). hops_in 2 2 (record f.outward { sender = x }) ≡ hops_in 2 2 f.outward + 0) (sym h) (nothing (hops_in 2 2 f.outward))
  where
    nothing : (n : ℕ) → n ≡ n + 0
    nothing n = omega arith
any_enters l f (Some c) mark s' s h =
    enters_hops l.keeps 2 2 f.credits f.outward c mark s' s.outward h ∙ ap (λ n. hops_in 2 2 f.outward + n) (either 2 (same (class_of c.kind) Posted))

serve_hop : Laws → (f : Fabric) (place at : ℕ) (f' : Fabric) → IsSoundFabric f → ServesAt f place at f' → hops_left f' + 1 ≡ hops_left f
serve_hop l f place at f' s h =
    let t = h.serves.packet in
    let m = h.serves.mark in
    subst (λ (g : Fabric). hops_left g + 1 ≡ hops_left f) (sym h.now)
    (serve_numbers (sum_by (hops_in 2 4) f.up) (hops_in 1 3 f.inward) (hops_in 1 3 (record f.inward { receiver = h.receiver_after })) (hops_in 2 2 f.outward) (hops_in 2 2 (record f.outward { sender = h.sender_after }))
    (sum_by (hops_in 1 1) f.down) (hops_if_any (completion_to f.memory t)) (hops_of 1 3 (t, m))
    (takes_hops l.keeps 1 3 f.credits f.inward place m t h.receiver_after s.inward h.serves.there h.serves.now)
    (any_enters l f (completion_to f.memory t) m h.sender_after s h.serves.acts.enters)
    (served_hops f.memory t m (l.asks f place m t s.routed (get_before f.inward.receiver.queue (on_the_way f.inward) place (t, m) h.serves.there.item))))

out_hop : Laws → (f : Fabric) (place to : ℕ) (f' : Fabric) → IsSoundFabric f → ForwardsOut f place to f' → hops_left f' + 1 ≡ hops_left f
out_hop l f place to f' s h =
    let t = h.forwards.packet in
    let m = h.forwards.mark in
    let b = same (class_of t.kind) Posted in
    let lane' : LaneEndsView = record h.lane { sender = h.sender_after } in
    subst (λ (g : Fabric). hops_left g + 1 ≡ hops_left f) (sym h.now)
    (out_numbers (sum_by (hops_in 2 4) f.up) (hops_in 1 3 f.inward) (hops_in 2 2 f.outward) (hops_in 2 2 (record f.outward { receiver = h.receiver_after })) (hops_in 1 1 h.lane) (hops_in 1 1 lane')
    (sum_by (hops_in 1 1) f.down) (sum_by (hops_in 1 1) (slice_set f.down h.at_place lane'))
    (ap (λ n. hops_in 2 2 (record f.outward { receiver = h.receiver_after }) + n) (sym (either 2 b))
    ∙ takes_hops l.keeps 2 2 f.credits f.outward place m t h.receiver_after s.outward (record { takeable = h.forwards.takeable; item = h.forwards.there }) h.forwards.left)
    (sum_set (hops_in 1 1) f.down h.at_place h.lane lane' h.has_lane.there)
    (enters_hops l.keeps 1 1 (down_credits f.credits) h.lane t m h.sender_after (s.down h.at_place h.lane h.has_lane.there) (record { may = h.forwards.may; spelled = h.forwards.spelled; now = h.forwards.sent })
    ∙ ap (λ n. hops_in 1 1 h.lane + n) (either 1 b)))

collect_hop : Laws → (f : Fabric) (port : ℕ) (a : Answer) (f' : Fabric) → IsSoundFabric f → CollectsAt f port a f' → hops_left f' + 1 ≡ hops_left f
collect_hop l f port a f' s h =
    let t = h.collects.packet in
    let m = h.collects.mark in
    let lane' : LaneEndsView = record h.lane { receiver = h.receiver_after } in
    subst (λ (g : Fabric). hops_left g + 1 ≡ hops_left f) (sym h.now)
    (down_numbers (sum_by (hops_in 2 4) f.up) (hops_in 1 3 f.inward) (hops_in 2 2 f.outward) (hops_in 1 1 h.lane) (hops_in 1 1 lane') (sum_by (hops_in 1 1) f.down) (sum_by (hops_in 1 1) (slice_set f.down h.place lane'))
    (sum_set (hops_in 1 1) f.down h.place h.lane lane' h.has_lane.there)
    (ap (λ n. hops_in 1 1 lane' + n) (sym (either 1 (same (class_of t.kind) Posted)))
    ∙ takes_hops l.keeps 1 1 (down_credits f.credits) h.lane 0 m t h.receiver_after (s.down h.place h.lane h.has_lane.there) h.collects.there h.collects.now))

forward_hop : Laws → (f : Fabric) (name : LaneName) (place : ℕ) (what : Seen) (f' : Fabric) → IsSoundFabric f → HappensByParts f (events.Forward name place) what f' → hops_left f' + 1 ≡ hops_left f
forward_hop l f (lanes.Up port) place what f' s h = up_hop l f port place h.0 f' s h.2
forward_hop l f (lanes.Down port) place what f' s h = absurd h
forward_hop l f lanes.Inward place what f' s h = absurd h
forward_hop l f lanes.Outward place what f' s h = out_hop l f place h.0 f' s h.2

pub hop : Laws → (f f' : Fabric) (event : Event) (what : Seen) → IsSoundFabric f → IsHop event → answer f event ≡ Ok (what, f') → hops_left f' + 1 ≡ hops_left f
hop l f f' (events.Submit port op) what s is h = absurd is
hop l f f' (events.Transmit name) what s is h = absurd is
hop l f f' (events.Deliver name fate) what s is h = absurd is
hop l f f' (events.SendDllp name kind) what s is h = absurd is
hop l f f' (events.DeliverDllp name fate) what s is h = absurd is
hop l f f' (events.Timer name) what s is h = absurd is
hop l f f' (events.Retrained name) what s is h = absurd is
hop l f f' (events.Forward name place) what s is h = forward_hop l f name place what f' s (l.parts f f' (events.Forward name place) what (l.happens f f' (events.Forward name place) what s tt h))
hop l f f' (events.Serve place) what s is h =
    let k = l.parts f f' (events.Serve place) what (l.happens f f' (events.Serve place) what s tt h) in
    serve_hop l f place k.0 f' s k.2
hop l f f' (events.Collect port) what s is h =
    let k = l.parts f f' (events.Collect port) what (l.happens f f' (events.Collect port) what s tt h) in
    collect_hop l f port k.0 f' s k.2

-- ---- calls of a link

-- one of the lanes of a list is left by hops that its packets need
lanes_stay : KeepsContent → (posted other : ℕ) (credits : LaneCredits) (es : List LaneEndsView) → ((i : ℕ) (e : LaneEndsView) → slice_get es i ≡ Some e → IsRightWith credits e) → (port : ℕ) (event : LinkEvent) (what : Seen) (es' : List LaneEndsView)
    → LinksIn es port event what es' → sum_by (hops_in posted other) es' ≡ sum_by (hops_in posted other) es
lanes_stay law posted other credits es right port event what es' h =
    subst (λ (xs : List LaneEndsView). sum_by (hops_in posted other) xs ≡ sum_by (hops_in posted other) es) (sym h.now)
    (unmoved (sum_by (hops_in posted other) es) (sum_by (hops_in posted other) (slice_set es h.place h.lane_after)) (hops_in posted other h.lane) (hops_in posted other h.lane_after)
    (sum_set (hops_in posted other) es h.place h.lane h.lane_after h.has_lane.there)
    (links_hops law posted other credits h.lane event what h.lane_after (right h.place h.lane h.has_lane.there) h.links))

link_stays : Laws → (f : Fabric) (name : LaneName) (event : LinkEvent) (what : Seen) (f' : Fabric) → IsSoundFabric f → LinksAt f name event what f' → hops_left f' ≡ hops_left f
link_stays l f (lanes.Up port) event what f' s h =
    ap hops_left h.now ∙ ap (λ n. n + (hops_in 1 3 f.inward + (hops_in 2 2 f.outward + sum_by (hops_in 1 1) f.down))) (lanes_stay l.keeps 2 4 f.credits f.up s.up port event what h.lanes h.links)
link_stays l f (lanes.Down port) event what f' s h =
    ap hops_left h.now ∙ ap (λ n. sum_by (hops_in 2 4) f.up + (hops_in 1 3 f.inward + (hops_in 2 2 f.outward + n))) (lanes_stay l.keeps 1 1 (down_credits f.credits) f.down s.down port event what h.lanes h.links)
link_stays l f lanes.Inward event what f' s h =
    ap hops_left h.now ∙ ap (λ n. sum_by (hops_in 2 4) f.up + (n + (hops_in 2 2 f.outward + sum_by (hops_in 1 1) f.down))) (links_hops l.keeps 1 3 f.credits f.inward event what h.lane s.inward h.links)
link_stays l f lanes.Outward event what f' s h =
    ap hops_left h.now ∙ ap (λ n. sum_by (hops_in 2 4) f.up + (hops_in 1 3 f.inward + (n + sum_by (hops_in 1 1) f.down))) (links_hops l.keeps 2 2 f.credits f.outward event what h.lane s.outward h.links)

pub link : Laws → (f f' : Fabric) (event : Event) (what : Seen) → IsSoundFabric f → IsOfLink event → answer f event ≡ Ok (what, f') → hops_left f' ≡ hops_left f
link l f f' (events.Submit port op) what s is h = absurd is
link l f f' (events.Forward name place) what s is h = absurd is
link l f f' (events.Serve place) what s is h = absurd is
link l f f' (events.Collect port) what s is h = absurd is
link l f f' (events.Transmit name) what s is h = link_stays l f name links.Transmit what f' s (l.parts f f' (events.Transmit name) what (l.happens f f' (events.Transmit name) what s tt h))
link l f f' (events.Deliver name fate) what s is h = link_stays l f name (links.Deliver fate) what f' s (l.parts f f' (events.Deliver name fate) what (l.happens f f' (events.Deliver name fate) what s tt h))
link l f f' (events.SendDllp name kind) what s is h = link_stays l f name (links.SendDllp kind) what f' s (l.parts f f' (events.SendDllp name kind) what (l.happens f f' (events.SendDllp name kind) what s tt h))
link l f f' (events.DeliverDllp name fate) what s is h = link_stays l f name (links.DeliverDllp fate) what f' s (l.parts f f' (events.DeliverDllp name fate) what (l.happens f f' (events.DeliverDllp name fate) what s tt h))
link l f f' (events.Timer name) what s is h = link_stays l f name links.Timer what f' s (l.parts f f' (events.Timer name) what (l.happens f f' (events.Timer name) what s tt h))
link l f f' (events.Retrained name) what s is h = link_stays l f name links.Retrained what f' s (l.parts f f' (events.Retrained name) what (l.happens f f' (events.Retrained name) what s tt h))
