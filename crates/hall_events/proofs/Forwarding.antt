-- The laws of packets that go on as one.
use Rattle.std.proofs.Common.{◌≡◌, ◌≢◌, ◌+◌, ◌<◌, ◌≤◌, ℕ, List, [], ◌∷◌, Ok, sym, subst, arith, ⊎_elim}
use Rattle.lane_core.specs.Steps.{ReceiverEndView, SenderEndView}
use Rattle.fabric_steps.specs.declared.event.EventOf.TheVariants as events
use Rattle.fabric_steps.specs.declared.event.LaneName.{LaneName}
use Rattle.fabric_steps.specs.declared.event.LaneName.TheVariants as lanes
use Rattle.fabric_steps.specs.declared.event.SeenOf.TheVariants.{To}
use Rattle.hall_laws.specs.declared.part.PartValue.TheVariants.{Sender, Receiver}
use Rattle.hall_laws.specs.declared.token.Token.{Token}
use Rattle.hall_laws.specs.Causes.{KnownHolding, UpHasNoWay, UpIsKept, OutHasNoWay, OutHasNoLane, OutIsKept}
use Rattle.hall_laws.specs.Duties.{ForwardUpOwes, ForwardOutOwes}
use Rattle.hall_laws.specs.Parts.{lane_slot, slot, IsLaneName}
use Rattle.hall_laws.specs.Rule.{Goes, after_silent}
use Rattle.hall_laws.specs.Shows.{MayRefuse}
use Rattle.fabric_core.specs.Answers.{Refuses, lane_grows, forward_on, ForwardFits}
use Rattle.hall_events.specs.Ways.{LeadsIn, Leads, ForwardOwes, ForwardIsRefused, PacketHasNoWay}

-- the next lane is one of the fabric, and its sender's end has a slot of its own
pub next_lane : (count : ℕ) (name next : LaneName) (r : ReceiverEndView) (place to : ℕ) → LeadsIn count name → Leads count name r place to next → IsLaneName count name × IsLaneName count next × (lane_slot name + 3 ≢ lane_slot next)
next_lane count (lanes.Up port) next r place to named leads = subst (λ (n : LaneName). IsLaneName count (lanes.Up port) × IsLaneName count n × (slot port 1 + 3 ≢ lane_slot n)) (sym leads.1) (named, tt, λ z. omega (arith, z))
next_lane count lanes.Outward next r place to named leads = subst (λ (n : LaneName). IsLaneName count lanes.Outward × IsLaneName count n × (8 ≢ lane_slot n)) (sym leads.1) (tt, (leads.2, leads.3), λ z. let p = leads.2 in omega (arith, z, p))
next_lane count lanes.Inward next r place to named leads = absurd named
next_lane count (lanes.Down port) next r place to named leads = absurd named

pub named_lane : (count : ℕ) (name : LaneName) → LeadsIn count name → IsLaneName count name
named_lane count (lanes.Up port) named = named
named_lane count lanes.Outward named = tt
named_lane count lanes.Inward named = absurd named
named_lane count (lanes.Down port) named = absurd named

pub forward_owes : ForwardUpOwes → ForwardOutOwes → ForwardOwes
forward_owes up out t (lanes.Up port) next place to r r' s s' named leads =
    subst (λ (n : LaneName). t.held ≡ (lane_slot n, Sender s) ∷ ((slot port 1 + 3, Receiver r) ∷ []) → forward_on r place s ≡ Ok (r', s') → ForwardFits r place → Goes (events.Forward (lanes.Up port) place) (To to) t (slot port 1 + 3) (Receiver r') (after_silent (events.Forward (lanes.Up port) place) (To to) ((lane_slot n, Sender s') ∷ []) t)) (sym leads.1)
    (λ held did fits. up t port place to r r' s s' named held leads.0 did fits)
forward_owes up out t lanes.Outward next place to r r' s s' named leads =
    subst (λ (n : LaneName). t.held ≡ (lane_slot n, Sender s) ∷ ((8, Receiver r) ∷ []) → forward_on r place s ≡ Ok (r', s') → ForwardFits r place → Goes (events.Forward lanes.Outward place) (To to) t 8 (Receiver r') (after_silent (events.Forward lanes.Outward place) (To to) ((lane_slot n, Sender s') ∷ []) t)) (sym leads.1)
    (λ held did fits. out t place to r r' s s' (leads.2, leads.3) held leads.0 did fits)
forward_owes up out t lanes.Inward next place to r r' s s' named leads = absurd named
forward_owes up out t (lanes.Down port) next place to r r' s s' named leads = absurd named

pub forward_refused : UpIsKept → OutIsKept → ForwardIsRefused
forward_refused up out t ts (lanes.Up port) next place to r s why named leads =
    subst (λ (n : LaneName). KnownHolding t ts ((lane_slot n, Sender s) ∷ ((slot port 1 + 3, Receiver r) ∷ [])) → Refuses lane_grows (forward_on r place s) why → MayRefuse t.knows (events.Forward (lanes.Up port) place) why) (sym leads.1)
    (λ known h. up t ts port place to r s why named known leads.0 h)
forward_refused up out t ts lanes.Outward next place to r s why named leads =
    subst (λ (n : LaneName). KnownHolding t ts ((lane_slot n, Sender s) ∷ ((8, Receiver r) ∷ [])) → Refuses lane_grows (forward_on r place s) why → MayRefuse t.knows (events.Forward lanes.Outward place) why) (sym leads.1)
    (λ known h. out t ts place to r s why (leads.2, leads.3) known leads.0 h)
forward_refused up out t ts lanes.Inward next place to r s why named leads = absurd named
forward_refused up out t ts (lanes.Down port) next place to r s why named leads = absurd named

pub no_way : UpHasNoWay → OutHasNoWay → OutHasNoLane → PacketHasNoWay
no_way up out none t ts (lanes.Up port) place r why named known h = up t ts port place r why named known h
no_way up out none t ts lanes.Outward place r why named known h =
    ⊎_elim (λ z. out t ts place r why known z) (λ z. subst (MayRefuse t.knows (events.Forward lanes.Outward place)) (sym z.0) (none t ts place z.1 r known z.2 z.3)) h
no_way up out none t ts lanes.Inward place r why named known h = absurd named
no_way up out none t ts (lanes.Down port) place r why named known h = absurd named
