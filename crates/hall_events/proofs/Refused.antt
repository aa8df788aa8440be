-- Refusals.
use Rattle.std.proofs.Common.{◌≡◌, ◌≢◌, ℕ, zero, suc, ◌<◌, ◌≤◌, List, length, Result, Ok, Err, Option, Some, None, inl, sym, refl, ◌∙◌, subst, arith, lt_of_not-le, ⊎_elim}
use Rattle.std.proofs.lemmas.Option.{slice_get_past}
use Rattle.std.specs.Prelude.{slice_get}
use native.Mathlib.Decide.{dec_le}
use Rattle.requester_core.specs.declared.fault.CompletionFault.{CompletionFault}
use Rattle.requester_core.specs.Answers.{Answer}
use Rattle.requester_core.specs.RequesterView.{RequesterView, finished}
use Rattle.lane_core.specs.Steps.{ReceiverEndView}
use Rattle.fabric_steps.specs.Fabric.{Fabric}
use Rattle.fabric_steps.specs.Event.{Event}
use Rattle.fabric_steps.specs.declared.event.EventOf.TheVariants as events
use Rattle.fabric_steps.specs.declared.event.LaneName.{LaneName}
use Rattle.fabric_steps.specs.declared.event.LaneName.TheVariants as lanes
use Rattle.fabric_steps.specs.declared.event.LinkEvent.{LinkEvent}
use Rattle.fabric_steps.specs.declared.event.LinkEvent.TheVariants as links
use Rattle.fabric_steps.specs.declared.fault.Refusal.{Refusal}
use Rattle.fabric_steps.specs.declared.fault.Refusal.TheVariants.{NoSuchPart, Idle, Strange}
use Rattle.fabric_core.specs.Answers.{part_at, lane_at, and_then, map_ok, map_err, some_or, collect_on}
use Rattle.fabric_core.specs.Steps.{HasLanes, Refused}
use Rattle.hall_laws.specs.Parts.{IsLaneName}
use Rattle.hall_events.specs.Works.{link_event}
use Rattle.fabric_core.specs.Kept.{IsSoundFabric, IsPossible}
use Rattle.hall_laws.specs.declared.token.Knowledge.{Knowledge}
use Rattle.hall_laws.specs.Shows.{MayRefuse}
use Rattle.hall_events.specs.declared.refusal.HallRefusal.{HallRefusal}
use Rattle.hall_events.specs.declared.refusal.HallRefusal.TheVariants.{Busy, Core}
use Rattle.hall_events.specs.Refusals.{HasNoPart, IsRefused, IsPossibleInHall, RefusalsArePossible}

-- a part that isn't there
no_part : {X : Type 0} (parts : List X) (port count : ℕ) → ((0 < port) × (port ≤ count) → ⊥) → length parts ≡ count → part_at parts port ≡ Err NoSuchPart
no_part parts zero count none same = refl
no_part parts (suc i) count none same = rw (slice_get_past parts i (past (dec_le (suc i) count))) refl
  where
    past : Dec (suc i ≤ count) → length parts ≤ i
    past (yes small) = absurd (none (omega arith, small))
    past (no big) = let b = lt_of_not-le big in omega arith

missing : (f : Fabric) (count : ℕ) → HasLanes f → length f.requesters ≡ count → (name : LaneName) → (IsLaneName count name → ⊥) → lane_at f name ≡ Err NoSuchPart
missing f count h many (lanes.Up port) none = no_part f.up port count none (h.up ∙ many)
missing f count h many (lanes.Down port) none = no_part f.down port count none (h.down ∙ many)
missing f count h many lanes.Inward none = absurd (none tt)
missing f count h many lanes.Outward none = absurd (none tt)

pub no_lane : (count : ℕ) (name : LaneName) (link : LinkEvent) → (IsLaneName count name → ⊥) → HasNoPart count (link_event name link) NoSuchPart
no_lane count name link none = (refl, λ f h many. refused f h many link)
  where
    refused : (f : Fabric) → HasLanes f → length f.requesters ≡ count → (link : LinkEvent) → Refused f (link_event name link) NoSuchPart
    refused f h many links.Transmit = rw (missing f count h many name none) refl
    refused f h many (links.Deliver fate) = rw (missing f count h many name none) refl
    refused f h many (links.SendDllp kind) = rw (missing f count h many name none) refl
    refused f h many (links.DeliverDllp fate) = rw (missing f count h many name none) refl
    refused f h many links.Timer = rw (missing f count h many name none) refl
    refused f h many links.Retrained = rw (missing f count h many name none) refl

pub no_up : (count port place : ℕ) → ((0 < port) × (port ≤ count) → ⊥) → HasNoPart count (events.Forward (lanes.Up port) place) NoSuchPart
no_up count port place none = (refl, λ f h many. rw (missing f count h many (lanes.Up port) none) refl)

-- ---- what is never answered

abbrev pub OnlyPossible : Type 0
OnlyPossible = (f : Fabric) (event : Event) (r : Refusal) → IsSoundFabric f → Refused f event r → IsPossible r

pub possible : OnlyPossible → (w : Knowledge) (event : Event) (r : HallRefusal) → IsRefused w event r → IsPossibleInHall r
possible law w event (Busy part word) why = tt
possible law w event (Core r) why = ⊎_elim
    (λ (m : MayRefuse w event r). law m.0.fabric event r m.1.sound m.3)
    (λ (n : HasNoPart w.config.requesters event r). subst IsPossible (sym n.0) tt)
    why

-- ---- why a completion isn't collected

first_of : {X B : Type 0} (o : Option X) (go : X → Result B Refusal) (r : Refusal) → and_then (some_or Idle o) go ≡ Err r → r ≢ Idle → (x : X) × (go x ≡ Err r)
first_of None go r is other = absurd (other (let e : ◌≡◌ {A = Result _ Refusal} (Err Idle) (Err r) = is in cc))
first_of (Some x) go r is other = (x, is)

stranger : {B : Type 0} (f : Result Answer CompletionFault) (g : Answer → B) (r : Refusal) → map_ok (map_err Strange f) g ≡ Err r → (fault : CompletionFault) × (r ≡ Strange fault)
stranger (Ok a) g r is = absurd (cc)
stranger (Err e) g r is = (e, cc)

-- one that has arrived is never refused
pub uncollected : RefusalsArePossible → (w : Knowledge) (port : ℕ) (v : ReceiverEndView) (q : RequesterView) (r : Refusal) → collect_on v q ≡ Err r → r ≢ Idle → MayRefuse w (events.Collect port) r → ⊥
uncollected law w port v q r is other may =
    let x = first_of (slice_get v.queue 0) _ r is other in
    let s = stranger (finished q x.0.0) _ r x.1 in
    subst IsPossible s.1 (law w (events.Collect port) (Core r) (inl may))
