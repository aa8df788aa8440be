-- The laws of the events of a link as one.
use Rattle.std.proofs.Common.{◌≡◌, ◌≢◌, ◌+◌, ℕ, List, [], ◌∷◌, Option, Some, None, Result, Ok, Err, refl, sym, subst, arith}
use Rattle.lane_core.specs.declared.packet.Fate.{Fate}
use Rattle.lane_core.specs.declared.packet.DllpKind.{DllpKind}
use Rattle.fabric_steps.specs.declared.event.EventOf.TheVariants as events
use Rattle.fabric_steps.specs.declared.event.LaneName.{LaneName}
use Rattle.fabric_steps.specs.declared.event.LinkEvent.{LinkEvent}
use Rattle.fabric_steps.specs.declared.event.LinkEvent.TheVariants as links
use Rattle.fabric_steps.specs.Event.{Seen}
use Rattle.fabric_steps.specs.declared.event.SeenOf.TheVariants as seen
use Rattle.fabric_steps.specs.declared.fault.Refusal.{Refusal}
use Rattle.fabric_steps.specs.declared.fault.Refusal.TheVariants.{Idle}
use Rattle.fabric_core.specs.Answers.{Refuses, link_grows, lane_grows, arrival_grows, transmit_on, deliver_on, send_dllp_on, deliver_dllp_on, timer_on, retrained_on}
use Rattle.hall_laws.specs.declared.part.Part.{Part}
use Rattle.hall_laws.specs.declared.part.Part.TheVariants as parts
use Rattle.hall_laws.specs.declared.part.PartValue.{PartValue}
use Rattle.hall_laws.specs.declared.part.PartValue.TheVariants.{Sender, Forward, Back, Receiver}
use Rattle.hall_laws.specs.declared.token.Token.{Token}
use Rattle.hall_laws.specs.Causes.{KnownHolding, TransmitIsRefused, SenderHasNothing, DeliverIsRefused, WireHasNothing, SendDllpIsRefused, DeliverDllpIsRefused, BackHasNothing, TimerIsRefused, RetrainedIsRefused}
use Rattle.hall_laws.specs.Duties.{KnowsLane, TransmitOwes, DeliverOwes, SendDllpOwes, DeliverDllpOwes, TimerOwes, RetrainedOwes}
use Rattle.hall_laws.specs.Parts.{lane_slot, part_slot, IsLaneName, IsPartName, IsPartValue}
use Rattle.hall_laws.specs.Rule.{Goes, after_silent}
use Rattle.hall_laws.specs.Shows.{MayRefuse}
use Rattle.hall_events.specs.Acts.{acts, acts_alone, AreEnds, HasNothing}
use Rattle.hall_events.specs.Ends.{ends_of, LinkOwes, LinkIsRefused, LinkHasNothing, AloneOwes, AloneIsRefused}
use Rattle.hall_events.specs.Works.{link_event}
use Rattle.hall_events.proofs.Mapped.{over, of_ok, of_err, of_refused, of_error}

same_some : {A : Type 0} {x y : A} → ◌≡◌ {A = Option A} (Some x) (Some y) → x ≡ y
same_some h = cc

-- what holds of the ends of each event that uses two
by_ends : (name : LaneName) (P : LinkEvent → Part → Part → Type 0) → P links.Transmit (parts.SenderEnd name) (parts.ForwardWire name)
    → ((fate : Fate) → P (links.Deliver fate) (parts.ForwardWire name) (parts.ReceiverEnd name))
    → ((kind : DllpKind) → P (links.SendDllp kind) (parts.ReceiverEnd name) (parts.BackWire name))
    → ((fate : Fate) → P (links.DeliverDllp fate) (parts.BackWire name) (parts.SenderEnd name))
    → (event : LinkEvent) (first second : Part) → ends_of name event ≡ Some (first, second) → P event first second
by_ends name P a b c d links.Transmit first second is = subst (λ (p : Part × Part). P links.Transmit p.0 p.1) (same_some is) a
by_ends name P a b c d (links.Deliver fate) first second is = subst (λ (p : Part × Part). P (links.Deliver fate) p.0 p.1) (same_some is) (b fate)
by_ends name P a b c d (links.SendDllp kind) first second is = subst (λ (p : Part × Part). P (links.SendDllp kind) p.0 p.1) (same_some is) (c kind)
by_ends name P a b c d (links.DeliverDllp fate) first second is = subst (λ (p : Part × Part). P (links.DeliverDllp fate) p.0 p.1) (same_some is) (d fate)
by_ends name P a b c d links.Timer first second is = absurd (cc)
by_ends name P a b c d links.Retrained first second is = absurd (cc)

-- the slots of an event's ends are two
pub ends_apart : (name : LaneName) (event : LinkEvent) (first second : Part) → ends_of name event ≡ Some (first, second) → part_slot first ≢ part_slot second
ends_apart name = by_ends name (λ event first second. part_slot first ≢ part_slot second) (λ z. omega (arith, z)) (λ fate z. omega (arith, z)) (λ kind z. omega (arith, z)) (λ fate z. omega (arith, z))

-- and they are those of the lane, with values of the kinds that the event uses
pub ends_named : (count : ℕ) (name : LaneName) → IsLaneName count name → (event : LinkEvent) (first second : Part) → ends_of name event ≡ Some (first, second) → IsPartName count first × IsPartName count second
ends_named count name named = by_ends name (λ event first second. IsPartName count first × IsPartName count second) (named, named) (λ fate. (named, named)) (λ kind. (named, named)) (λ fate. (named, named))

pub ends_are : (name : LaneName) (event : LinkEvent) (first second : Part) → ends_of name event ≡ Some (first, second) → (one two : PartValue) → IsPartValue first one → IsPartValue second two → AreEnds event one two
ends_are name = by_ends name (λ event first second. (one two : PartValue) → IsPartValue first one → IsPartValue second two → AreEnds event one two) (λ one two a b. (a, b)) (λ fate one two a b. (a, b)) (λ kind one two a b. (a, b)) (λ fate one two a b. (a, b))

abbrev Owed : LaneName → LinkEvent → Part → Part → Type 0
Owed name event first second = (t : Token) (one two one' two' : PartValue) (what : Seen) → KnowsLane t name → AreEnds event one two
    → t.held ≡ (part_slot second, two) ∷ ((part_slot first, one) ∷ []) → acts event one two ≡ Ok (what, one', two')
    → Goes (link_event name event) what t (part_slot first) one' (after_silent (link_event name event) what ((part_slot second, two') ∷ []) t)

pub link_owes : TransmitOwes → DeliverOwes → SendDllpOwes → DeliverDllpOwes → LinkOwes
link_owes transmit deliver send_dllp deliver_dllp t name event first second one two one' two' what named is ends held did =
    by_ends name (Owed name)
    (λ t one two one' two' what named ends.
    over (λ (v w : PartValue). t.held ≡ (lane_slot name + 1, w) ∷ ((lane_slot name, v) ∷ []) → acts links.Transmit v w ≡ Ok (what, one', two') → After t links.Transmit (lane_slot name) (lane_slot name + 1) (what, one', two')) _ _ _ _ ends.0.1 ends.1.1
    (λ held did. of_ok (transmit_on ends.0.0 ends.1.0) _ (After t links.Transmit (lane_slot name) (lane_slot name + 1)) (what, one', two') (λ x is. transmit t name ends.0.0 x.1 ends.1.0 x.2 x.0 named held is) did))
    (λ fate t one two one' two' what named ends.
    over (λ (v w : PartValue). t.held ≡ (lane_slot name + 3, w) ∷ ((lane_slot name + 1, v) ∷ []) → acts (links.Deliver fate) v w ≡ Ok (what, one', two') → After t (links.Deliver fate) (lane_slot name + 1) (lane_slot name + 3) (what, one', two')) _ _ _ _ ends.0.1 ends.1.1
    (λ held did. of_ok (deliver_on ends.0.0 ends.1.0 fate) _ (After t (links.Deliver fate) (lane_slot name + 1) (lane_slot name + 3)) (what, one', two') (λ x is. deliver t name ends.0.0 x.1 ends.1.0 x.2 fate x.0 named held is) did))
    (λ kind t one two one' two' what named ends.
    over (λ (v w : PartValue). t.held ≡ (lane_slot name + 2, w) ∷ ((lane_slot name + 3, v) ∷ []) → acts (links.SendDllp kind) v w ≡ Ok (what, one', two') → After t (links.SendDllp kind) (lane_slot name + 3) (lane_slot name + 2) (what, one', two')) _ _ _ _ ends.0.1 ends.1.1
    (λ held did. of_ok (send_dllp_on ends.0.0 ends.1.0 kind) (λ x. (seen.SentDllp x.0, Receiver x.1, Back x.2)) (After t (links.SendDllp kind) (lane_slot name + 3) (lane_slot name + 2)) (what, one', two') (λ x is. send_dllp t name ends.0.0 x.1 ends.1.0 x.2 kind x.0 named held is) did))
    (λ fate t one two one' two' what named ends.
    over (λ (v w : PartValue). t.held ≡ (lane_slot name, w) ∷ ((lane_slot name + 2, v) ∷ []) → acts (links.DeliverDllp fate) v w ≡ Ok (what, one', two') → After t (links.DeliverDllp fate) (lane_slot name + 2) (lane_slot name) (what, one', two')) _ _ _ _ ends.0.1 ends.1.1
    (λ held did. of_ok (deliver_dllp_on ends.0.0 ends.1.0 fate) _ (After t (links.DeliverDllp fate) (lane_slot name + 2) (lane_slot name)) (what, one', two') (λ x is. deliver_dllp t name ends.0.0 x.1 ends.1.0 x.2 fate x.0 named held is) did))
    event first second is t one two one' two' what named ends held did
  where
    After : Token → LinkEvent → ℕ → ℕ → Seen × PartValue × PartValue → Type 0
    After t event j k y = Goes (link_event name event) y.0 t j y.1 (after_silent (link_event name event) y.0 ((k, y.2) ∷ []) t)

abbrev MayBeRefused : LaneName → LinkEvent → Part → Part → Type 0
MayBeRefused name event first second = (t : Token) (ts : List Token) (one two : PartValue) (r : Refusal) → KnowsLane t name → AreEnds event one two
    → KnownHolding t ts ((part_slot second, two) ∷ ((part_slot first, one) ∷ []))
    → Refuses (λ x. link_grows x.0) (acts event one two) r → MayRefuse t.knows (link_event name event) r

pub link_refused : TransmitIsRefused → DeliverIsRefused → SendDllpIsRefused → DeliverDllpIsRefused → LinkIsRefused
link_refused transmit deliver send_dllp deliver_dllp t ts name event first second one two r named is ends known why =
    by_ends name (MayBeRefused name)
    (λ t ts one two r named ends.
    over (λ (v w : PartValue). KnownHolding t ts ((lane_slot name + 1, w) ∷ ((lane_slot name, v) ∷ [])) → Refuses (λ x. link_grows x.0) (acts links.Transmit v w) r → MayRefuse t.knows (events.Transmit name) r) _ _ _ _ ends.0.1 ends.1.1
    (λ known why. transmit t ts name ends.0.0 ends.1.0 r named known (of_refused (transmit_on ends.0.0 ends.1.0) _ (λ x. link_grows x.0) lane_grows r (λ x h. h) why)))
    (λ fate t ts one two r named ends.
    over (λ (v w : PartValue). KnownHolding t ts ((lane_slot name + 3, w) ∷ ((lane_slot name + 1, v) ∷ [])) → Refuses (λ x. link_grows x.0) (acts (links.Deliver fate) v w) r → MayRefuse t.knows (events.Deliver name fate) r) _ _ _ _ ends.0.1 ends.1.1
    (λ known why. deliver t ts name ends.0.0 ends.1.0 fate r named known (of_refused (deliver_on ends.0.0 ends.1.0 fate) _ (λ x. link_grows x.0) (λ x. arrival_grows x.0) r (λ x h. h) why)))
    (λ kind t ts one two r named ends.
    over (λ (v w : PartValue). KnownHolding t ts ((lane_slot name + 2, w) ∷ ((lane_slot name + 3, v) ∷ [])) → Refuses (λ x. link_grows x.0) (acts (links.SendDllp kind) v w) r → MayRefuse t.knows (events.SendDllp name kind) r) _ _ _ _ ends.0.1 ends.1.1
    (λ known why. send_dllp t ts name ends.0.0 ends.1.0 kind r named known (of_refused {B = Seen × PartValue × PartValue} (send_dllp_on ends.0.0 ends.1.0 kind) (λ x. (seen.SentDllp x.0, Receiver x.1, Back x.2)) (λ x. link_grows x.0) lane_grows r (λ x h. h) why)))
    (λ fate t ts one two r named ends.
    over (λ (v w : PartValue). KnownHolding t ts ((lane_slot name, w) ∷ ((lane_slot name + 2, v) ∷ [])) → Refuses (λ x. link_grows x.0) (acts (links.DeliverDllp fate) v w) r → MayRefuse t.knows (events.DeliverDllp name fate) r) _ _ _ _ ends.0.1 ends.1.1
    (λ known why. deliver_dllp t ts name ends.0.0 ends.1.0 fate r named known (of_error (deliver_dllp_on ends.0.0 ends.1.0 fate) _ (λ x. link_grows x.0) r (λ x h. h) why)))
    event first second is t ts one two r named ends known why

abbrev MayHaveNothing : LaneName → LinkEvent → Part → Part → Type 0
MayHaveNothing name event first second = (t : Token) (ts : List Token) (one : PartValue) → KnowsLane t name → IsPartValue first one
    → KnownHolding t ts ((part_slot first, one) ∷ []) → HasNothing event one → MayRefuse t.knows (link_event name event) Idle

pub link_nothing : SenderHasNothing → WireHasNothing → BackHasNothing → LinkHasNothing
link_nothing transmit deliver deliver_dllp t ts name event first second one named is end known none =
    by_ends name (MayHaveNothing name)
    (λ t ts one named end. subst (λ (v : PartValue). KnownHolding t ts ((lane_slot name, v) ∷ []) → HasNothing links.Transmit v → MayRefuse t.knows (events.Transmit name) Idle) (sym end.1) (λ known none. transmit t ts name end.0 named known (λ w. rw none refl)))
    (λ fate t ts one named end. subst (λ (v : PartValue). KnownHolding t ts ((lane_slot name + 1, v) ∷ []) → HasNothing (links.Deliver fate) v → MayRefuse t.knows (events.Deliver name fate) Idle) (sym end.1) (λ known none. deliver t ts name end.0 fate named known (λ v. rw none refl)))
    (λ kind t ts one named end. subst (λ (v : PartValue). KnownHolding t ts ((lane_slot name + 3, v) ∷ []) → HasNothing (links.SendDllp kind) v → MayRefuse t.knows (events.SendDllp name kind) Idle) (sym end.1) (λ known none. absurd none))
    (λ fate t ts one named end. subst (λ (v : PartValue). KnownHolding t ts ((lane_slot name + 2, v) ∷ []) → HasNothing (links.DeliverDllp fate) v → MayRefuse t.knows (events.DeliverDllp name fate) Idle) (sym end.1) (λ known none. deliver_dllp t ts name end.0 fate named known (λ v. rw none refl)))
    event first second is t ts one named end known none

-- ---- over the sender's end alone

pub alone_owes : TimerOwes → RetrainedOwes → AloneOwes
alone_owes timer retrained t name links.Timer one one' what named end is =
    subst (λ (v : PartValue). t.held ≡ (lane_slot name, v) ∷ [] → acts_alone links.Timer v ≡ Ok (what, one') → Goes (events.Timer name) what t (lane_slot name) one' (after_silent (events.Timer name) what [] t)) (sym end.1)
    (λ held did. of_ok (timer_on end.0) _ (λ (y : Seen × PartValue). Goes (events.Timer name) y.0 t (lane_slot name) y.1 (after_silent (events.Timer name) y.0 [] t)) (what, one') (λ x is. timer t name end.0 x.1 x.0 named held is) did)
alone_owes timer retrained t name links.Retrained one one' what named end is =
    subst (λ (v : PartValue). t.held ≡ (lane_slot name, v) ∷ [] → acts_alone links.Retrained v ≡ Ok (what, one') → Goes (events.Retrained name) what t (lane_slot name) one' (after_silent (events.Retrained name) what [] t)) (sym end.1)
    (λ held did. of_ok (retrained_on end.0) _ (λ (y : Seen × PartValue). Goes (events.Retrained name) y.0 t (lane_slot name) y.1 (after_silent (events.Retrained name) y.0 [] t)) (what, one') (λ x is. retrained t name end.0 x named held is) did)
alone_owes timer retrained t name links.Transmit one one' what named end is = absurd (cc)
alone_owes timer retrained t name (links.Deliver fate) one one' what named end is = absurd (cc)
alone_owes timer retrained t name (links.SendDllp kind) one one' what named end is = absurd (cc)
alone_owes timer retrained t name (links.DeliverDllp fate) one one' what named end is = absurd (cc)

pub alone_refused : TimerIsRefused → RetrainedIsRefused → AloneIsRefused
alone_refused timer retrained t ts name links.Timer one r named end is =
    subst (λ (v : PartValue). KnownHolding t ts ((lane_slot name, v) ∷ []) → acts_alone links.Timer v ≡ Err r → MayRefuse t.knows (events.Timer name) r) (sym end.1) (λ known why. timer t ts name end.0 r named known (of_err (timer_on end.0) _ r why))
alone_refused timer retrained t ts name links.Retrained one r named end is =
    subst (λ (v : PartValue). KnownHolding t ts ((lane_slot name, v) ∷ []) → acts_alone links.Retrained v ≡ Err r → MayRefuse t.knows (events.Retrained name) r) (sym end.1) (λ known why. retrained t ts name end.0 r named known (of_err (retrained_on end.0) _ r why))
alone_refused timer retrained t ts name links.Transmit one r named end is = absurd (cc)
alone_refused timer retrained t ts name (links.Deliver fate) one r named end is = absurd (cc)
alone_refused timer retrained t ts name (links.SendDllp kind) one r named end is = absurd (cc)
alone_refused timer retrained t ts name (links.DeliverDllp fate) one r named end is = absurd (cc)
