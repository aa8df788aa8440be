-- The ends that an event of a link uses, and what it owes.
use Rattle.std.specs.Prelude.{◌≡◌, List, [], ◌∷◌, Option, Some, None, Ok, Err}
use Rattle.fabric_steps.specs.declared.event.LaneName.{LaneName}
use Rattle.fabric_steps.specs.declared.event.LinkEvent.{LinkEvent}
use Rattle.fabric_steps.specs.declared.event.LinkEvent.TheVariants as links
use Rattle.fabric_steps.specs.Event.{Seen}
use Rattle.fabric_steps.specs.declared.fault.Refusal.{Refusal}
use Rattle.fabric_steps.specs.declared.fault.Refusal.TheVariants.{Idle}
use Rattle.fabric_core.specs.Answers.{Refuses, link_grows}
use Rattle.hall_laws.specs.declared.part.Part.{Part}
use Rattle.hall_laws.specs.declared.part.Part.TheVariants as parts
use Rattle.hall_laws.specs.declared.part.PartValue.{PartValue}
use Rattle.hall_laws.specs.declared.token.Token.{Token}
use Rattle.hall_laws.specs.Causes.{KnownHolding}
use Rattle.hall_laws.specs.Duties.{KnowsLane}
use Rattle.hall_laws.specs.Parts.{lane_slot, part_slot, IsPartValue, IsSender}
use Rattle.hall_laws.specs.Rule.{Goes, after_silent}
use Rattle.hall_laws.specs.Shows.{MayRefuse}
use Rattle.hall_events.specs.Acts.{acts, acts_alone, AreEnds, HasNothing}
use Rattle.hall_events.specs.Works.{link_event}

-- the two ends of an event, in the order of their taking; None where the sender's end is all that it uses
abbrev pub ends_of : LaneName → LinkEvent → Option (Part × Part)
ends_of name links.Transmit = Some (parts.SenderEnd name, parts.ForwardWire name)
ends_of name (links.Deliver fate) = Some (parts.ForwardWire name, parts.ReceiverEnd name)
ends_of name (links.SendDllp kind) = Some (parts.ReceiverEnd name, parts.BackWire name)
ends_of name (links.DeliverDllp fate) = Some (parts.BackWire name, parts.SenderEnd name)
ends_of name links.Timer = None
ends_of name links.Retrained = None

-- over the two ends that its token holds, as it took them, the event is one of the fabric
abbrev pub LinkOwes : Type 0
LinkOwes = (t : Token) (name : LaneName) (event : LinkEvent) (first second : Part) (one two one' two' : PartValue) (what : Seen) → KnowsLane t name
    → ends_of name event ≡ Some (first, second) → AreEnds event one two
    → t.held ≡ (part_slot second, two) ∷ ((part_slot first, one) ∷ [])
    → acts event one two ≡ Ok (what, one', two')
    → Goes (link_event name event) what t (part_slot first) one' (after_silent (link_event name event) what ((part_slot second, two') ∷ []) t)

-- where they refuse it, so does the fabric
abbrev pub LinkIsRefused : Type 0
LinkIsRefused = (t : Token) (ts : List Token) (name : LaneName) (event : LinkEvent) (first second : Part) (one two : PartValue) (r : Refusal) → KnowsLane t name
    → ends_of name event ≡ Some (first, second) → AreEnds event one two
    → KnownHolding t ts ((part_slot second, two) ∷ ((part_slot first, one) ∷ []))
    → Refuses (λ x. link_grows x.0) (acts event one two) r → MayRefuse t.knows (link_event name event) r

-- and so it does where the first alone shows that there is nothing to do
abbrev pub LinkHasNothing : Type 0
LinkHasNothing = (t : Token) (ts : List Token) (name : LaneName) (event : LinkEvent) (first second : Part) (one : PartValue) → KnowsLane t name
    → ends_of name event ≡ Some (first, second) → IsPartValue first one → KnownHolding t ts ((part_slot first, one) ∷ [])
    → HasNothing event one → MayRefuse t.knows (link_event name event) Idle

-- the same over the sender's end alone
abbrev pub AloneOwes : Type 0
AloneOwes = (t : Token) (name : LaneName) (event : LinkEvent) (one one' : PartValue) (what : Seen) → KnowsLane t name
    → IsSender one → ends_of name event ≡ None
    → t.held ≡ (lane_slot name, one) ∷ []
    → acts_alone event one ≡ Ok (what, one')
    → Goes (link_event name event) what t (lane_slot name) one' (after_silent (link_event name event) what [] t)

abbrev pub AloneIsRefused : Type 0
AloneIsRefused = (t : Token) (ts : List Token) (name : LaneName) (event : LinkEvent) (one : PartValue) (r : Refusal) → KnowsLane t name
    → IsSender one → ends_of name event ≡ None
    → KnownHolding t ts ((lane_slot name, one) ∷ [])
    → acts_alone event one ≡ Err r → MayRefuse t.knows (link_event name event) r
