-- Why a call is refused.
use Rattle.std.specs.Prelude.{ℕ, suc, ◌≡◌, ◌≢◌, ◌⊎◌, length, List, [], ◌∷◌, codes}
use Rattle.fabric_steps.specs.Fabric.{Fabric}
use Rattle.fabric_steps.specs.Event.{Event}
use Rattle.fabric_steps.specs.declared.event.EventOf.TheVariants as events
use Rattle.fabric_steps.specs.declared.event.LaneName.{LaneName}
use Rattle.fabric_steps.specs.declared.event.LaneName.TheVariants as lanes
use Rattle.fabric_steps.specs.declared.fault.Refusal.{Refusal}
use Rattle.fabric_steps.specs.declared.fault.Refusal.TheVariants.{NoSuchPart}
use Rattle.fabric_core.specs.Kept.{IsPossible}
use Rattle.fabric_core.specs.Steps.{HasLanes, Refused}
use Rattle.hall_events.specs.declared.refusal.HallRefusal.{HallRefusal}
use Rattle.hall_events.specs.declared.refusal.HallRefusal.TheVariants.{Busy, Core}
use Rattle.hall_laws.specs.declared.part.Part.{Part}
use Rattle.hall_laws.specs.declared.part.Part.TheVariants as parts
use Rattle.hall_laws.specs.declared.token.Knowledge.{Knowledge}
use Rattle.hall_laws.specs.Tells.{Has}
use Rattle.hall_laws.specs.Shows.{MayRefuse}
use Rattle.fabric_steps.specs.Faults.{refusal_name}

-- no fabric with so many requesters has the part
abbrev pub HasNoPart : ℕ → Event → Refusal → Type 0
HasNoPart count event r = (r ≡ NoSuchPart) × ((f : Fabric) → HasLanes f → length f.requesters ≡ count → Refused f event NoSuchPart)

-- a packet that came in by this lane leaves by this part
abbrev pub IsWayOut : LaneName → Part → Type 0
IsWayOut (lanes.Up port) part = part ≡ parts.SenderEnd lanes.Inward
IsWayOut lanes.Outward part = (to : ℕ) × (part ≡ parts.SenderEnd (lanes.Down to))
IsWayOut _ part = ⊥

-- the event uses the part
abbrev pub Uses : Event → Part → Type 0
Uses (events.Submit i op) part = Has part (parts.Memory ∷ (parts.Requester i ∷ (parts.SenderEnd (lanes.Up i) ∷ [])))
Uses (events.Collect i) part = Has part (parts.Memory ∷ (parts.Requester i ∷ (parts.ReceiverEnd (lanes.Down i) ∷ [])))
Uses (events.Transmit lane) part = Has part (parts.SenderEnd lane ∷ (parts.ForwardWire lane ∷ []))
Uses (events.Deliver lane fate) part = Has part (parts.ForwardWire lane ∷ (parts.ReceiverEnd lane ∷ []))
Uses (events.SendDllp lane kind) part = Has part (parts.ReceiverEnd lane ∷ (parts.BackWire lane ∷ []))
Uses (events.DeliverDllp lane fate) part = Has part (parts.BackWire lane ∷ (parts.SenderEnd lane ∷ []))
Uses (events.Timer lane) part = part ≡ parts.SenderEnd lane
Uses (events.Retrained lane) part = part ≡ parts.SenderEnd lane
Uses (events.Forward lane place) part = (part ≡ parts.ReceiverEnd lane) ⊎ IsWayOut lane part
Uses (events.Serve place) part = Has part (parts.ReceiverEnd lanes.Inward ∷ (parts.Memory ∷ (parts.SenderEnd lanes.Outward ∷ [])))

-- a part that the event uses has the word of another seat; or a sound fabric of which the seat knows this refuses the
-- event so, or none has the part
abbrev pub IsRefused : Knowledge → Event → HallRefusal → Type 0
IsRefused w event (Busy part word) = (word ≢ 0) × (word ≢ suc w.number) × Uses event part
IsRefused w event (Core r) = MayRefuse w event r ⊎ HasNoPart w.config.requesters event r

-- a part that the event uses has the word of another seat
abbrev pub IsWithAnother : Knowledge → Event → HallRefusal → Type 0
IsWithAnother w event (Busy part word) = (word ≢ 0) × (word ≢ suc w.number) × Uses event part
IsWithAnother w event (Core r) = ⊥

-- this part has the word of another seat than the one that knows this
abbrev pub IsBusy : Knowledge → Part → HallRefusal → Type 0
IsBusy w wanted (Busy part word) = (part ≡ wanted) × (word ≢ 0) × (word ≢ suc w.number)
IsBusy w wanted (Core r) = ⊥

-- neither Protocol nor Strange nor Route
abbrev pub IsPossibleInHall : HallRefusal → Type 0
IsPossibleInHall (Busy part word) = Unit {0}
IsPossibleInHall (Core r) = IsPossible r

-- whatever refuses a call is possible in a hall
abbrev pub RefusalsArePossible : Type 0
RefusalsArePossible = (w : Knowledge) (event : Event) (r : HallRefusal) → IsRefused w event r → IsPossibleInHall r

abbrev pub hall_refusal_number : HallRefusal → ℕ
hall_refusal_number (Busy part word) = 1
hall_refusal_number (Core r) = 2

abbrev pub hall_refusal_name : HallRefusal → List ℕ
hall_refusal_name (Busy part word) = codes "Busy"
hall_refusal_name (Core r) = refusal_name r
