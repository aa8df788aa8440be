-- What may happen next: an event whose operation is still to be drawn.
use Rattle.tlp_core.specs.Ops.{Op}
use Rattle.fabric_steps.specs.Event.{Event}
use Rattle.fabric_steps.specs.declared.event.EventOf.{EventOf}
use Rattle.fabric_steps.specs.declared.event.EventOf.TheVariants as events
use Rattle.script_text.specs.Spelled.{IsInRange, IsSpelledEvent}
use Rattle.generate_engine.specs.Arrivals.{ArrivalsView, HasFate}

abbrev pub Candidate : Type 0
Candidate = EventOf (Unit {0})

-- its event, with that operation if it submits one
abbrev pub with_operation : Op → Candidate → Event
with_operation op (events.Submit port _) = events.Submit port op
with_operation op (events.Transmit lane) = events.Transmit lane
with_operation op (events.Deliver lane fate) = events.Deliver lane fate
with_operation op (events.SendDllp lane kind) = events.SendDllp lane kind
with_operation op (events.DeliverDllp lane fate) = events.DeliverDllp lane fate
with_operation op (events.Timer lane) = events.Timer lane
with_operation op (events.Retrained lane) = events.Retrained lane
with_operation op (events.Forward lane place) = events.Forward lane place
with_operation op (events.Serve place) = events.Serve place
with_operation op (events.Collect port) = events.Collect port

-- with an operation in range, a line of a script spells its event
abbrev pub IsSpelledCandidate : Candidate → Type 0
IsSpelledCandidate candidate = (op : Op) → IsInRange op → IsSpelledEvent (with_operation op candidate)

-- with any operation, its event has the plan's fate
abbrev pub HasCandidateFate : ArrivalsView → Candidate → Type 0
HasCandidateFate a candidate = (op : Op) → HasFate a (with_operation op candidate)
