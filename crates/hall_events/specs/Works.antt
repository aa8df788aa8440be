-- What a pump does, and what it tells of its seat.
use Rattle.std.specs.Prelude.{◌≡◌}
use Rattle.fabric_steps.specs.Event.{Event, Seen}
use Rattle.fabric_steps.specs.declared.event.EventOf.TheVariants as events
use Rattle.fabric_steps.specs.declared.event.LaneName.{LaneName}
use Rattle.fabric_steps.specs.declared.event.LinkEvent.{LinkEvent}
use Rattle.fabric_steps.specs.declared.event.LinkEvent.TheVariants as links
use Rattle.fabric_steps.specs.declared.event.SeenOf.TheVariants as seen
use Rattle.hall_laws.specs.declared.token.Knowledge.{Knowledge}
use Rattle.hall_events.specs.declared.work.WorkEvent.{WorkEvent}
use Rattle.hall_events.specs.declared.work.WorkEvent.TheVariants as works
use Rattle.hall_laws.specs.Calls.{serving_also}
use Rattle.hall_laws.specs.Rule.{with_done}

-- the fabric's event of that name
abbrev pub event_of : WorkEvent → Event
event_of (works.Transmit lane) = events.Transmit lane
event_of (works.Deliver lane fate) = events.Deliver lane fate
event_of (works.SendDllp lane kind) = events.SendDllp lane kind
event_of (works.DeliverDllp lane fate) = events.DeliverDllp lane fate
event_of (works.Timer lane) = events.Timer lane
event_of (works.Retrained lane) = events.Retrained lane
event_of (works.Forward lane place) = events.Forward lane place
event_of (works.Serve place) = events.Serve place

-- the fabric's event of a link call of a lane
abbrev pub link_event : LaneName → LinkEvent → Event
link_event lane links.Transmit = events.Transmit lane
link_event lane (links.Deliver fate) = events.Deliver lane fate
link_event lane (links.SendDllp kind) = events.SendDllp lane kind
link_event lane (links.DeliverDllp fate) = events.DeliverDllp lane fate
link_event lane links.Timer = events.Timer lane
link_event lane links.Retrained = events.Retrained lane

-- the event happened, and no other. A serving adds the place that it gives to those that the seat filled; nothing else
-- is learned
abbrev pub Pumped : WorkEvent → Seen → Knowledge → Knowledge → Type 0
Pumped (works.Serve place) (seen.At n) w w' = w' ≡ with_done (events.Serve place) (seen.At n) (serving_also n w)
Pumped (works.Serve place) _ w w' = ⊥
Pumped event what w w' = w' ≡ with_done (event_of event) what w
