-- What an event shows, and why it is refused, as far as its seat can say.
use Rattle.fabric_steps.specs.Fabric.{Fabric}
use Rattle.fabric_steps.specs.Event.{Event, Seen}
use Rattle.fabric_steps.specs.declared.fault.Refusal.{Refusal}
use Rattle.fabric_core.specs.Answers.{Happens, Refused}
use Rattle.hall_laws.specs.declared.token.Knowledge.{Knowledge}
use Rattle.hall_laws.specs.Rule.{Traced, IsSoundTraced, Fits}

-- the event happens to a sound fabric of which the seat knows this, and this is seen of it
abbrev pub Shows : Knowledge → Event → Seen → Type 0
Shows w event what = (s : Traced) × IsSoundTraced s × Fits s w × (after : Fabric) × Happens s.fabric event what after

-- a sound fabric of which the seat knows this refuses the event for this cause
abbrev pub MayRefuse : Knowledge → Event → Refusal → Type 0
MayRefuse w event r = (s : Traced) × IsSoundTraced s × Fits s w × Refused s.fabric event r
