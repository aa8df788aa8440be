-- An event and what is seen of it, as values.
use Rattle.tlp_core.specs.Ops.{Op}
use Rattle.requester_core.specs.Answers.{Answer}
use Rattle.fabric_steps.specs.declared.event.EventOf.{EventOf}
use Rattle.fabric_steps.specs.declared.event.SeenOf.{SeenOf}

-- what happens to a fabric
abbrev pub Event : Type 0
Event = EventOf Op

-- what is seen of it
abbrev pub Seen : Type 0
Seen = SeenOf Answer
