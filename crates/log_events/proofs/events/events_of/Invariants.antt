use Rattle.std.proofs.Common.{map}
use Rattle.log_runs.specs.EventView.{event_in}
use Rattle.log_events.proofs.EventLemmas.{EventsTo}
use Rattle.log_events.proofs.events.events_of.Given as goal

abbrev pub invariant-loop-at : goal.invariant-loop-at
invariant-loop-at l = EventsTo l.partners l.records (map (event_in l.records) l.events.items) l.at
