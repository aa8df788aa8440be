use Rattle.std.proofs.Common.{map}
use Rattle.log_runs.specs.EventView.{part_event}
use Rattle.log_cells.specs.Parts.{AreKept}
use Rattle.log_cells.proofs.parts.events_in.Given as goal

abbrev pub invariant-loop-at : goal.invariant-loop-at
invariant-loop-at l = AreKept l.log.events l.names l.low l.high (map (part_event l.log.events) l.events.items) l.at
