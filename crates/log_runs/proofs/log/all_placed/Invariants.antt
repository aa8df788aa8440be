use Rattle.std.proofs.Common.{◌≡◌, List, take, map}
use Rattle.history_words.specs.Records.{Record}
use Rattle.log_runs.specs.EventView.{event_in, part_event}
use Rattle.log_runs.proofs.log.all_placed.Given as goal

abbrev pub invariant-loop-part : goal.invariant-loop-part
invariant-loop-part l = (rs : List Record) → map (event_in rs) l.all.items ≡ map (part_event (map (event_in rs) l.events)) (take l.part-index l.parts)
