use Rattle.std.proofs.Common.{◌≤◌}
use Rattle.search_history.specs.Prefixes.{IsUnexplained}
use Rattle.search_history.proofs.shortest.halved.Given as goal

abbrev pub invariant-loop-turn : goal.invariant-loop-turn
invariant-loop-turn l = record {
  none : IsUnexplained l.records.seen.now l.high;
  order : l.low ≤ l.high;
}
