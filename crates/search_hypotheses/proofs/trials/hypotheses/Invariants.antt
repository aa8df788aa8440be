use Rattle.std.proofs.Common.{All}
use Rattle.search_hypotheses.specs.Hypotheses.{IsHypothesis}
use Rattle.search_hypotheses.proofs.trials.hypotheses.Given as goal

abbrev pub invariant-loop-at : goal.invariant-loop-at
invariant-loop-at l = All (IsHypothesis l.prefix.seen.now l.prefix.count) l.found.items
