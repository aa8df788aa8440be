use Rattle.log_runs.specs.Explainable.{IsExplainable, prefix}
use Rattle.log_faults.specs.WithFault.{with_fault}
use Rattle.search_hypotheses.proofs.trials.latest.Given as goal

abbrev pub invariant-loop-turn : goal.invariant-loop-turn
invariant-loop-turn l = IsExplainable (with_fault l.fault (prefix l.prefix.count l.prefix.seen.now))
