use Rattle.std.proofs.Common.{◌≡◌, ◌∙◌, true, false, sym, ap}
use Rattle.log_runs.specs.Explainable.{prefix}
use Rattle.search_history.proofs.Runs.{runs, explainable_if}
use Rattle.search_history.proofs.judging.is_explainable.Goals as goal
use Rattle.search_history.proofs.judging.is_explainable.Goals.{in-Run, in_default}

pub returns : goal.returns
returns c = λ yes. elim c.match-matches.branch [
  | in-Run w ↦
      explainable_if c.a_run_is_a_history.ensures.explainable (prefix c.args.records.count c.args.records.seen.now) c.in_ok-outcome.outcome
      c.in_ok-outcome.ensures (ap runs w.in-Run.is)
  | in_default w ↦ absurd (let k : true ≡ false = sym yes ∙ w.matches-is in cc k)
]
