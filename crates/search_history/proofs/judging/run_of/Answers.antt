use Rattle.std.proofs.Common.{ap}
use Rattle.log_runs.specs.Explainable.{prefix}
use Rattle.search_history.proofs.Runs.{runs, explainable_if}
use Rattle.search_history.proofs.judging.run_of.Goals as goal

pub returns-in-Run : goal.returns-in-Run
returns-in-Run c =
    explainable_if c.a_run_is_a_history.ensures.explainable (prefix c.args.records.count c.args.records.seen.now) c.in_ok-outcome.outcome
    c.in_ok-outcome.ensures (ap runs c.in-Run.is)
