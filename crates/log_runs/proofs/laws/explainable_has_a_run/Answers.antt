use Rattle.log_runs.proofs.RunOf.{has_a_run}
use Rattle.log_runs.proofs.laws.explainable_has_a_run.Goals as goal

pub returns : goal.returns
returns c = λ t es ev x. has_a_run t es ev x
