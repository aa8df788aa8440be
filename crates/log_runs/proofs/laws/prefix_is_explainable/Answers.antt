use Rattle.log_runs.proofs.Prefixes.{prefix_explainable}
use Rattle.log_runs.proofs.laws.prefix_is_explainable.Goals as goal

pub returns : goal.returns
returns c = λ t n x. prefix_explainable t n x
