use Rattle.log_runs.proofs.Fewer.{fewer_answers}
use Rattle.log_runs.proofs.laws.fewer_answers_are_explainable.Goals as goal

pub returns : goal.returns
returns c = λ t a i k n reply at x. fewer_answers t a i k n reply at x
