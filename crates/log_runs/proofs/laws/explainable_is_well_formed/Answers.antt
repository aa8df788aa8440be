use Rattle.log_runs.proofs.Forms.{explainable_form}
use Rattle.log_runs.proofs.laws.explainable_is_well_formed.Goals as goal

pub returns : goal.returns
returns c = λ t a r x at wrong. explainable_form t a r x at wrong
