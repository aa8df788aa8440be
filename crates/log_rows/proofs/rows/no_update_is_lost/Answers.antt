use Rattle.log_rows.proofs.Dead.{lost}
use Rattle.log_rows.proofs.rows.no_update_is_lost.Goals as goal

pub returns : goal.returns
returns c = lost c.explainable_has_a_run.ensures
