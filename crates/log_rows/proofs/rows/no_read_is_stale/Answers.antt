use Rattle.log_rows.proofs.Dead.{stale}
use Rattle.log_rows.proofs.rows.no_read_is_stale.Goals as goal

pub returns : goal.returns
returns c = stale c.explainable_has_a_run.ensures
