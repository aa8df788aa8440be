use Rattle.log_rows.proofs.Found.{write_passes}
use Rattle.log_rows.proofs.rows.a_posted_write_may_pass_a_read.Goals as goal

pub returns : goal.returns
returns c = write_passes c.explained_is_without_flaw.ensures.explained
