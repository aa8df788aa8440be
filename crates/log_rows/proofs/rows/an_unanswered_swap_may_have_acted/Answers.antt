use Rattle.log_rows.proofs.Found.{swap_acts}
use Rattle.log_rows.proofs.rows.an_unanswered_swap_may_have_acted.Goals as goal

pub returns : goal.returns
returns c = swap_acts c.explained_is_without_flaw.ensures.explained
