use Rattle.fabric_steps.proofs.Totals.{quiet_total}
use Rattle.fabric_steps.proofs.laws.a_quiet_history_has_every_submission.Goals as goal

pub returns : goal.returns
returns c = quiet_total
