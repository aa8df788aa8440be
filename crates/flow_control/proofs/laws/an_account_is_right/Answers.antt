use Rattle.flow_control.proofs.Runs.{credit_right, credit_known}
use Rattle.flow_control.proofs.laws.an_account_is_right.Goals as goal

pub returns : goal.returns
returns c = record { right = credit_right; all_known = credit_known }
