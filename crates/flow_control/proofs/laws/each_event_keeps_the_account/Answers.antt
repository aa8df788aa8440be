use Rattle.flow_control.proofs.Runs.{new_credit, kept}
use Rattle.flow_control.proofs.laws.each_event_keeps_the_account.Goals as goal

pub returns : goal.returns
returns c = record { new = new_credit; kept = kept }
