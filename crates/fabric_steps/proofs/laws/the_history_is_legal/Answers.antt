use Rattle.fabric_steps.proofs.Legal.{legal}
use Rattle.fabric_steps.proofs.Submitted.{legal_history}
use Rattle.fabric_steps.proofs.laws.the_history_is_legal.Goals as goal

pub returns : goal.returns
returns c = record { legal = legal; always = legal_history }
