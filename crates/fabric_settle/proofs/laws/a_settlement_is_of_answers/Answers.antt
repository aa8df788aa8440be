use Rattle.fabric_settle.proofs.AnswerLemmas.{is_of_answers}
use Rattle.fabric_settle.proofs.laws.a_settlement_is_of_answers.Goals as goal

pub returns : goal.returns
returns c = is_of_answers
