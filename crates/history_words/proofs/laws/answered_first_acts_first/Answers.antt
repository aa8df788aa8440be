use Rattle.history_words.proofs.Order.{in_order}
use Rattle.history_words.proofs.laws.answered_first_acts_first.Goals as goal

pub returns : goal.returns
returns c = λ x good clocked. in_order x good clocked
