use Rattle.search_engine.proofs.LookLemmas.{not_without_records}
use Rattle.search_engine.proofs.laws.a_search_without_records_is_not_given_up.Goals as goal

pub returns : goal.returns
returns c = λ size bounds t text status given_up none. not_without_records size t given_up.ending.choices given_up.searched none
