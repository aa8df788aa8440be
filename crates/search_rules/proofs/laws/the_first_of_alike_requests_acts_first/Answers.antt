use Rattle.search_rules.proofs.AlikeLemmas.{first_of_alike}
use Rattle.search_rules.proofs.laws.the_first_of_alike_requests_acts_first.Goals as goal

pub returns : goal.returns
returns c = first_of_alike
