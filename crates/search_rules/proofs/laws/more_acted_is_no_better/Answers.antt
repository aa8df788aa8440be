use Rattle.search_rules.proofs.IdleLemmas.{more_is_no_better}
use Rattle.search_rules.proofs.laws.more_acted_is_no_better.Goals as goal

pub returns : goal.returns
returns c = more_is_no_better
