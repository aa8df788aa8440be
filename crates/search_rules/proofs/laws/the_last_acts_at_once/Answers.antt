use Rattle.search_rules.proofs.LastLemmas.{last_is_forced}
use Rattle.search_rules.proofs.laws.the_last_acts_at_once.Goals as goal

pub returns : goal.returns
returns c = last_is_forced
