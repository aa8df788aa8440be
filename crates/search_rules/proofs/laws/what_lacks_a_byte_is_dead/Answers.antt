use Rattle.search_rules.proofs.LostLemmas.{lacking_is_dead}
use Rattle.search_rules.proofs.laws.what_lacks_a_byte_is_dead.Goals as goal

pub returns : goal.returns
returns c = lacking_is_dead
