use Rattle.search_rules.proofs.NeverLemmas.{never_is_dead}
use Rattle.search_rules.proofs.laws.what_is_never_answered_is_dead.Goals as goal

pub returns : goal.returns
returns c = never_is_dead c.only_the_place_changes.ensures.size
