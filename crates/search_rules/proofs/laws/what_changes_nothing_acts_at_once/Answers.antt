use Rattle.search_rules.proofs.RuleLemmas.{quiet_is_forced}
use Rattle.search_rules.proofs.laws.what_changes_nothing_acts_at_once.Goals as goal

pub returns : goal.returns
returns c = quiet_is_forced c.only_the_place_changes.ensures.size
