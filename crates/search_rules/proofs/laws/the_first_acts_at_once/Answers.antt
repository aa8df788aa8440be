use Rattle.search_rules.proofs.FirstLemmas.{first_is_forced}
use Rattle.search_rules.proofs.laws.the_first_acts_at_once.Goals as goal

pub returns : goal.returns
returns c = first_is_forced c.apart_requests_commute.ensures.answer c.apart_requests_commute.ensures.after c.only_the_place_changes.ensures.others
