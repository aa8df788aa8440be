use Rattle.search_rules.proofs.JunkLemmas.{over_junk_is_forced}
use Rattle.search_rules.proofs.laws.what_is_over_junk_acts_at_once.Goals as goal

pub returns : goal.returns
returns c = over_junk_is_forced c.a_request_sees_its_addresses.ensures.answer c.a_request_sees_its_addresses.ensures.after c.only_the_place_changes.ensures.others c.only_the_place_changes.ensures.size
