use Rattle.search_words.proofs.Running.{overdrawn_is_dead}
use Rattle.search_words.proofs.laws.what_is_overdrawn_is_dead.Goals as goal

pub returns : goal.returns
returns c = overdrawn_is_dead c.only_the_place_changes.ensures.size
