use Rattle.lane_core.proofs.Kept.{accepts_first}
use Rattle.lane_core.proofs.laws.only_the_first_is_accepted.Goals as goal

pub returns : goal.returns
returns c = accepts_first c.reading_is_spelling.ensures.read
