use Rattle.lane_core.proofs.Spelled.{held_spelled}
use Rattle.lane_core.proofs.laws.what_a_lane_holds_is_spelled.Goals as goal

pub returns : goal.returns
returns c = held_spelled c.reading_is_spelling.ensures.read
