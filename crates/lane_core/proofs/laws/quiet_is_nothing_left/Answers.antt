use Rattle.lane_core.proofs.Kept.{quiet_when, quiet_only}
use Rattle.lane_core.proofs.laws.quiet_is_nothing_left.Goals as goal

pub returns : goal.returns
returns c = λ e r. (quiet_only c.reading_is_spelling.ensures.read e r, λ q. quiet_when c.reading_is_spelling.ensures.read e r q.0 q.1)
