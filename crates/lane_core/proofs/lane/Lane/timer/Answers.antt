use Rattle.lane_core.specs.Calls.{Timer}
use Rattle.lane_core.proofs.Kept.{right_by}
use Rattle.lane_core.proofs.lane.Lane.timer.Goals as goal

pub invariant_of-self : goal.invariant_of-self
invariant_of-self c = rw c.timer.ensures.state (right_by _ Timer tt (rw (← c.ends.view_is) at c.self.invariant))
