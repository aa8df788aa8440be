use Rattle.lane_core.specs.Calls.{Retrained}
use Rattle.lane_core.proofs.Kept.{right_by}
use Rattle.lane_core.proofs.lane.Lane.retrained.Goals as goal

pub invariant_of-self : goal.invariant_of-self
invariant_of-self c = rw c.retrained.ensures.state (right_by _ Retrained tt (rw (← c.ends.view_is) at c.self.invariant))
