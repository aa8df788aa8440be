use Rattle.lane_core.proofs.Kept.{right_taken, takes}
use Rattle.lane_core.proofs.lane.Lane.take.Goals as goal

pub invariant_of-self : goal.invariant_of-self
invariant_of-self c = rw c.take.ensures.state (right_taken _ c.args.place (rw (← c.self.view_is, ← c.ends.view_is) at c.requires) (rw (← c.ends.view_is) at c.self.invariant))

pub returns-clause-state : goal.returns-clause-state
returns-clause-state c = rw (c.take.ensures.state, ← c.self.view_is, ← c.ends.view_is) (takes _ c.args.place (rw (← c.self.view_is, ← c.ends.view_is) at c.requires))
