use Rattle.fabric_core.proofs.Fitting.{happens}
use Rattle.fabric_core.proofs.laws.what_is_answered_happens.Goals as goal

pub returns : goal.returns
returns c = happens (record { held = c.what_a_lane_holds_is_spelled.ensures; completed = c.a_completion_is_spelled.ensures })
