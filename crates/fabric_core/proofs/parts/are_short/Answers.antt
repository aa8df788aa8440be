use Rattle.std.proofs.Common.{arith}
use Rattle.lane_core.specs.Steps.{IsShort}
use Rattle.fabric_core.proofs.Still.{each_more, each_of_all}
use Rattle.fabric_core.proofs.parts.are_short.Goals as goal

pub loop-lane-preserved : goal.loop-lane-preserved
loop-lane-preserved c = each_more IsShort c.args.lanes.now c.loop-lane.lane-index c.lane-item.result (omega arith) c.lane-item.is c.short.ensures c.loop-lane.invariant

pub returns : goal.returns
returns c = each_of_all IsShort c.args.lanes.now c.loop-lane.lane-index (omega arith) c.loop-lane.invariant
