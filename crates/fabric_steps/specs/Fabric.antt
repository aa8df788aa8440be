-- A fabric by its parts, and what the laws see of them.
use Rattle.std.specs.Prelude.{List, [], ◌∷◌, map}
use Rattle.seq_memory.specs.History.{MemoryView, extent_of}
use Rattle.flow_control.specs.declared.limits.LaneCredits.{LaneCredits}
use Rattle.lane_core.specs.Steps.{LaneEndsView}
use Rattle.lane_core.specs.Calls.{content}
use Rattle.fabric_steps.specs.Whole.{MarkedPacket, Whole, RequesterView, unused}
use Rattle.fabric_steps.specs.Packets.{marked_packet}

-- the parts; those of port 1 stand at place 0
pub record Fabric : Type 0 where
  -- the credits that the lanes advertised when they were new
  pub credits : LaneCredits
  pub memory : MemoryView
  pub requesters : List RequesterView
  pub inward : LaneEndsView
  pub outward : LaneEndsView
  pub up : List LaneEndsView
  pub down : List LaneEndsView

-- what a lane holds
abbrev pub items : LaneEndsView → List MarkedPacket
items e = map (λ x. marked_packet x.0 x.1) (content e)

-- the parts of port i stand at place i, and port 0 has none
abbrev pub whole_of : Fabric → Whole
whole_of f = record {
  extent = extent_of f.memory;
  history = f.memory.entries;
  inward = items f.inward;
  outward = items f.outward;
  up = [] ∷ map items f.up;
  down = [] ∷ map items f.down;
  requesters = unused ∷ f.requesters;
}
