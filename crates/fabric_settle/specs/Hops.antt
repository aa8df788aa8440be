-- How many hops a fabric needs until it is quiet. A hop takes a packet out of a queue: a Forward, a Serve or a Collect.
use Rattle.std.specs.Prelude.{ℕ, ◌≡◌, ◌+◌, if◌then◌else◌, Some, slice_get}
use Rattle.std.specs.List.{sum_by}
use Rattle.dllp_core.specs.declared.packet.Class.TheVariants.{Posted}
use Rattle.flow_control.specs.Needs.{class_of}
use Rattle.flow_control.specs.Credits.{same}
use Rattle.flow_control.specs.Queue.{Item}
use Rattle.lane_core.specs.Steps.{LaneEndsView}
use Rattle.lane_core.specs.Calls.{content}
use Rattle.lane_core.specs.Flushed.{IsFlushed}
use Rattle.fabric_steps.specs.Fabric.{Fabric}
use Rattle.fabric_steps.specs.Event.{Event}
use Rattle.fabric_steps.specs.declared.event.EventOf.TheVariants as events

-- ---- the hops that are left

-- those of a packet, by its class: a posted request has no completion, so it needs fewer
abbrev pub hops_of : ℕ → ℕ → Item → ℕ
hops_of posted other x = if same (class_of x.0.kind) Posted then posted else other

-- those of all packets that a lane holds
abbrev pub hops_in : ℕ → ℕ → LaneEndsView → ℕ
hops_in posted other e = sum_by (hops_of posted other) (content e)

-- a request in an `up` lane is forwarded and served, and its completion is forwarded and collected
abbrev pub hops_left : Fabric → ℕ
hops_left f = sum_by (hops_in 2 4) f.up + (hops_in 1 3 f.inward + (hops_in 2 2 f.outward + sum_by (hops_in 1 1) f.down))

-- ---- events

abbrev pub IsHop : Event → Type 0
IsHop (events.Forward lane place) = Unit {0}
IsHop (events.Serve place) = Unit {0}
IsHop (events.Collect port) = Unit {0}
IsHop _ = ⊥

-- a hop of the oldest packet of a queue; a Collect takes no other
abbrev pub IsOldestHop : Event → Type 0
IsOldestHop (events.Forward lane place) = place ≡ 0
IsOldestHop (events.Serve place) = place ≡ 0
IsOldestHop (events.Collect port) = Unit {0}
IsOldestHop _ = ⊥

-- a call of a link
abbrev pub IsOfLink : Event → Type 0
IsOfLink (events.Submit port op) = ⊥
IsOfLink (events.Forward lane place) = ⊥
IsOfLink (events.Serve place) = ⊥
IsOfLink (events.Collect port) = ⊥
IsOfLink _ = Unit {0}

-- ---- the lanes

-- each lane is flushed: what it holds stands in its queue, and its sender knows all credit
pub record AreFlushed (f : Fabric) : Type 0 where
  pub inward : IsFlushed f.inward
  pub outward : IsFlushed f.outward
  pub up : (i : ℕ) (e : LaneEndsView) → slice_get f.up i ≡ Some e → IsFlushed e
  pub down : (i : ℕ) (e : LaneEndsView) → slice_get f.down i ≡ Some e → IsFlushed e
