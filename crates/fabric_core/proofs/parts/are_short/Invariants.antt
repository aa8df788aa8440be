use Rattle.std.proofs.Common.{◌≡◌, ℕ, ◌<◌, Some}
use Rattle.std.specs.Prelude.{slice_get}
use Rattle.lane_core.specs.Steps.{LaneEndsView, IsShort}
use Rattle.fabric_core.proofs.parts.are_short.Given as goal

abbrev pub invariant-loop-lane : goal.invariant-loop-lane
invariant-loop-lane l = (i : ℕ) (e : LaneEndsView) → i < l.lane-index → slice_get l.lanes i ≡ Some e → IsShort e
