-- A new fabric.
use Rattle.std.specs.Prelude.{ℕ, ◌≡◌, suc, [], Some, None, slice_get}
use Rattle.requester_core.specs.RequesterView.{RequesterView, fresh}
use Rattle.lane_core.specs.Steps.{LaneEndsView}
use Rattle.lane_core.specs.Calls.{content}
use Rattle.fabric_steps.specs.Fabric.{Fabric}
use Rattle.fabric_steps.specs.Whole.{Whole, up_of, down_of, requester_of, open_number}

pub record IsNew (p : Whole) : Type 0 where
  pub history : p.history ≡ []
  pub inward : p.inward ≡ []
  pub outward : p.outward ≡ []
  pub up : (i : ℕ) → up_of p i ≡ []
  pub down : (i : ℕ) → down_of p i ≡ []
  pub next : (i : ℕ) → (requester_of p i).next ≡ 0
  pub tags : (i t : ℕ) → open_number (requester_of p i) t ≡ None

-- a fabric with an empty history, requesters that have asked for nothing, and lanes that hold nothing
pub record IsNewFabric (f : Fabric) : Type 0 where
  pub history : f.memory.entries ≡ []
  pub requesters : (i : ℕ) (q : RequesterView) → slice_get f.requesters i ≡ Some q → q ≡ fresh (suc i)
  pub inward : content f.inward ≡ []
  pub outward : content f.outward ≡ []
  pub up : (i : ℕ) (e : LaneEndsView) → slice_get f.up i ≡ Some e → content e ≡ []
  pub down : (i : ℕ) (e : LaneEndsView) → slice_get f.down i ≡ Some e → content e ≡ []
