-- The slots of a closed table, as they are emptied one after the other.
use Rattle.std.specs.Prelude.{◌≡◌, ℕ, ◌+◌, ◌*◌, ◌<◌, Bool, false, suc, List, length, Option, Some, slice_get, slice_index_or}
use Rattle.std.specs.Mem.Slots.Ownership.{Filled}
use mathlib.Core.Option.{some}
use lib.ListN.{get_elem?}
use Rattle.requester_core.specs.RequesterView.{RequesterView}
use Rattle.lane_core.specs.Steps.{LaneEndsView}
use Rattle.hall_laws.specs.declared.part.PartValue.{PartValue}
use Rattle.hall_laws.specs.declared.part.PartValue.TheVariants.{Requester, Sender, Forward, Back, Receiver}

-- of so many slots those below k are empty, and the others full
abbrev pub IsEmptiedTo : List Bool → ℕ → ℕ → Type 0
IsEmptiedTo filled count k = Filled filled k count × ((j : ℕ) → j < k → slice_index_or filled j false ≡ false)

-- the part at this slot
abbrev pub PartAt : List (Option PartValue) → ℕ → PartValue → Type 0
PartAt xs k v = get_elem? xs k ≡ some (Some v)

-- the ends of a lane from this slot on
pub record EndsAt (xs : List (Option PartValue)) (k : ℕ) (e : LaneEndsView) : Type 0 where
  pub sender : PartAt xs k (Sender e.sender)
  pub forward : PartAt xs (k + 1) (Forward e.forward)
  pub back : PartAt xs (k + 2) (Back e.back)
  pub receiver : PartAt xs (k + 3) (Receiver e.receiver)

-- what stands at a port, from this slot on
pub record StationFrom (xs : List (Option PartValue)) (k : ℕ) (q : RequesterView) (u d : LaneEndsView) : Type 0 where
  pub requester : PartAt xs k (Requester q)
  pub up : EndsAt xs (k + 1) u
  pub down : EndsAt xs (k + 5) d

-- the parts of the ports from 1 to so many
pub record StationsAt (xs : List (Option PartValue)) (count : ℕ) (qs : List RequesterView) (us ds : List LaneEndsView) : Type 0 where
  pub requesters : length qs ≡ count
  pub up : length us ≡ count
  pub down : length ds ≡ count
  pub each : (i : ℕ) (q : RequesterView) (u d : LaneEndsView) → slice_get qs i ≡ Some q → slice_get us i ≡ Some u → slice_get ds i ≡ Some d → StationFrom xs (9 * suc i) q u d
