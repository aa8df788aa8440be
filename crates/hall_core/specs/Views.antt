-- What contracts see of a hall and of a seat.
use Rattle.std.specs.Prelude.{ℕ, suc, ◌≡◌, ◌⊎◌, ◌+◌, List, [], ◌∷◌, length, slice_get, Some}
use Rattle.atomic_table.specs.Seated.{TableId}
use Rattle.history_words.specs.Records.{Record}
use Rattle.history_words.specs.Trace.{submissions}
use Rattle.fabric_steps.specs.Lists.{Each}
use Rattle.fabric_steps.specs.Fabric.{Fabric, whole_of}
use Rattle.fabric_steps.specs.Trace.{Belongs}
use Rattle.fabric_core.specs.declared.config.Config.{Config}
use Rattle.fabric_core.specs.Kept.{IsSoundFabric}
use Rattle.hall_laws.specs.declared.token.Knowledge.{Knowledge}
use Rattle.hall_laws.specs.Story.{Act, Tells, done_by}
use Rattle.hall_laws.specs.Waiting.{records_by}
use Rattle.hall_laws.specs.Rule.{newcomer}

pub record SeatView : Type 0 where
  pub table_id : TableId
  pub knows : Knowledge

pub record HallView : Type 0 where
  pub table_id : TableId
  pub config : Config
  -- the fabric that it was made of, and how many seats it has
  pub opened : Fabric
  pub seats : ℕ

-- the seat came from this hall
abbrev pub IsSeatOf : HallView → SeatView → Type 0
IsSeatOf h s = (s.table_id ≡ h.table_id) × (s.knows.config ≡ h.config) × (s.knows.opened ≡ h.opened) × (s.knows.seats ≡ h.seats)

-- they all came from this hall
abbrev pub AreSeatsOf : HallView → List SeatView → Type 0
AreSeatsOf h seats = (i : ℕ) (s : SeatView) → slice_get seats i ≡ Some s → IsSeatOf h s

-- new seats of a hall, in the order of their numbers
pub record AreNewSeats (h : HallView) (first count : ℕ) (seats : List SeatView) : Type 0 where
  pub number : length seats ≡ count
  pub each : (i : ℕ) (s : SeatView) → slice_get seats i ≡ Some s → (s.table_id ≡ h.table_id) × (s.knows ≡ (newcomer h.config h.opened h.seats (first + i)).knows)

-- one of the seats has this number
abbrev pub HasNumber : ℕ → List SeatView → Type 0
HasNumber n [] = ⊥
HasNumber n (s ∷ seats) = (s.knows.number ≡ n) ⊎ HasNumber n seats

-- what these seats did, and nothing else, leads from the fabric that their hall was made of to this one
pub record RanBy (h : HallView) (seats : List SeatView) (f : Fabric) : Type 0 where
  -- one list of acts, with its records
  pub acts : List Act
  pub told : List Record
  pub tells : Tells h.opened acts told f
  -- each is of one of these seats
  pub by : Each (λ (a : Act). HasNumber a.by seats) acts
  -- and each seat's are what it did, in its order
  pub own : Each (λ (s : SeatView). s.knows.did ≡ done_by s.knows.number acts) seats
  -- the fabric is sound, the records belong to it, and those of each seat's requester among them are the seat's own, its
  -- submissions what it made
  pub sound : IsSoundFabric f
  pub belongs : Belongs (whole_of f) told
  pub made : Each (λ (s : SeatView). s.knows.made ≡ submissions told (suc s.knows.number)) seats
  pub records : Each (λ (s : SeatView). s.knows.records ≡ records_by (suc s.knows.number) told) seats
