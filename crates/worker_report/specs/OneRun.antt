-- When the records of requesters are those of one run of a fabric.
use Rattle.std.specs.Prelude.{◌≡◌, ◌<◌, ℕ, suc, ◌+◌, List, [], ◌∷◌, length}
use Rattle.std.specs.List.{AllByRecursion as Each}
use Rattle.history_words.specs.Records.{Record}
use Rattle.history_words.specs.Lookup.{requester_of}
use Rattle.fabric_steps.specs.Fabric.{Fabric, whole_of}
use Rattle.fabric_steps.specs.Trace.{Belongs}
use Rattle.fabric_core.specs.declared.config.Config.{Config}
use Rattle.fabric_core.specs.Config.{IsNewWith}
use Rattle.fabric_core.specs.Kept.{IsSoundFabric}
use Rattle.hall_laws.specs.Waiting.{records_by}
use Rattle.hall_laws.specs.Story.{Act, Tells}
use Rattle.hall_core.specs.Views.{SeatView, HallView, AreSeatsOf}
use Rattle.worker_report.specs.declared.report.Gathered.{Gathered}

-- One list of acts leads from the fabric that a hall was made of to this one. Its records, each with the length of the
-- history then, belong to that fabric, and those of each requester are, in its order, the requester's own
pub record IsOfOneRun (opened : Fabric) (rs : List Record) (f : Fabric) : Type 0 where
  pub acts : List Act
  pub told : List Record
  pub tells : Tells opened acts told f
  pub sound : IsSoundFabric f
  pub belongs : Belongs (whole_of f) told
  pub own : (i : ℕ) → records_by i rs ≡ records_by i told

-- they are those of one run of a new fabric of this configuration, to this one
abbrev pub IsRunOf : Config → List Record → Fabric → Type 0
IsRunOf c rs f = (opened : Fabric) × IsNewWith c opened × IsOfOneRun opened rs f

-- each record is of a requester from 1 on, below that number
abbrev pub AreBelow : ℕ → List Record → Type 0
AreBelow i rs = Each (λ r. (0 < requester_of r) × (requester_of r < i)) rs

-- these are the seats of the requesters from that number on, of each of which the records are those of its calls, and no
-- record is of a requester behind them
abbrev pub AreOfSeats : List Record → ℕ → List SeatView → Type 0
AreOfSeats rs i [] = AreBelow i rs
AreOfSeats rs i (s ∷ ss) = (suc s.knows.number ≡ i) × (records_by i rs ≡ s.knows.records) × AreOfSeats rs (i + 1) ss

-- all seats of the hall, and the records of its requesters' calls
pub record IsGathered (h : HallView) (g : Gathered) : Type 0 where
  pub some : 0 < h.config.requesters
  pub requesters : AreSeatsOf h g.requesters.items
  pub work : AreSeatsOf h g.work.items
  pub count : length g.requesters.items ≡ h.config.requesters
  pub all : length g.requesters.items + length g.work.items ≡ h.seats
  pub records : AreOfSeats g.records.items 1 g.requesters.items
