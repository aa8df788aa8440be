-- What happened since the hall was made, call by call.
use Rattle.std.specs.Prelude.{◌≡◌, ◌==◌, ◌<◌, ℕ, suc, Bool, true, false, List, [], ◌∷◌, ◌++◌, map, length}
use Rattle.history_words.specs.Records.{Record}
use Rattle.history_words.specs.Trace.{submissions}
use Rattle.fabric_steps.specs.Lists.{Each}
use Rattle.fabric_steps.specs.Fabric.{Fabric, whole_of}
use Rattle.fabric_steps.specs.Trace.{Belongs}
use Rattle.fabric_steps.specs.Event.{Event}
use Rattle.fabric_core.specs.Kept.{records_of}
use Rattle.fabric_core.specs.Answers.{Happens}
use Rattle.hall_laws.specs.declared.token.Done.{Done}
use Rattle.hall_laws.specs.declared.token.Knowledge.{Knowledge}
use Rattle.hall_laws.specs.Waiting.{records_by}

-- what a call made happen, with the number of its seat
pub record Act : Type 0 where
  pub by : ℕ
  pub done : Done

-- the acts happen one after the other, and these are their records
abbrev pub Tells : Fabric → List Act → List Record → Fabric → Type 0
Tells f [] rs f' = (rs ≡ []) × (f' ≡ f)
Tells f (a ∷ acts) rs f' =
    (next : Fabric) × (later : List Record) × Happens f a.done.event a.done.what next × Tells next acts later f'
    × (rs ≡ records_of a.done.event a.done.what (length f.memory.entries) ++ later)

abbrev pub if_by : Bool → Done → List Done → List Done
if_by true d ds = d ∷ ds
if_by false d ds = ds

-- what the seat with this number did, in its order
abbrev pub done_by : ℕ → List Act → List Done
done_by n [] = []
done_by n (a ∷ acts) = if_by (a.by == n) a.done (done_by n acts)

abbrev pub events_in : List Act → List Event
events_in acts = map (λ (a : Act). a.done.event) acts

-- these acts lead from the fabric that the seat's hall was made of to this one, and the seat's are what it did; each is
-- of one of the hall's seats
pub record IsStoryOf (acts : List Act) (told : List Record) (f : Fabric) (w : Knowledge) : Type 0 where
  pub tells : Tells w.opened acts told f
  pub own : w.did ≡ done_by w.number acts
  pub by : Each (λ (a : Act). a.by < w.seats) acts
  -- the records belong to it, and those of the seat's requester among them are its own, its submissions what it made
  pub belongs : Belongs (whole_of f) told
  pub made : w.made ≡ submissions told (suc w.number)
  pub records : w.records ≡ records_by (suc w.number) told

-- one list of acts leads from the fabric that the hall was made of to this one, and the seat's are what it did
pub record Ran (w : Knowledge) (f : Fabric) : Type 0 where
  pub acts : List Act
  pub told : List Record
  pub tells : Tells w.opened acts told f
  pub own : w.did ≡ done_by w.number acts
  -- their records belong to it
  pub belongs : Belongs (whole_of f) told
