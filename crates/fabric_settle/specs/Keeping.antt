-- What is kept of a fabric's events.
use Rattle.std.specs.Prelude.{◌≡◌, ◌⊎◌, true, List, ◌++◌, length, map}
use Rattle.history_words.specs.Records.{Record}
use Rattle.fabric_steps.specs.Fabric.{Fabric}
use Rattle.fabric_steps.specs.Event.{Event, Seen}
use Rattle.fabric_steps.specs.declared.fault.Refusal.{Refusal}
use Rattle.fabric_core.specs.Answers.{Happens, Refused}
use Rattle.fabric_steps.specs.Faults.{is_memory}
use Rattle.fabric_core.specs.Kept.{records_of}
use Rattle.fabric_core.specs.Runs.{has_record}
use Rattle.fabric_settle.specs.Happenings.{Happening, happening}

-- the event happens, and the witness keeps what is to be kept of it
pub record Witnessed {K : Type 0} (saw : K → Happening → K) (f : Fabric) (k : K) (event : Event) (f' : Fabric) (k' : K) : Type 0 where
  pub what : Seen
  pub happens : Happens f event what f'
  pub now : k' ≡ saw k (happening f event what f')

-- ---- memory that is wanted

-- where there is room, all is kept
abbrev pub IsLossless : (Event → Type 0) → Type 0
IsLossless may_lose = (event : Event) → may_lose event → ⊥

-- the fabric can't grow for the event, or there is no room for what is kept of it
abbrev pub WantsMemory : (Event → Type 0) → (Event → Type 0) → Fabric → Event → Type 0
WantsMemory needs_room may_lose f event = ((r : Refusal) × (is_memory r ≡ true) × Refused f event r) ⊎ (needs_room event ⊎ may_lose event)

abbrev pub Never : Event → Type 0
Never event = ⊥

abbrev pub Always : Event → Type 0
Always event = Unit {0}

-- ---- a trace

abbrev pub IsRecorded : Event → Type 0
IsRecorded event = has_record event ≡ true

-- it grows by what an event adds to it, with the length of the history before the event
abbrev pub with_record : List Record → Happening → List Record
with_record rs h = rs ++ records_of h.event h.what (length h.before.memory.entries)

-- what happened, as a list of events
abbrev pub events_of : List Happening → List Event
events_of happened = map (λ (h : Happening). h.event) happened
