-- Events that happened to a fabric, one after the other.
use Rattle.std.specs.Prelude.{◌≡◌, List, [], ◌∷◌, Result, Ok}
use Rattle.fabric_steps.specs.Fabric.{Fabric}
use Rattle.fabric_steps.specs.Event.{Event, Seen}
use Rattle.fabric_core.specs.Answers.{answer}

-- an event that happened: the fabric before it, what was seen of it, and the fabric after it
pub record Happening : Type 0 where
  pub before : Fabric
  pub event : Event
  pub what : Seen
  pub after : Fabric

abbrev pub happening : Fabric → Event → Seen → Fabric → Happening
happening f event what f' = record { before = f; event = event; what = what; after = f' }

-- each happens, in this sense, to the fabric that the one before it left
abbrev pub Leads : (Fabric → Event → Seen → Fabric → Type 0) → Fabric → List Happening → Fabric → Type 0
Leads By f [] f' = f' ≡ f
Leads By f (h ∷ hs) f' = (h.before ≡ f) × By h.before h.event h.what h.after × Leads By h.after hs f'

-- it is the fabric's answer
abbrev pub Answers : Fabric → Event → Seen → Fabric → Type 0
Answers f event what f' = answer f event ≡ Ok (what, f')
