-- What a storm does to a fabric, an event at a time.
use Rattle.rand_pcg.specs.Lcg.{Lcg, started, increment_of}
use Rattle.rand_pcg.specs.Pcg.{multiplier_64}
use Rattle.fabric_steps.specs.Fabric.{Fabric}
use Rattle.fabric_steps.specs.Event.{Event, Seen}
use Rattle.fabric_core.specs.Steps.{Happens}
use Rattle.script_text.specs.Spelled.{IsSpelledEvent}
use Rattle.parameters.specs.declared.storm.Storm.{Storm}
use Rattle.generate_engine.specs.Arrivals.{ArrivalsView, nothing_arrived}

-- a chooser: the generator that it draws from, the plan and the counts
pub record ChooserView : Type 0 where
  pub draws : Lcg
  pub arrived : ArrivalsView

-- it begins with the storm's seed and plan
abbrev pub new_choosing : Storm → ChooserView
new_choosing s = record { draws = started 64 multiplier_64 s.seed (increment_of 64 0); arrived = nothing_arrived s.lose s.corrupt }

-- the event happened to the fabric, and a line of a script can tell it
pub record IsChosen (f : Fabric) (event : Event) (f' : Fabric) : Type 0 where
  pub what : Seen
  pub happened : Happens f event what f'
  pub spelled : IsSpelledEvent event
