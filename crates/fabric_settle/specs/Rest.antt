-- Rounds that end, and what leads from one fabric to another.
use Rattle.std.specs.Prelude.{ℕ, ◌≡◌, ◌≤◌, false, List}
use Rattle.history_words.specs.Records.{Record}
use Rattle.fabric_steps.specs.Fabric.{Fabric}
use Rattle.fabric_steps.specs.Event.{Event}
use Rattle.fabric_core.specs.Runs.{Runs}
use Rattle.fabric_settle.specs.Rounds.{Settling, round, after_rounds}

-- t is what a last round left, which moved nothing, after so many others at most
pub record EndsWithin (most : ℕ) (s t : Settling) : Type 0 where
  pub before : ℕ
  pub few : before ≤ most
  pub last : t ≡ round (after_rounds before s)
  pub still : t.moved ≡ false

-- a list of events, all of which happen, leads from one fabric to the other
pub record Reaches (f g : Fabric) : Type 0 where
  pub events : List Event
  pub told : List Record
  pub runs : Runs f events told g
