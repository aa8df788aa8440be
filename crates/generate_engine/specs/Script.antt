-- What `generate` writes.
use Rattle.std.specs.Prelude.{ℕ, ◌≡◌, ◌≤◌, ◌⊎◌, List, [], ◌∷◌, length, map, All, Option}
use Rattle.std.specs.Io.KnownBytes.{Appends}
use Rattle.line_loop.specs.Run.{IsBeginning}
use Rattle.history_words.specs.Records.{Record}
use Rattle.fabric_steps.specs.Fabric.{Fabric}
use Rattle.fabric_core.specs.declared.config.Config.{Config}
use Rattle.fabric_steps.specs.Event.{Event}
use Rattle.fabric_core.specs.Config.{IsNewWith}
use Rattle.fabric_core.specs.Runs.{Runs}
use Rattle.trace_text.specs.Texts.{lines_text}
use Rattle.script_text.specs.LineTexts.{event_line, fabric_line}
use Rattle.script_text.specs.Spelled.{IsSpelledEvent}
use Rattle.parameters.specs.declared.storm.Storm.{Storm}
use Rattle.generate_engine.specs.Arrivals.{AreFated, IsAfter}
use Rattle.generate_engine.specs.Choice.{ChooserView}

-- a memory of 4096 bytes at 0, and the credits that lanes have unless told otherwise
abbrev pub config_of : Storm → Config
config_of s = record { requesters = s.requesters; base = 0; size = 4096; credits = record { ph = 16; pd = 64; nph = 16; npd = 16; cplh = 16; cpld = 64 }; block = s.block }

-- these events happened to a new fabric in turn, and left it so; some line spells each of them
pub record Happened (c : Config) (events : List Event) (f : Fabric) : Type 0 where
  pub new : Fabric
  pub is_new : IsNewWith c new
  pub records : List Record
  pub run : Runs new events records f
  pub spelled : All IsSpelledEvent events

-- a line for the fabric, and one for each event
abbrev pub text_of : Config → List Event → List ℕ
text_of c events = lines_text (fabric_line c ∷ map event_line events)

-- the text of so many events that happened, and the fabric after them
pub record IsScriptOf (c : Config) (count : ℕ) (text : List ℕ) (f : Fabric) : Type 0 where
  pub events : List Event
  pub number : length events ≡ count
  pub happened : Happened c events f
  pub says : text ≡ text_of c events

-- such a text of the storm so far, and the chooser after its events
pub record IsUnderWay (s : Storm) (count : ℕ) (text : List ℕ) (f : Fabric) (c : ChooserView) : Type 0 where
  pub script : IsScriptOf (config_of s) count text f
  pub counted : IsAfter s.lose s.corrupt script.events c.arrived

-- a first part of a text of the storm's fabric and of at most so many events, each fate that of the storm's plan
pub record BeginsScript (s : Storm) (most : ℕ) (done : List ℕ) : Type 0 where
  pub count : ℕ
  pub few : count ≤ most
  pub text : List ℕ
  pub fabric : Fabric
  pub script : IsScriptOf (config_of s) count text fabric
  pub fated : AreFated s.lose s.corrupt script.events
  pub begins : IsBeginning done text

-- the script of all the storm's events was written, each fate that of its plan
pub record IsWhole (s : Storm) (out out' : Option (List ℕ)) : Type 0 where
  pub text : List ℕ
  pub fabric : Fabric
  pub script : IsScriptOf (config_of s) s.events text fabric
  pub fated : AreFated s.lose s.corrupt script.events
  pub written : Appends out out' text

-- nothing was written, or a prefix of a script of the storm's fabric and of no more events than it has
pub record IsPart (s : Storm) (out out' : Option (List ℕ)) : Type 0 where
  pub done : List ℕ
  pub begins : (done ≡ []) ⊎ BeginsScript s s.events done
  pub written : Appends out out' done
