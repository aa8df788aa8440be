-- Which option's value is refused: the first that is wrong in the grammar's order; or, where each is right, one that
-- does not go with another.
use Rattle.std.specs.Prelude.{true, false, ◌≡◌, ◌≢◌, ◌≤◌, ◌+◌, ◌^◌, ◌⊎◌, ℕ, List, [], ◌∷◌, Option, Some, None, codes, option_map}
use Rattle.clap.specs.Words.{Row, Text, first_of}
use Rattle.fabric_steps.specs.declared.event.LaneName.{LaneName}
use Rattle.log_pieces.specs.declared.Granularity.{Granularity}
use Rattle.search_engine.specs.declared.options.TheConstants.{DEFAULT_WORK}
use Rattle.cli_values.specs.Endpoints.{WritesId, WritesSize}
use Rattle.cli_values.specs.Granularities.{WritesGranularity}
use Rattle.cli_values.specs.Lanes.{WritesLane}
use Rattle.cli_values.specs.Seeds.{WritesSeeds}
use Rattle.cli_options.specs.declared.options.ValueOption.{ValueOption}
use Rattle.cli_options.specs.declared.options.ValueOption.TheVariants.{Base, Size, Block, Requesters, Each, Lose, Corrupt, Turns, Workers, From, To, Seed, Seeds, Events, Lane, Limit, Work, Granularity as the_granularity, EndpointSize, Id, Crc, Credits, Draw}
use Rattle.cli_values.specs.Links.{WritesCredits}
use Rattle.cli_options.specs.declared.refused.RefusedValue.{RefusedValue}
use Rattle.flow_control.specs.declared.limits.LaneCredits.{LaneCredits}
use Rattle.cli_options.specs.Values.{WritesFlag, Gives, GivesBase, GivesOptional, name_of}

-- the value gives a number that the option may have; the option stands with its default, if it has one
abbrev pub IsRight : List Row → ValueOption × Option ℕ → Type 0
IsRight rows p = (n : ℕ) × Gives p.0 p.1 (first_of (name_of p.0) rows) n

abbrev pub IsWrong : List Row → ValueOption × Option ℕ → Type 0
IsWrong rows p = (n : ℕ) → Gives p.0 p.1 (first_of (name_of p.0) rows) n → ⊥

-- the same of a base
abbrev pub IsRightBase : List Row → Type 0
IsRightBase rows = (n : ℕ) × GivesBase (first_of (codes "base") rows) n

abbrev pub IsWrongBase : List Row → Type 0
IsWrongBase rows = (n : ℕ) → GivesBase (first_of (codes "base") rows) n → ⊥

-- the same of a lane
abbrev pub IsRightLane : List Row → Type 0
IsRightLane rows = (l : Option LaneName) × WritesLane (first_of (codes "lane") rows) l

abbrev pub IsWrongLane : List Row → Type 0
IsWrongLane rows = (l : Option LaneName) → WritesLane (first_of (codes "lane") rows) l → ⊥

-- the same of a granularity
abbrev pub IsRightGranularity : List Row → Type 0
IsRightGranularity rows = (g : Granularity) × WritesGranularity (first_of (codes "granularity") rows) g

abbrev pub IsWrongGranularity : List Row → Type 0
IsWrongGranularity rows = (g : Granularity) → WritesGranularity (first_of (codes "granularity") rows) g → ⊥

-- the same of the size of an endpoint's memory, and of its IDs
abbrev pub IsRightSize : List Row → Type 0
IsRightSize rows = (n : ℕ) × WritesSize (first_of (codes "size") rows) n

abbrev pub IsWrongSize : List Row → Type 0
IsWrongSize rows = (n : ℕ) → WritesSize (first_of (codes "size") rows) n → ⊥

abbrev pub IsRightId : List Row → Type 0
IsRightId rows = (id : ℕ × ℕ) × WritesId (first_of (codes "id") rows) id

abbrev pub IsWrongId : List Row → Type 0
IsWrongId rows = (id : ℕ × ℕ) → WritesId (first_of (codes "id") rows) id → ⊥

-- the same of the seeds of a sweep
abbrev pub IsRightSeeds : List Row → Type 0
IsRightSeeds rows = (seeds : ℕ × ℕ) × WritesSeeds (first_of (codes "seeds") rows) seeds

abbrev pub IsWrongSeeds : List Row → Type 0
IsWrongSeeds rows = (seeds : ℕ × ℕ) → WritesSeeds (first_of (codes "seeds") rows) seeds → ⊥

-- the same of the credits of an endpoint behind a link
abbrev pub IsWrongCredits : List Row → Type 0
IsWrongCredits rows = (c : LaneCredits) → WritesCredits (first_of (codes "credits") rows) c → ⊥

-- the same of a number that need not be given
abbrev pub IsRightOptional : List Row → ValueOption → Type 0
IsRightOptional rows option = (n : Option ℕ) × GivesOptional option (first_of (name_of option) rows) n

abbrev pub IsWrongOptional : List Row → ValueOption → Type 0
IsWrongOptional rows option = (n : Option ℕ) → GivesOptional option (first_of (name_of option) rows) n → ⊥

-- the value of each option is right
abbrev pub AreRight : List Row → List (ValueOption × Option ℕ) → Type 0
AreRight rows [] = Unit {0}
AreRight rows (p ∷ ps) = IsRight rows p × AreRight rows ps

-- this option is the first of these whose value is wrong
abbrev pub IsFirstWrong : List Row → List (ValueOption × Option ℕ) → ValueOption → Type 0
IsFirstWrong rows [] option = ⊥
IsFirstWrong rows (p ∷ ps) option = (option ≡ p.0) × IsWrong rows p ⊎ IsRight rows p × IsFirstWrong rows ps option

-- the options of the subcommands that have values, but for the base
abbrev pub tlp_values : List (ValueOption × Option ℕ)
tlp_values = (Size, Some 4096) ∷ (Block, Some 64) ∷ []

abbrev pub search_values : List (ValueOption × Option ℕ)
search_values = (Limit, Some 1000000) ∷ (Work, Some DEFAULT_WORK) ∷ []

abbrev pub draw_values : List (ValueOption × Option ℕ)
draw_values = (From, Some 0) ∷ (To, Some 18446744073709551615) ∷ []

abbrev pub chart_values : List (ValueOption × Option ℕ)
chart_values = (From, Some 1) ∷ (To, Some 18446744073709551615) ∷ []

abbrev pub generate_values : List (ValueOption × Option ℕ)
generate_values = (Seed, None) ∷ (Events, None) ∷ (Requesters, Some 3) ∷ (Lose, Some 0) ∷ (Corrupt, Some 0) ∷ (Block, Some 64) ∷ []

abbrev pub sweep_values : List (ValueOption × Option ℕ)
sweep_values = (Events, None) ∷ (Requesters, Some 3) ∷ (Lose, Some 0) ∷ (Corrupt, Some 0) ∷ (Block, Some 64) ∷ []

abbrev pub run_values : List (ValueOption × Option ℕ)
run_values = (Requesters, None) ∷ (Each, None) ∷ (Lose, Some 0) ∷ (Corrupt, Some 0) ∷ (Turns, Some 50000000) ∷ []

-- a memory of this base and size would end beyond 2^64
abbrev pub EndsBeyond : List Row → Type 0
EndsBeyond rows = (base size : ℕ) → GivesBase (first_of (codes "base") rows) base → Gives Size (Some 4096) (first_of (codes "size") rows) size → base + size ≤ 2 ^ 64 → ⊥

-- the last point lies before the first
abbrev pub EndsBefore : List Row → Type 0
EndsBefore rows = (from to : ℕ) → Gives From (Some 0) (first_of (codes "from") rows) from → Gives To (Some 18446744073709551615) (first_of (codes "to") rows) to → from ≤ to → ⊥

-- the last line lies before the first
abbrev pub EndsAbove : List Row → Type 0
EndsAbove rows = (from to : ℕ) → Gives From (Some 1) (first_of (codes "from") rows) from → Gives To (Some 18446744073709551615) (first_of (codes "to") rows) to → from ≤ to → ⊥

abbrev pub RefusesTlp : List Row → ValueOption → Type 0
RefusesTlp rows option =
    (option ≡ Base) × IsWrongBase rows ⊎ IsRightBase rows × IsFirstWrong rows tlp_values option
    ⊎ (option ≡ Base) × IsRightBase rows × AreRight rows tlp_values × EndsBeyond rows

-- neither CRCs nor credits
abbrev pub HasNoLink : List Row → Type 0
HasNoLink rows = WritesFlag (first_of (codes "crc") rows) false × (first_of (codes "credits") rows ≡ None)

abbrev pub RefusesWithoutLink : List Row → ValueOption → Type 0
RefusesWithoutLink rows option =
    (option ≡ Crc) × WritesFlag (first_of (codes "crc") rows) true
    ⊎ (option ≡ Credits) × WritesFlag (first_of (codes "crc") rows) false × (first_of (codes "credits") rows ≢ None)

-- CRCs or credits without a link, or a wrong value of credits
abbrev pub RefusesLink : List Row → ValueOption → Type 0
RefusesLink rows option =
    WritesFlag (first_of (codes "link") rows) false × RefusesWithoutLink rows option
    ⊎ (option ≡ Credits) × WritesFlag (first_of (codes "link") rows) true × IsWrongCredits rows

abbrev pub RefusesDevice : List Row → ValueOption → Type 0
RefusesDevice rows option = (option ≡ EndpointSize) × IsWrongSize rows ⊎ (option ≡ Id) × IsRightSize rows × IsWrongId rows

abbrev pub RefusesEndpoint : List Row → ValueOption → Type 0
RefusesEndpoint rows option = RefusesDevice rows option ⊎ IsRightSize rows × IsRightId rows × RefusesLink rows option

-- a picture and a short log
abbrev pub RefusesOutput : List Row → ValueOption → Type 0
RefusesOutput rows option = (option ≡ Draw) × WritesFlag (first_of (codes "core") rows) true × WritesFlag (first_of (codes "draw") rows) true

abbrev pub RefusesSearch : List Row → ValueOption → Type 0
RefusesSearch rows option =
    IsFirstWrong rows search_values option ⊎ (option ≡ the_granularity) × AreRight rows search_values × IsWrongGranularity rows
    ⊎ AreRight rows search_values × IsRightGranularity rows × RefusesOutput rows option

abbrev pub RefusesRun : List Row → ValueOption → Type 0
RefusesRun rows option = IsFirstWrong rows run_values option ⊎ (option ≡ Workers) × AreRight rows run_values × IsWrongOptional rows Workers

abbrev pub RefusesSweep : List Row → ValueOption → Type 0
RefusesSweep rows option =
    (option ≡ Seeds) × IsWrongSeeds rows ⊎ IsRightSeeds rows × IsFirstWrong rows sweep_values option
    ⊎ (option ≡ Workers) × IsRightSeeds rows × AreRight rows sweep_values × IsWrongOptional rows Workers

abbrev pub RefusesDraw : List Row → ValueOption → Type 0
RefusesDraw rows option = IsFirstWrong rows draw_values option ⊎ (option ≡ To) × AreRight rows draw_values × EndsBefore rows

abbrev pub RefusesChart : List Row → ValueOption → Type 0
RefusesChart rows option =
    (option ≡ Lane) × IsWrongLane rows ⊎ IsRightLane rows × IsFirstWrong rows chart_values option
    ⊎ (option ≡ To) × IsRightLane rows × AreRight rows chart_values × EndsAbove rows

abbrev pub RefusesOption : Text → List Row → ValueOption → Type 0
RefusesOption name rows option =
    (name ≡ codes "tlp") × RefusesTlp rows option ⊎ (name ≡ codes "draw") × RefusesDraw rows option
    ⊎ (name ≡ codes "generate") × IsFirstWrong rows generate_values option ⊎ (name ≡ codes "run") × RefusesRun rows option
    ⊎ (name ≡ codes "chart") × RefusesChart rows option
    ⊎ (name ≡ codes "search") × RefusesSearch rows option
    ⊎ (name ≡ codes "endpoint") × RefusesEndpoint rows option
    ⊎ (name ≡ codes "sweep") × RefusesSweep rows option

-- of the subcommand with its values this option is refused, with what is written of it
abbrev pub Refuses : Option (Text × List Row) → RefusedValue → Type 0
Refuses None refused = ⊥
Refuses (Some p) refused =
    (option_map (λ t. t.now) refused.given ≡ first_of (name_of refused.option) p.1) × RefusesOption p.0 p.1 refused.option
