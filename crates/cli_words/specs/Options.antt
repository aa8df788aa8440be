-- What the words of a command line ask for.
use Rattle.std.specs.Prelude.{◌≡◌, ◌≤◌, ◌<◌, ◌^◌, ℕ, Bool, true, false, List, Option, Some, None, IfSome, codes, fold, [], ◌∷◌}
use Rattle.clap.specs.declared.builder.action.ArgAction.TheVariants.{SetTrue}
use Rattle.clap.specs.Words.{App, Row, Rule, Text, first_of, new_app, new_rule, with_rule, with_subcommand}
use Rattle.parameters.specs.declared.counting.Counting.{Counting}
use Rattle.parameters.specs.declared.counting.TheConstants.{MOST_WORKERS}
use Rattle.parameters.specs.Ranges.{IsCounting}
use Rattle.seq_memory.specs.Limits.{Extent, IsWithinLimits}
use Rattle.parameters.specs.declared.storm.Storm.{Storm}
use Rattle.parameters.specs.Ranges.{IsStorm}
use Rattle.cli_options.specs.declared.options.TheConstants.{MOST_CHOICES, MOST_WORK}
use Rattle.cli_options.specs.Values.{WritesBase, WritesNumber, WritesGiven, WritesOptional, WritesFlag}
use Rattle.fabric_steps.specs.declared.event.LaneName.{LaneName}
use Rattle.log_pieces.specs.declared.Granularity.{Granularity}
use Rattle.search_engine.specs.declared.options.TheConstants.{DEFAULT_WORK}
use Rattle.config_core.specs.SetupView.{SetupView}
use Rattle.cli_values.specs.Endpoints.{WritesId, WritesSize}
use Rattle.cli_values.specs.Granularities.{WritesGranularity}
use Rattle.cli_values.specs.Lanes.{WritesLane}
use Rattle.cli_values.specs.Seeds.{WritesSeeds}
use Rattle.cli_words.specs.declared.outputs.SearchOutput.{SearchOutput}
use Rattle.cli_words.specs.declared.outputs.SearchOutput.TheVariants as outputs
use Rattle.cli_words.specs.declared.words.Request.{Request}
use Rattle.cli_words.specs.declared.subcommands.CommandOption.{CommandOption}
use Rattle.cli_words.specs.declared.subcommands.CommandOption.TheVariants as takes
use Rattle.cli_words.specs.declared.subcommands.Subcommand.{Subcommand}
use Rattle.cli_words.specs.declared.subcommands.Subcommand.TheVariants as kinds
use Rattle.cli_words.specs.declared.words.Request.TheVariants.{Tlp, Endpoint, Linked, Decode, Encode, Check, Search, Draw, Upgrade, Step, Chart, Generate, Sweep, Run}
use Rattle.cli_words.specs.Links.{IsLinked, IsUnlinked}

-- the name of a subcommand
abbrev pub text_of : Subcommand → Text
text_of kinds.Tlp = codes "tlp"
text_of kinds.Endpoint = codes "endpoint"
text_of kinds.Decode = codes "decode"
text_of kinds.Encode = codes "encode"
text_of kinds.Check = codes "check"
text_of kinds.Search = codes "search"
text_of kinds.Draw = codes "draw"
text_of kinds.Upgrade = codes "upgrade"
text_of kinds.Step = codes "step"
text_of kinds.Chart = codes "chart"
text_of kinds.Generate = codes "generate"
text_of kinds.Sweep = codes "sweep"
text_of kinds.Run = codes "run"

-- a flag, whose value is `true` if it is given
abbrev pub flag : Text → Rule
flag name = record (new_rule name) { long = Some name; action = Some SetTrue }

-- an option with a value
abbrev pub option : Text → Rule
option name = record (new_rule name) { long = Some name; value_names = 1 }

-- an option with a value, which has to be given
abbrev pub required : Text → Rule
required name = record (option name) { required = true }

-- the options of the subcommands, in the order of their help
abbrev pub rules_of : Subcommand → List Rule
rules_of kinds.Tlp = option (codes "base") ∷ option (codes "size") ∷ option (codes "block") ∷ []
rules_of kinds.Endpoint =
    option (codes "size") ∷ option (codes "id") ∷ flag (codes "trace") ∷ flag (codes "link") ∷ flag (codes "crc") ∷ option (codes "credits") ∷ []
rules_of kinds.Decode = []
rules_of kinds.Encode = []
rules_of kinds.Check = flag (codes "clocked") ∷ []
rules_of kinds.Search =
    option (codes "limit") ∷ option (codes "work") ∷ option (codes "granularity") ∷ flag (codes "core") ∷ flag (codes "draw") ∷ flag (codes "progress") ∷ []
rules_of kinds.Draw = option (codes "from") ∷ option (codes "to") ∷ []
rules_of kinds.Upgrade = []
rules_of kinds.Step = flag (codes "trace") ∷ flag (codes "keep-going") ∷ flag (codes "echo") ∷ []
rules_of kinds.Chart = option (codes "lane") ∷ option (codes "from") ∷ option (codes "to") ∷ flag (codes "all") ∷ flag (codes "brief") ∷ flag (codes "levels") ∷ []
rules_of kinds.Generate =
    required (codes "seed") ∷ required (codes "events") ∷ option (codes "requesters") ∷ option (codes "lose") ∷ option (codes "corrupt")
    ∷ option (codes "block") ∷ []
rules_of kinds.Sweep =
    required (codes "seeds") ∷ required (codes "events") ∷ option (codes "requesters") ∷ option (codes "lose") ∷ option (codes "corrupt")
    ∷ option (codes "block") ∷ flag (codes "clocked") ∷ flag (codes "keep-going") ∷ option (codes "workers") ∷ []
rules_of kinds.Run =
    required (codes "requesters") ∷ required (codes "each") ∷ option (codes "lose") ∷ option (codes "corrupt") ∷ option (codes "turns")
    ∷ option (codes "workers") ∷ flag (codes "progress") ∷ []

-- a subcommand with its options
abbrev pub subcommand_app : Subcommand → App
subcommand_app s = fold with_rule (new_app (text_of s)) (rules_of s)

-- the program, with `help` among its subcommands, which the parser answers
abbrev pub top_app : App
top_app = record (new_app (codes "pciex")) { top = record ((new_app (codes "pciex")).top) { has_version = true; subcommand_required = true } }

-- with this subcommand behind those that it has
abbrev pub and_subcommand : App → Subcommand → App
and_subcommand app s = with_subcommand app (subcommand_app s).top

-- the subcommands, in the order of the program's help
abbrev pub subcommands : List Subcommand
subcommands =
    kinds.Tlp ∷ kinds.Endpoint ∷ kinds.Decode ∷ kinds.Encode ∷ kinds.Check ∷ kinds.Search ∷ kinds.Draw ∷ kinds.Upgrade ∷ kinds.Step
    ∷ kinds.Chart ∷ kinds.Generate ∷ kinds.Sweep ∷ kinds.Run ∷ []

-- the grammar of the command line
unfoldable pub the_app : App
the_app = fold and_subcommand top_app subcommands

-- the rule of an option
abbrev pub option_rule : CommandOption → Rule
option_rule (takes.Flag name _) = flag name.now
option_rule (takes.Kept name) = flag name.now
option_rule (takes.Value name _ _) = option name.now
option_rule (takes.Required name _ _) = required name.now

-- the values of `tlp` ask for this memory
pub record AsksTlp (rows : List Row) (x : Extent) : Type 0 where
  pub base_read : WritesBase (first_of (codes "base") rows) x.base
  pub size_read : WritesNumber 4096 (first_of (codes "size") rows) x.size
  pub block_read : WritesNumber 64 (first_of (codes "block") rows) x.block
  pub memory : IsWithinLimits x

-- the values of `endpoint` ask for this device
pub record AsksEndpoint (rows : List Row) (s : SetupView) : Type 0 where
  pub size_read : WritesSize (first_of (codes "size") rows) s.size
  pub id_read : WritesId (first_of (codes "id") rows) (s.vendor, s.device)

-- the values of `search` ask to look at so many choices and to do so much work at most, for a history of pieces of that size
pub record AsksSearch (rows : List Row) (limit work : ℕ) (size : Granularity) : Type 0 where
  pub limit_read : WritesNumber 1000000 (first_of (codes "limit") rows) limit
  pub least : 1 ≤ limit
  pub most : limit ≤ MOST_CHOICES
  pub work_read : WritesNumber DEFAULT_WORK (first_of (codes "work") rows) work
  pub some_work : 1 ≤ work
  pub most_work : work ≤ MOST_WORK
  pub granularity_read : WritesGranularity (first_of (codes "granularity") rows) size

-- the flags of `search` ask for the answer; for a short log in place of `none`; or for a picture
abbrev pub WritesOutput : List Row → SearchOutput → Type 0
WritesOutput rows outputs.Answer = WritesFlag (first_of (codes "core") rows) false × WritesFlag (first_of (codes "draw") rows) false
WritesOutput rows outputs.Core = WritesFlag (first_of (codes "core") rows) true × WritesFlag (first_of (codes "draw") rows) false
WritesOutput rows outputs.Picture = WritesFlag (first_of (codes "core") rows) false × WritesFlag (first_of (codes "draw") rows) true

-- the values of `draw` ask for the points from one to another, numbers of 64 bits
pub record AsksDraw (rows : List Row) (from to : ℕ) : Type 0 where
  pub from_read : WritesNumber 0 (first_of (codes "from") rows) from
  pub to_read : WritesNumber 18446744073709551615 (first_of (codes "to") rows) to
  pub ordered : from ≤ to
  pub fits : to < 2 ^ 64

-- the values of `step` ask for the trace, to go on after refusals, to tell lines with their results
pub record AsksStep (rows : List Row) (is_traced keeps_going echoes : Bool) : Type 0 where
  pub trace_read : WritesFlag (first_of (codes "trace") rows) is_traced
  pub keep_going_read : WritesFlag (first_of (codes "keep-going") rows) keeps_going
  pub echo_read : WritesFlag (first_of (codes "echo") rows) echoes

-- the values of `chart` ask for the events of this lane, or of all, on the lines from one to another, numbers of 64 bits,
-- and what tells nothing new, too
pub record AsksChart (rows : List Row) (lane : Option LaneName) (from to : ℕ) (has_all has_levels : Bool) : Type 0 where
  pub lane_read : WritesLane (first_of (codes "lane") rows) lane
  pub from_read : WritesNumber 1 (first_of (codes "from") rows) from
  pub to_read : WritesNumber 18446744073709551615 (first_of (codes "to") rows) to
  pub ordered : from ≤ to
  pub fits : to < 2 ^ 64
  pub all_read : WritesFlag (first_of (codes "all") rows) has_all
  pub levels_read : WritesFlag (first_of (codes "levels") rows) has_levels

-- the values of `generate` ask for this storm, of a seed of 64 bits
pub record AsksGenerate (rows : List Row) (s : Storm) : Type 0 where
  pub seed_read : WritesGiven (first_of (codes "seed") rows) s.seed
  pub events_read : WritesGiven (first_of (codes "events") rows) s.events
  pub requesters_read : WritesNumber 3 (first_of (codes "requesters") rows) s.requesters
  pub lose_read : WritesNumber 0 (first_of (codes "lose") rows) s.lose
  pub corrupt_read : WritesNumber 0 (first_of (codes "corrupt") rows) s.corrupt
  pub block_read : WritesNumber 64 (first_of (codes "block") rows) s.block
  pub fits : s.seed < 2 ^ 64
  pub right : IsStorm s

-- the values of `sweep` ask for the storms from this one to that of the last seed, on so many threads, if any number is given
pub record AsksSweep (rows : List Row) (s : Storm) (last : ℕ) (workers : Option ℕ) : Type 0 where
  pub seeds_read : WritesSeeds (first_of (codes "seeds") rows) (s.seed, last)
  pub events_read : WritesGiven (first_of (codes "events") rows) s.events
  pub requesters_read : WritesNumber 3 (first_of (codes "requesters") rows) s.requesters
  pub lose_read : WritesNumber 0 (first_of (codes "lose") rows) s.lose
  pub corrupt_read : WritesNumber 0 (first_of (codes "corrupt") rows) s.corrupt
  pub block_read : WritesNumber 64 (first_of (codes "block") rows) s.block
  pub workers_read : WritesOptional (first_of (codes "workers") rows) workers
  pub ordered : s.seed ≤ last
  pub right : IsStorm s
  pub workers_right : IfSome workers (λ n. (1 ≤ n) × (n ≤ MOST_WORKERS))

-- the values of `run` ask for this counting
pub record AsksRun (rows : List Row) (c : Counting) : Type 0 where
  pub requesters_read : WritesGiven (first_of (codes "requesters") rows) c.requesters
  pub each_read : WritesGiven (first_of (codes "each") rows) c.each
  pub lose_read : WritesNumber 0 (first_of (codes "lose") rows) c.lose
  pub corrupt_read : WritesNumber 0 (first_of (codes "corrupt") rows) c.corrupt
  pub turns_read : WritesNumber 50000000 (first_of (codes "turns") rows) c.turns
  pub workers_read : WritesOptional (first_of (codes "workers") rows) c.workers
  pub right : IsCounting c

-- the subcommand with its values asks for this
abbrev pub Asks : Option (Text × List Row) → Request → Type 0
Asks None request = ⊥
Asks (Some p) (Tlp x) = (p.0 ≡ codes "tlp") × AsksTlp p.1 x
Asks (Some p) (Endpoint s is_traced) = (p.0 ≡ codes "endpoint") × AsksEndpoint p.1 s × WritesFlag (first_of (codes "trace") p.1) is_traced × IsUnlinked p.1
Asks (Some p) (Linked s is_traced ours has_crc) =
    (p.0 ≡ codes "endpoint") × AsksEndpoint p.1 s × WritesFlag (first_of (codes "trace") p.1) is_traced × IsLinked p.1 ours has_crc
Asks (Some p) Decode = p.0 ≡ codes "decode"
Asks (Some p) Encode = p.0 ≡ codes "encode"
Asks (Some p) (Check is_clocked) = (p.0 ≡ codes "check") × WritesFlag (first_of (codes "clocked") p.1) is_clocked
Asks (Some p) (Search limit work size output is_told) =
    (p.0 ≡ codes "search") × AsksSearch p.1 limit work size × WritesOutput p.1 output × WritesFlag (first_of (codes "progress") p.1) is_told
Asks (Some p) (Draw from to) = (p.0 ≡ codes "draw") × AsksDraw p.1 from to
Asks (Some p) Upgrade = p.0 ≡ codes "upgrade"
Asks (Some p) (Step is_traced keeps_going echoes) = (p.0 ≡ codes "step") × AsksStep p.1 is_traced keeps_going echoes
Asks (Some p) (Chart lane from to has_all has_levels) = (p.0 ≡ codes "chart") × AsksChart p.1 lane from to has_all has_levels
Asks (Some p) (Generate storm) = (p.0 ≡ codes "generate") × AsksGenerate p.1 storm
Asks (Some p) (Sweep storm last is_clocked keeps_going workers) =
    (p.0 ≡ codes "sweep") × AsksSweep p.1 storm last workers × WritesFlag (first_of (codes "clocked") p.1) is_clocked × WritesFlag (first_of (codes "keep-going") p.1) keeps_going
Asks (Some p) (Run counting is_told) = (p.0 ≡ codes "run") × AsksRun p.1 counting × WritesFlag (first_of (codes "progress") p.1) is_told
