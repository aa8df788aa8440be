-- What the program does for what its words ask for.
use Rattle.std.specs.Prelude.{◌≡◌, ◌≢◌, ◌⊎◌, ℕ, true, false, not, List, [], ◌∷◌, Option}
use Rattle.clap.specs.Words.{Kinds}
use Rattle.clap.specs.declared.error.kind.ErrorKind.TheVariants as kinds
use Rattle.cli_words.specs.declared.outputs.SearchOutput.{SearchOutput}
use Rattle.cli_words.specs.declared.outputs.SearchOutput.TheVariants as outputs
use Rattle.cli_words.specs.declared.words.Request.{Request}
use Rattle.cli_words.specs.declared.words.Request.TheVariants.{Tlp, Endpoint, Linked, Decode, Encode, Check, Search, Draw, Upgrade, Step, Chart, Generate, Sweep, Run}
use Rattle.parameters.specs.Ranges.{IsCounting}
use Rattle.line_loop.specs.Run.{IsRun}
use Rattle.cli_commands.specs.declared.one_thread.Outcome.{Outcome}
use Rattle.cli_commands.specs.declared.one_thread.Outcome.TheVariants as outcomes
use Rattle.chart_engine.specs.Chart.{out_chart}
use Rattle.draw_engine.specs.Draw.{out_draw}
use Rattle.endpoint_engine.specs.Lines.{out_endpoint}
use Rattle.linked_engine.specs.Lines.{out_linked}
use Rattle.generate_engine.specs.Script.{IsWhole, IsPart}
use Rattle.packet_engine.specs.Lines.{out_decode, out_encode}
use Rattle.run_engine.specs.Text.{IsRan}
use Rattle.log_pieces.specs.declared.Granularity.{Granularity}
use Rattle.search_run.specs.declared.exploring.Bounds.{Bounds}
use Rattle.search_engine.specs.Search.{IsWholeFor, IsPartFor}
use Rattle.search_engine.specs.Drawn.{IsWholeDrawn, IsPartDrawn}
use Rattle.sweep_engine.specs.Ranges.{IsSweep}
use Rattle.sweep_engine.specs.Sweep.{IsSwept}
use Rattle.packet_engine.specs.Tlp.{out_tlp}
use Rattle.trace_engine.specs.Check.{out_check_with}
use Rattle.trace_engine.specs.Upgrade.{out_upgrade}
use Rattle.step_engine.specs.Step.{out_step_with}
use Rattle.parameters.specs.declared.storm.Storm.{Storm}
use Rattle.parameters.specs.Ranges.{IsStorm}

-- the script of a storm was written, or a prefix of one
abbrev pub IsGenerated : Storm → Option (List ℕ) → Option (List ℕ) → ℕ → Type 0
IsGenerated storm out out' exit = ((exit ≡ 0) × IsWhole storm out out') ⊎ ((exit ≡ 1) × IsPart storm out out')

-- a search wrote the whole answer, or part of it, by what it is to write
abbrev pub IsWholeAs : SearchOutput → Granularity → Bounds → Option (List ℕ) → Option (List ℕ) → Option (List ℕ) → Option (List ℕ) → ℕ → Type 0
IsWholeAs outputs.Answer size bounds input rest out out' exit = IsWholeFor false size bounds input rest out out' exit
IsWholeAs outputs.Core size bounds input rest out out' exit = IsWholeFor true size bounds input rest out out' exit
IsWholeAs outputs.Picture size bounds input rest out out' exit = IsWholeDrawn size bounds input rest out out' exit

abbrev pub IsPartAs : SearchOutput → Granularity → Bounds → Option (List ℕ) → Option (List ℕ) → Option (List ℕ) → Option (List ℕ) → Type 0
IsPartAs outputs.Answer size bounds input rest out out' = IsPartFor false size bounds input rest out out'
IsPartAs outputs.Core size bounds input rest out out' = IsPartFor true size bounds input rest out out'
IsPartAs outputs.Picture size bounds input rest out out' = IsPartDrawn size bounds input rest out out'

abbrev pub IsSearchedAs : SearchOutput → Granularity → Bounds → Option (List ℕ) → Option (List ℕ) → Option (List ℕ) → Option (List ℕ) → ℕ → Type 0
IsSearchedAs output size bounds input rest out out' exit = IsWholeAs output size bounds input rest out out' exit ⊎ ((exit ≡ 1) × IsPartAs output size bounds input rest out out')

-- the run of the subcommand, on the streams as they were and are, with its exit status
abbrev pub IsDone : Request → Option (List ℕ) → Option (List ℕ) → Option (List ℕ) → Option (List ℕ) → ℕ → Type 0
IsDone (Tlp x) input rest out out' exit = IsRun (out_tlp x) input rest out out' exit
IsDone (Endpoint s is_traced) input rest out out' exit = IsRun (out_endpoint s is_traced) input rest out out' exit
IsDone (Linked s is_traced ours has_crc) input rest out out' exit = IsRun (out_linked s ours has_crc is_traced) input rest out out' exit
IsDone Decode input rest out out' exit = IsRun out_decode input rest out out' exit
IsDone Encode input rest out out' exit = IsRun out_encode input rest out out' exit
IsDone (Check is_clocked) input rest out out' exit = IsRun (out_check_with is_clocked) input rest out out' exit
IsDone (Search limit work size output is_told) input rest out out' exit = IsSearchedAs output size (record { choices = limit; work = work }) input rest out out' exit
IsDone (Draw from to) input rest out out' exit = IsRun (out_draw (record { from = from; to = to })) input rest out out' exit
IsDone Upgrade input rest out out' exit = IsRun out_upgrade input rest out out' exit
IsDone (Step is_traced keeps_going echoes) input rest out out' exit =
    IsRun (out_step_with (record { is_traced = is_traced; keeps_going = keeps_going; echoes = echoes })) input rest out out' exit
IsDone (Chart lane from to has_all has_levels) input rest out out' exit =
    IsRun (out_chart (record { lane = lane; from = from; to = to; is_brief = not has_all; has_levels = has_levels })) input rest out out' exit
IsDone (Generate storm) input rest out out' exit = (rest ≡ input) × IsGenerated storm out out' exit
IsDone (Sweep storm last is_clocked keeps_going workers) input rest out out' exit =
    (rest ≡ input) × IsSwept (record { storm = storm; last = last; is_clocked = is_clocked; keeps_going = keeps_going; workers = workers }) out out' exit
IsDone (Run counting is_told) input rest out out' exit = (rest ≡ input) × IsRan counting out out' exit

-- the same of what one thread did, which leaves a run and a sweep undone
abbrev pub IsBegun : Request → Option (List ℕ) → Option (List ℕ) → Option (List ℕ) → Option (List ℕ) → Outcome → Type 0
IsBegun request input rest out out' (outcomes.Ended exit) = IsDone request input rest out out' exit
IsBegun request input rest out out' (outcomes.Run counting is_told) = (request ≡ Run counting is_told) × (rest ≡ input) × (out' ≡ out)
IsBegun request input rest out out' (outcomes.Sweep o) = (request ≡ Sweep o.storm o.last o.is_clocked o.keeps_going o.workers) × (rest ≡ input) × (out' ≡ out)

-- status 1 or 2
abbrev pub EndsWrong : Outcome → Type 0
EndsWrong (outcomes.Ended exit) = (exit ≡ 1) ⊎ (exit ≡ 2)
EndsWrong (outcomes.Run counting is_told) = ⊥
EndsWrong (outcomes.Sweep o) = ⊥

-- the numbers of a run, and of a sweep, are in their ranges
abbrev pub IsRight : Outcome → Type 0
IsRight (outcomes.Ended exit) = Unit {0}
IsRight (outcomes.Run counting is_told) = IsCounting counting
IsRight (outcomes.Sweep o) = IsSweep o

-- the numbers of what is asked for are in their ranges
abbrev pub IsRightRequest : Request → Type 0
IsRightRequest (Generate storm) = IsStorm storm
IsRightRequest (Sweep storm last is_clocked keeps_going workers) =
    IsSweep (record { storm = storm; last = last; is_clocked = is_clocked; keeps_going = keeps_going; workers = workers })
IsRightRequest (Run counting is_told) = IsCounting counting
IsRightRequest request = Unit {0}

-- no fault of the words asks for a text, that of `--help` or that of `--version`
abbrev pub AskForNoText : Kinds → Type 0
AskForNoText [] = Unit {0}
AskForNoText (k ∷ ks) = (k ≢ kinds.DisplayHelp) × (k ≢ kinds.DisplayVersion) × AskForNoText ks

-- the parser refuses the words, by a fault of one of these kinds, and they ask for no text
abbrev pub AreRefused : Kinds → Type 0
AreRefused faults = (faults ≢ []) × AskForNoText faults
