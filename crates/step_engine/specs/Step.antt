-- What `step` answers to the lines of a script.
use Rattle.std.specs.Prelude.{ℕ, ◌≡◌, ◌+◌, ◌-◌, ◌^◌, ◌&&◌, min, not, Bool, true, false, if◌then◌else◌, List, [], ◌∷◌, ◌++◌, fold, length, codes, Option, Some, None, Result, Ok, Err}
use Rattle.std.specs.Fmt.{decimal}
use Rattle.history_words.specs.Records.{Record}
use Rattle.history_words.specs.Claim.{Claim}
use Rattle.fabric_steps.specs.Fabric.{Fabric}
use Rattle.fabric_core.specs.declared.config.Config.{Config}
use Rattle.fabric_core.specs.declared.config.ConfigFault.{ConfigFault}
use Rattle.fabric_steps.specs.Event.{Event, Seen}
use Rattle.fabric_steps.specs.declared.fault.Refusal.{Refusal}
use Rattle.fabric_core.specs.Kept.{records_of}
use Rattle.fabric_core.specs.Answers.{answer}
use Rattle.fabric_core.specs.New.{new_fabric, config_fault}
use Rattle.hex_text.specs.Lines.{is_skipped}
use Rattle.operation_text.specs.Words.{words}
use Rattle.trace_text.specs.Texts.{trace_text}
use Rattle.script_text.specs.declared.line.Line.{Line}
use Rattle.script_text.specs.declared.line.Line.TheVariants as lines
use Rattle.script_text.specs.Forms.{line_of}
use Rattle.fabric_core.specs.Config.{fault_name}
use Rattle.script_text.specs.Names.{refusal_text}
use Rattle.script_text.specs.Texts.{seen_text, told_text, settled_text}
use Rattle.fabric_settle.specs.Keeping.{with_record}
use Rattle.fabric_settle.specs.Rounds.{Settling, settlement}
use Rattle.line_loop.specs.Run.{Answer, Responses, Run, run_of}
use Rattle.step_engine.specs.declared.options.StepOptions.{StepOptions}
use Rattle.step_engine.specs.Options.{plain}

-- a script so far: what is asked of its run, the fabric, the trace's records, the number of lines, skipped ones
-- counted, and whether the run has ended
pub record StepperView : Type 0 where
  pub options : StepOptions
  pub fabric : Option Fabric
  pub records : List Record
  pub lines : ℕ
  pub has_ended : Bool

-- the number of the line that comes next, a number of 64 bits
abbrev pub next_line : StepperView → ℕ
next_line s = min (s.lines + 1) (2 ^ 64 - 1)

-- one line more
abbrev pub counted : StepperView → StepperView
counted s = record s { lines = next_line s }

-- nothing is done, and nothing written
abbrev pub nothing : StepperView → Answer StepperView
nothing s = record { state = s; text = []; is_fault = false }

-- what answers a line is a line of its own, after the other where that is asked for
abbrev pub shown : Bool → List ℕ → List ℕ → List ℕ
shown echoes line text = (if echoes then line ++ codes " -> " else []) ++ (text ++ 10 ∷ [])

-- ---- what ends a run

abbrev pub fault_line : StepperView → List ℕ → List ℕ
fault_line s name = codes "fault " ++ (decimal (next_line s) ++ 32 ∷ name)

abbrev pub refused_line : StepperView → List ℕ → List ℕ
refused_line s name = codes "refused " ++ (decimal (next_line s) ++ 32 ∷ name)

-- the run ends with this text
abbrev pub ends : StepperView → List ℕ → Answer StepperView
ends s text = record { state = record s { lines = next_line s; has_ended = true }; text = text; is_fault = true }

abbrev pub fault : StepperView → List ℕ → Answer StepperView
fault s name = ends s (fault_line s name ++ 10 ∷ [])

abbrev pub no_line : StepperView → Answer StepperView
no_line s = fault s (codes "Script")

-- a refusal ends the run after this text; or the run goes on, and a trace has nothing of it
abbrev pub refused_by : Bool → StepperView → List ℕ → Answer StepperView
refused_by keeps_going s text = record {
  state = record s { lines = next_line s; has_ended = not keeps_going };
  text = if keeps_going && s.options.is_traced then [] else text;
  is_fault = true;
}

abbrev pub refused : StepperView → List ℕ → List ℕ → Answer StepperView
refused s line name = refused_by s.options.keeps_going s (shown s.options.echoes line (refused_line s name))

-- ---- the first line

abbrev pub made : StepperView → Config → Option ConfigFault → Answer StepperView
made s c (Some x) = fault s (fault_name x)
made s c None = record { state = record s { lines = next_line s; fabric = Some (new_fabric c) }; text = []; is_fault = false }

-- a script has one fabric
abbrev pub made_once : StepperView → Option Fabric → Config → Answer StepperView
made_once s None c = made s c (config_fault c)
made_once s (Some f) c = no_line s

-- ---- events

-- the result is told, or the trace grows
abbrev pub result_text : StepperView → List ℕ → Event → Seen → List ℕ
result_text s line event what = if s.options.is_traced then [] else shown s.options.echoes line (seen_text event what)

abbrev pub recorded : Bool → List Record → Event → Seen → ℕ → List Record
recorded traced rs event what n = if traced then rs ++ records_of event what n else rs

-- n is the length of the history before the event
abbrev pub told_of : StepperView → List ℕ → Event → Seen → ℕ → Answer StepperView
told_of s line event what n = record {
  state = record s { lines = next_line s; records = recorded s.options.is_traced s.records event what n };
  text = result_text s line event what;
  is_fault = false;
}

abbrev pub answered : StepperView → List ℕ → Event → ℕ → Result (Seen × Fabric) Refusal → Answer StepperView
answered s line event n (Ok p) = told_of (record s { fabric = Some p.1 }) line event p.0 n
answered s line event n (Err r) = refused s line (refusal_text r)

abbrev pub happened : StepperView → List ℕ → Option Fabric → Event → Answer StepperView
happened s line None event = no_line s
happened s line (Some f) event = answered s line event (length f.memory.entries) (answer f event)

-- ---- rounds of events until nothing moves

-- what is collected is told as by events, each in a line
unfoldable pub told_lines : Bool → List ℕ → List Record → List ℕ
told_lines echoes line [] = []
told_lines echoes line (r ∷ rs) = shown echoes line (told_text r) ++ told_lines echoes line rs

-- the records with those of what happened
abbrev pub recorded_all : List Record → Settling → List Record
recorded_all rs t = fold with_record rs t.happened

abbrev pub settled_lines : Bool → List ℕ → List Record → List ℕ
settled_lines echoes line answers = told_lines echoes line answers ++ shown echoes line settled_text

abbrev pub settles_telling : StepperView → List ℕ → Settling → Answer StepperView
settles_telling s line t = record { state = record s { lines = next_line s; fabric = Some t.fabric }; text = settled_lines s.options.echoes line (recorded_all [] t); is_fault = false }

abbrev pub settles_traced : StepperView → Settling → Answer StepperView
settles_traced s t = record { state = record s { lines = next_line s; fabric = Some t.fabric; records = recorded_all s.records t }; text = []; is_fault = false }

abbrev pub settled : StepperView → List ℕ → Option Fabric → Answer StepperView
settled s line None = no_line s
settled s line (Some f) = if s.options.is_traced then settles_traced s (settlement f) else settles_telling s line (settlement f)

-- ---- lines

abbrev pub by_line : StepperView → List ℕ → Option Line → Answer StepperView
by_line s line None = no_line s
by_line s line (Some (lines.Fabric c)) = made_once s s.fabric c
by_line s line (Some (lines.Event event)) = happened s line s.fabric event
by_line s line (Some lines.Settle) = settled s line s.fabric

-- after the end of the run nothing is read
abbrev pub step_line : StepperView → List ℕ → Answer StepperView
step_line s line =
    if s.has_ended then nothing s
    else (if is_skipped line then nothing (counted s) else by_line s line (line_of (words line)))

abbrev pub step_long_line : StepperView → Answer StepperView
step_long_line s = if s.has_ended then nothing s else no_line s

-- ---- the end

-- the fabric's memory has its history, and these are the records
abbrev pub claim_with : Fabric → List Record → Claim
claim_with f rs = record {
  memory = record { base = f.memory.base; size = f.memory.size; block = f.memory.block; entries = f.memory.entries };
  records = rs;
}

abbrev pub fabric_trace : Option Fabric → List Record → List ℕ
fabric_trace None rs = []
fabric_trace (Some f) rs = trace_text (claim_with f rs)

-- a run that ends well tells its trace, where that was asked for
abbrev pub step_end : StepperView → Answer StepperView
step_end s = record {
  state = record s { records = [] };
  text = if s.options.is_traced && not s.has_ended then fabric_trace s.fabric s.records else [];
  is_fault = false;
}

abbrev pub step_responses : Responses StepperView
step_responses = record { on_line = step_line; on_long_line = step_long_line; on_end = step_end }

abbrev pub new_script : StepOptions → StepperView
new_script options = record { options = options; fabric = None; records = []; lines = 0; has_ended = false }

-- the whole run of `step` on an input
abbrev pub out_step_with : StepOptions → List ℕ → Run StepperView
out_step_with options input = run_of step_responses (new_script options) input

-- the same with no option, or with `--trace` alone
abbrev pub out_step : Bool → List ℕ → Run StepperView
out_step traced input = out_step_with (plain traced) input
