-- What `chart` answers to the lines of a script.
use Rattle.std.specs.Prelude.{ℕ, ◌+◌, ◌-◌, ◌^◌, min, Bool, true, false, if◌then◌else◌, List, [], ◌∷◌, ◌++◌, length, map, fold, codes, Option, Some, None, Result, Ok, Err}
use Rattle.std.specs.Fmt.{decimal}
use Rattle.std.specs.Io.KnownBytes.{Appends}
use Rattle.svg_text.specs.Xml.{IsDocument}
use Rattle.fabric_steps.specs.Fabric.{Fabric}
use Rattle.fabric_core.specs.declared.config.Config.{Config}
use Rattle.fabric_core.specs.declared.config.ConfigFault.{ConfigFault}
use Rattle.fabric_steps.specs.Event.{Event, Seen}
use Rattle.fabric_steps.specs.declared.fault.Refusal.{Refusal}
use Rattle.fabric_core.specs.Config.{fault_name}
use Rattle.fabric_core.specs.Answers.{answer}
use Rattle.fabric_core.specs.New.{new_fabric, config_fault}
use Rattle.fabric_settle.specs.Happenings.{Happening}
use Rattle.fabric_settle.specs.Rounds.{Settling, settlement}
use Rattle.hex_text.specs.Lines.{is_skipped}
use Rattle.operation_text.specs.Words.{words}
use Rattle.script_text.specs.declared.line.Line.{Line}
use Rattle.script_text.specs.declared.line.Line.TheVariants as lines
use Rattle.script_text.specs.Forms.{line_of}
use Rattle.script_text.specs.Names.{refusal_text}
use Rattle.chart_page.specs.Shapes.{title_text}
use Rattle.chart_levels.specs.StepLineView.{StepLineView}
use Rattle.chart_levels.specs.Levels.{shown}
use Rattle.chart_links.specs.declared.window.ChartWindow.{ChartWindow}
use Rattle.chart_links.specs.ChartView.{ChartView, new_chart, row_for, head_row, refused_row, charted, headed, refused, page_of, titled}
use Rattle.chart_links.specs.Levels.{new_lines, levelled_text}
use Rattle.line_loop.specs.Run.{Answer, Responses, Run, run_of}
use Rattle.chart_engine.specs.ChartWitnessView.{ChartWitnessView}
use Rattle.chart_engine.specs.declared.chart.Session.{Session}

-- ---- a chart and the step lines beside its rows

abbrev pub witness : ChartView → List StepLineView → ChartWitnessView
witness chart lines = record { chart = chart; lines = lines }

-- of a fabric to which nothing has happened
abbrev pub new_witness : ChartWindow → ℕ → ChartWitnessView
new_witness window requesters = witness (new_chart window requesters) (new_lines window requesters)

-- the step lines are shown the fabric after the event of a row
abbrev pub row_shown : Option ℕ → Fabric → List StepLineView → List StepLineView
row_shown None f lines = lines
row_shown (Some row) f lines = map (shown row f) lines

-- an event happened, and left the fabric
abbrev pub witnessed : ChartWitnessView → ℕ → Event → Seen → Fabric → ChartWitnessView
witnessed w line event what f = witness (charted w.chart line event what) (row_shown (row_for w.chart line event what) f w.lines)

-- it was refused by the fabric
abbrev pub refused_with : ChartWitnessView → ℕ → Event → Refusal → Fabric → ChartWitnessView
refused_with w line event r f = witness (refused w.chart line event r) (row_shown (refused_row w.chart line event) f w.lines)

-- that line of the script is a `settle`
abbrev pub settles_with : ChartWitnessView → ℕ → Fabric → ChartWitnessView
settles_with w line f = witness (headed w.chart line) (row_shown (head_row w.chart line) f w.lines)

-- the chart below a line, with the step lines behind its results
abbrev pub witness_text : ChartWitnessView → Bool → List ℕ → List ℕ
witness_text w red title = levelled_text (page_of w.chart (length w.lines)) w.lines red (titled w.chart title)

-- ---- a script

-- its fabric, and the chart of that
abbrev pub session : Fabric → ChartWitnessView → Session
session f chart = record { fabric = f; chart = chart }

-- a script so far: what is shown of it, its fabric with the chart, the number of lines, skipped ones counted, and the
-- fault or the refusal that ended its run
pub record CharterView : Type 0 where
  pub window : ChartWindow
  pub session : Option Session
  pub lines : ℕ
  pub ending : Option (List ℕ)

-- the number of the line that comes next, a number of 64 bits
abbrev pub next_line : CharterView → ℕ
next_line s = min (s.lines + 1) (2 ^ 64 - 1)

-- what a line leaves, and whether it is a fault; it writes nothing
abbrev pub quiet : CharterView × Bool → Answer CharterView
quiet l = record { state = l.0; text = []; is_fault = l.1 }

-- one line more
abbrev pub counted : CharterView → CharterView
counted s = record s { lines = next_line s }

-- the line did this to the fabric and its chart
abbrev pub goes_on : CharterView → Session → CharterView × Bool
goes_on s now = (record s { lines = next_line s; session = Some now }, false)

-- ---- what ends a run

abbrev pub told : CharterView → List ℕ → List ℕ → List ℕ
told s kind name = kind ++ (decimal (next_line s) ++ 32 ∷ name)

-- the run ends with this line
abbrev pub ends : CharterView → Option Session → List ℕ → CharterView × Bool
ends s now line = (record s { lines = next_line s; session = now; ending = Some line }, true)

abbrev pub fault : CharterView → List ℕ → CharterView × Bool
fault s name = ends s s.session (told s (codes "fault ") name)

abbrev pub no_line : CharterView → CharterView × Bool
no_line s = fault s (codes "Script")

-- ---- lines

abbrev pub made : CharterView → Config → Option ConfigFault → CharterView × Bool
made s c (Some x) = fault s (fault_name x)
made s c None = goes_on s (session (new_fabric c) (new_witness s.window c.requesters))

-- a script has one fabric
abbrev pub made_once : CharterView → Option Session → Config → CharterView × Bool
made_once s None c = made s c (config_fault c)
made_once s (Some now) c = no_line s

-- an event happens, or it is refused, which ends the run
abbrev pub answered : CharterView → Session → Event → Result (Seen × Fabric) Refusal → CharterView × Bool
answered s p event (Ok a) = goes_on s (session a.1 (witnessed p.chart (next_line s) event a.0 a.1))
answered s p event (Err r) =
    ends s (Some (session p.fabric (refused_with p.chart (next_line s) event r p.fabric))) (told s (codes "refused ") (refusal_text r))

abbrev pub happened : CharterView → Option Session → Event → CharterView × Bool
happened s None event = no_line s
happened s (Some p) event = answered s p event (answer p.fabric event)

-- a chart that is told what happened, as of that line
abbrev pub charted_of : ℕ → ChartWitnessView → Happening → ChartWitnessView
charted_of line chart h = witnessed chart line h.event h.what h.after

abbrev pub after_rounds : ℕ → ChartWitnessView → Settling → Session
after_rounds line chart t = session t.fabric (fold (charted_of line) chart t.happened)

-- its row, and rounds of events until nothing moves
abbrev pub settles : CharterView → Option Session → CharterView × Bool
settles s None = no_line s
settles s (Some p) = goes_on s (after_rounds (next_line s) (settles_with p.chart (next_line s) p.fabric) (settlement p.fabric))

abbrev pub by_line : CharterView → Option Line → CharterView × Bool
by_line s None = no_line s
by_line s (Some (lines.Fabric c)) = made_once s s.session c
by_line s (Some (lines.Event event)) = happened s s.session event
by_line s (Some lines.Settle) = settles s s.session

-- after the end of the run nothing is read
abbrev pub unless_ended : CharterView → Option (List ℕ) → CharterView × Bool → CharterView × Bool
unless_ended s None l = l
unless_ended s (Some line) l = (s, false)

abbrev pub chart_line : CharterView → List ℕ → Answer CharterView
chart_line s line = quiet (unless_ended s s.ending (if is_skipped line then (counted s, false) else by_line s (line_of (words line))))

abbrev pub chart_long_line : CharterView → Answer CharterView
chart_long_line s = quiet (unless_ended s s.ending (no_line s))

-- ---- the end

-- the line above a chart
abbrev pub title_of : Option (List ℕ) → List ℕ
title_of None = codes "the script ran to its end"
title_of (Some line) = line

abbrev pub is_red : Option (List ℕ) → Bool
is_red None = false
is_red (Some line) = true

-- a script without a fabric has the line alone
abbrev pub text_below : Option Session → Bool → List ℕ → List ℕ
text_below None red title = title_text red title
text_below (Some p) red title = witness_text p.chart red title

abbrev pub text_of : Option Session → Option (List ℕ) → List ℕ
text_of o ending = text_below o (is_red ending) (title_of ending)

abbrev pub chart_end : CharterView → Answer CharterView
chart_end s = record { state = record s { session = None }; text = text_of s.session s.ending; is_fault = false }

abbrev pub chart_responses : Responses CharterView
chart_responses = record { on_line = chart_line; on_long_line = chart_long_line; on_end = chart_end }

abbrev pub new_script : ChartWindow → CharterView
new_script window = record { window = window; session = None; lines = 0; ending = None }

-- what was written is one well-formed document of XML
pub record WritesDocument (out out' : Option (List ℕ)) : Type 0 where
  pub text : List ℕ
  pub written : Appends out out' text
  pub document : IsDocument text

-- the whole run of `chart` on an input
abbrev pub out_chart : ChartWindow → List ℕ → Run CharterView
out_chart window input = run_of chart_responses (new_script window) input
