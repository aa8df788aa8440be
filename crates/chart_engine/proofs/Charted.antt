-- What is written is a chart, and nothing before it.
use Rattle.std.proofs.Common.{◌≡◌, ◌∙◌, ◌++◌, ℕ, Bool, true, false, List, [], ◌∷◌, length, sym, ap, subst, refl, fold, cond}
use Rattle.std.proofs.lemmas.List.{append-nil}
use Rattle.std.specs.Io.KnownBytes.{Appends}
use Rattle.std.specs.Prelude.{nat_lt, Option, Some, None}
use Rattle.hex_text.specs.Lines.{lines_of, bare, said}
use Rattle.line_loop.specs.Run.{Run, after_line, new_run, run_of}
use Rattle.svg_text.specs.Shapes.{Shape, page_text}
use Rattle.svg_text.specs.Xml.{IsDocument}
use Rattle.chart_links.specs.declared.window.ChartWindow.{ChartWindow}
use Rattle.chart_engine.specs.declared.chart.Session.{Session}
use Rattle.chart_engine.specs.Chart as spec
use Rattle.chart_engine.specs.Chart.{CharterView, chart_responses, out_chart, WritesDocument}
use Rattle.chart_engine.specs.Events.{IsOfEvents, WritesEvents}

-- a line more, and nothing is written
silent_line : (t : Bool) (run : Run CharterView) (line : List ℕ) → run.text ≡ []
    → run.text ++ (cond t (chart_responses.on_long_line run.state) (chart_responses.on_line run.state (said line))).text ≡ []
silent_line true run line e = append-nil run.text ∙ e
silent_line false run line e = append-nil run.text ∙ e

silent : (ls : List (List ℕ)) (run : Run CharterView) → run.text ≡ [] → (fold (after_line chart_responses) run ls).text ≡ []
silent [] run e = e
silent (l ∷ ls) run e = silent ls (after_line chart_responses run l) (silent_line (nat_lt 512 (length (bare l))) run l e)

pub quiet_before : (w : ChartWindow) (input : List ℕ) → (fold (after_line chart_responses) (new_run (spec.new_script w)) (lines_of input)).text ≡ []
quiet_before w input = silent (lines_of input) (new_run (spec.new_script w)) refl

abbrev Pages : Type 0
Pages = (width height : ℕ) (shapes : List Shape) → IsDocument (page_text width height shapes)

shown : Pages → (o : Option Session) (red : Bool) (title : List ℕ) → IsDocument (spec.text_below o red title)
shown pages None red title = pages _ _ _
shown pages (Some p) red title = pages _ _ _

pub well_charted : Pages → (window : ChartWindow) (input : List ℕ) → IsDocument (out_chart window input).text
well_charted pages window input =
    let start : CharterView = spec.new_script window in
    let read : Run CharterView = fold (after_line chart_responses) (new_run start) (lines_of input) in
    let quiet : read.text ≡ [] = silent (lines_of input) (new_run start) (λ i. []) in
    subst IsDocument (ap (λ (t : List ℕ). t ++ (spec.text_of read.state.session read.state.ending)) (sym quiet)) (shown pages read.state.session (spec.is_red read.state.ending) (spec.title_of read.state.ending))

pub document-written : (window : ChartWindow) (start : CharterView) (read : List ℕ) (out out' : Option (List ℕ)) → start ≡ spec.new_script window
    → ((w : ChartWindow) (input : List ℕ) → IsDocument (out_chart w input).text) → Appends out out' (run_of chart_responses start read).text → WritesDocument out out'
document-written window start read out out' is all written = record {
  text = (run_of chart_responses start read).text;
  written = written;
  document = subst (λ (s : CharterView). IsDocument (run_of chart_responses s read).text) (sym is) (all window read);
}

pub events-written : (window : ChartWindow) (start : CharterView) (read : List ℕ) (out out' : Option (List ℕ)) → start ≡ spec.new_script window
    → ((w : ChartWindow) (input : List ℕ) → IsOfEvents w (out_chart w input).text) → Appends out out' (run_of chart_responses start read).text → WritesEvents window out out'
events-written window start read out out' is all written = record {
  text = (run_of chart_responses start read).text;
  written = written;
  of_events = subst (λ (s : CharterView). IsOfEvents window (run_of chart_responses s read).text) (sym is) (all window read);
}
