-- What `draw` answers to the text of a trace.
use Rattle.std.specs.Prelude.{ℕ, ◌≡◌, List, [], ◌∷◌, ◌++◌, length, if◌then◌else◌, Bool, true, false, Option, Result, Ok, Err, option_map, is_some}
use Rattle.std.specs.Io.KnownBytes.{Appends}
use Rattle.history_words.specs.declared.flaws.Flaw.{Flaw}
use Rattle.history_words.specs.declared.flaws.FlawKind.{FlawKind}
use Rattle.history_words.specs.Claim.{Claim}
use Rattle.history_words.specs.Flaws.{first_flaw}
use Rattle.history_picture.specs.declared.scale.Window.{Window}
use Rattle.history_picture.specs.declared.flaws.Finding.{Finding}
use Rattle.history_picture.specs.Picture.{title_label, picture_text, line_text}
use Rattle.svg_text.specs.Shapes.{Shape, page_text}
use Rattle.svg_text.specs.Xml.{IsDocument}
use Rattle.record_text.specs.declared.fault.ReadFault.{ReadFault}
use Rattle.trace_text.specs.TraceReaderView.{TraceReaderView, nothing_read, after_line, after_long_line, at_end}
use Rattle.record_text.specs.Names.{fault_line}
use Rattle.trace_diagnostics.specs.Told.{TraceLinesView, nothing_numbered, numbered, line_of_flaw}
use Rattle.line_loop.specs.Run.{Answer, Responses, Run, run_of}

-- the window that is drawn, what was read so far, and on which lines
pub record DrawerView : Type 0 where
  pub window : Window
  pub reading : TraceReaderView
  pub lines : TraceLinesView

-- nothing is read
abbrev pub start_of : Window → DrawerView
start_of window = record { window = window; reading = nothing_read; lines = nothing_numbered }

-- a line is read, and nothing written
abbrev pub has_read : DrawerView → TraceReaderView → TraceLinesView → Answer DrawerView
has_read d reading lines = record { state = record d { reading = reading; lines = lines }; text = []; is_fault = false }

-- the text has ended: a picture is written, and nothing is left of what was read
abbrev pub shows : DrawerView → List ℕ → Bool → Answer DrawerView
shows d text is_fault = record { state = record d { reading = nothing_read }; text = text; is_fault = is_fault }

abbrev pub flaw_of : Option (FlawKind × ℕ) → Option Flaw
flaw_of o = option_map (λ f. record { kind = f.0; place = f.1 }) o

-- a flaw with its line
abbrev pub finding_at : TraceLinesView → Claim → Option Flaw → Option Finding
finding_at lines c flaw = option_map (λ f. record { flaw = f; line = line_of_flaw lines (length c.records) f.kind f.place }) flaw

-- a trace with its first flaw, if there is one, or else the line of what can't be read
abbrev pub drawn : DrawerView → Result Claim ReadFault → Answer DrawerView
drawn d (Err f) = shows d (line_text (fault_line f)) true
drawn d (Ok c) = shows d (picture_text d.window c (finding_at d.lines c (flaw_of (first_flaw c)))) (is_some (first_flaw c))

abbrev pub draw_responses : Responses DrawerView
draw_responses = record {
  on_line = λ d line. has_read d (after_line d.reading line) (numbered d.lines line);
  on_long_line = λ d. has_read d (after_long_line d.reading) d.lines;
  on_end = λ d. drawn d (at_end d.reading);
}

-- what was written is one well-formed document of XML
pub record WritesDocument (out out' : Option (List ℕ)) : Type 0 where
  pub text : List ℕ
  pub written : Appends out out' text
  pub document : IsDocument text

-- the whole run of `draw` on an input
abbrev pub out_draw : Window → List ℕ → Run DrawerView
out_draw window input = run_of draw_responses (start_of window) input

-- one run draws what another tells: the line stands above the picture, in red where the exit status is 1; of a flaw the
-- number of its line follows
pub record SaysTheSame {S : Type 0} (draw : Run DrawerView) (check : Run S) : Type 0 where
  pub line : List ℕ
  pub more : List ℕ
  pub flawed : Bool
  pub width : ℕ
  pub height : ℕ
  pub below : List Shape
  pub told : check.text ≡ line ++ 10 ∷ []
  pub drawn_as : draw.text ≡ page_text width height (Shape.Written (title_label flawed) (line ++ more) ∷ below)
  pub check_status : check.status ≡ (if flawed then 1 else 0)
  pub draw_status : draw.status ≡ (if flawed then 1 else 0)
