-- What is written is a picture, and nothing before it.
use Rattle.std.proofs.Common.{◌≡◌, ◌∙◌, ◌++◌, ℕ, Bool, true, false, List, [], ◌∷◌, length, sym, ap, ap₂, subst, fold, cond, Result, Ok, Err, IfOk, OnOk}
use Rattle.std.proofs.lemmas.List.{append-nil}
use Rattle.std.proofs.lemmas.Result.{IfOk-weaker}
use Rattle.std.specs.Io.KnownBytes.{Appends}
use Rattle.std.specs.Prelude.{nat_lt, is_some, Option}
use Rattle.history_words.specs.Claim.{Claim}
use Rattle.history_words.specs.Flaws.{first_flaw}
use Rattle.history_picture.specs.Picture.{picture_text, line_text}
use Rattle.record_text.specs.Names.{fault_line}
use Rattle.history_picture.specs.declared.scale.Window.{Window}
use Rattle.hex_text.specs.Lines.{lines_of, bare, said}
use Rattle.line_loop.specs.declared.verdict.Verdict.{Verdict}
use Rattle.line_loop.specs.declared.verdict.Verdict.TheVariants as verdicts
use Rattle.line_loop.specs.Run.{Answer, IsAnswer, is_fault, Run, after_line, new_run, run_of}
use Rattle.svg_text.specs.Shapes.{Shape, page_text}
use Rattle.svg_text.specs.Xml.{IsDocument}
use Rattle.record_text.specs.declared.fault.ReadFault.{ReadFault}
use Rattle.trace_text.specs.TraceReaderView.{nothing_read, at_end}
use Rattle.trace_diagnostics.specs.Told.{TraceLinesView}
use Rattle.draw_engine.specs.Draw.{DrawerView, finding_at, flaw_of, shows, drawn, draw_responses, out_draw, start_of, WritesDocument}

-- a line more, and nothing is written
silent_line : (t : Bool) (run : Run DrawerView) (line : List ℕ) → run.text ≡ []
    → run.text ++ (cond t (draw_responses.on_long_line run.state) (draw_responses.on_line run.state (said line))).text ≡ []
silent_line true run line e = append-nil run.text ∙ e
silent_line false run line e = append-nil run.text ∙ e

silent : (ls : List (List ℕ)) (run : Run DrawerView) → run.text ≡ [] → (fold (after_line draw_responses) run ls).text ≡ []
silent [] run e = e
silent (l ∷ ls) run e = silent ls (after_line draw_responses run l) (silent_line (nat_lt 512 (length (bare l))) run l e)

abbrev Pages : Type 0
Pages = (width height : ℕ) (shapes : List Shape) → IsDocument (page_text width height shapes)

-- a picture was written, and nothing is left of what was read
as_shown : {E : Type 0} (r : Result Verdict E) (d new : DrawerView) (read : Result Claim ReadFault) (text : List ℕ) (fault : Bool) (o p : List ℕ)
    → new ≡ record { window = d.window; reading = nothing_read; lines = d.lines } → drawn d read ≡ shows d text fault → OnOk r (p ≡ o ++ text) → IfOk r (λ verdict. is_fault verdict ≡ fault)
    → IfOk r (λ verdict. IsAnswer new o p verdict (drawn d read))
as_shown (Ok verdict) d new read text fault o p gone is written tells = record {
  state = gone ∙ ap (λ (a : Answer DrawerView). a.state) (sym is);
  text = written ∙ ap (λ (a : Answer DrawerView). o ++ a.text) (sym is);
  is_fault = tells ∙ ap (λ (a : Answer DrawerView). a.is_fault) (sym is);
}
as_shown (Err e) d new read text fault o p gone is written tells = tt

pub picture-shown : {E : Type 0} (r : Result Verdict E) (d new : DrawerView) (w : Window) (lines : TraceLinesView) (c : Claim) (o p : List ℕ)
    → new ≡ record { window = d.window; reading = nothing_read; lines = d.lines } → w ≡ d.window → lines ≡ d.lines → at_end d.reading ≡ Ok c
    → OnOk r (p ≡ o ++ picture_text w c (finding_at lines c (flaw_of (first_flaw c)))) → IfOk r (λ verdict. is_fault verdict ≡ is_some (first_flaw c))
    → IfOk r (λ verdict. IsAnswer new o p verdict (drawn d (at_end d.reading)))
picture-shown r d new w lines c o p gone same numbered read written tells =
    as_shown r d new (at_end d.reading) (picture_text w c (finding_at lines c (flaw_of (first_flaw c)))) (is_some (first_flaw c)) o p gone
    (ap (drawn d) read ∙ sym (ap₂ (λ (x : Window). λ (ls : TraceLinesView). shows d (picture_text x c (finding_at ls c (flaw_of (first_flaw c)))) (is_some (first_flaw c))) same numbered))
    written tells

pub fault-shown : {E : Type 0} (r : Result Verdict E) (d new : DrawerView) (f : ReadFault) (o p : List ℕ)
    → new ≡ record { window = d.window; reading = nothing_read; lines = d.lines } → at_end d.reading ≡ Err f → OnOk r (p ≡ o ++ line_text (fault_line f)) → IfOk r (λ verdict. verdict ≡ verdicts.Fault)
    → IfOk r (λ verdict. IsAnswer new o p verdict (drawn d (at_end d.reading)))
fault-shown r d new f o p gone read written tells = as_shown r d new (at_end d.reading) (line_text (fault_line f)) true o p gone (ap (drawn d) read) written
    (IfOk-weaker r _ _ (λ verdict is. ap is_fault is) tells)

shown : Pages → (d : DrawerView) (r : Result Claim ReadFault) → IsDocument (drawn d r).text
unfolding picture_text
shown pages d (Err f) = pages _ _ _
shown pages d (Ok c) = pages _ _ _

pub well_drawn : Pages → (window : Window) (input : List ℕ) → IsDocument (out_draw window input).text
well_drawn pages window input =
    let start : DrawerView = start_of window in
    let read : Run DrawerView = fold (after_line draw_responses) (new_run start) (lines_of input) in
    let quiet : read.text ≡ [] = silent (lines_of input) (new_run start) (λ i. []) in
    subst IsDocument (ap (λ (t : List ℕ). t ++ (drawn read.state (at_end read.state.reading)).text) (sym quiet)) (shown pages read.state (at_end read.state.reading))

pub document-written : (window : Window) (start : DrawerView) (read : List ℕ) (out out' : Option (List ℕ)) → start ≡ start_of window
    → ((w : Window) (input : List ℕ) → IsDocument (out_draw w input).text) → Appends out out' (run_of draw_responses start read).text → WritesDocument out out'
document-written window start read out out' is all written = record {
  text = (run_of draw_responses start read).text;
  written = written;
  document = subst (λ (s : DrawerView). IsDocument (run_of draw_responses s read).text) (sym is) (all window read);
}
