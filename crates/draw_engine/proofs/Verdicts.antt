-- What is drawn is what `check` tells.
use Rattle.std.proofs.Common.{◌≡◌, ◌∙◌, ◌++◌, ℕ, Bool, true, false, List, [], ◌∷◌, length, sym, ap, refl, subst, drop, fold, cond, Result, Ok, Err}
use Rattle.std.proofs.lemmas.List.{append-nil}
use Rattle.std.specs.Prelude.{nat_lt, codes, Option, Some, None, is_some}
use Rattle.history_words.specs.declared.flaws.FlawKind.{FlawKind}
use Rattle.history_words.specs.Claim.{Claim}
use Rattle.history_words.specs.Flaws.{first_flaw}
use Rattle.history_picture.specs.declared.scale.Window.{Window}
use Rattle.history_picture.specs.declared.flaws.Finding.{Finding}
use Rattle.history_picture.specs.Picture.{picture_text, line_text, view_of, width_of, height_of}
use Rattle.history_picture.specs.Notes.{line_words}
use Rattle.history_picture.specs.Picture as picture
use Rattle.hex_text.specs.Lines.{lines_of, bare, said}
use Rattle.line_loop.specs.Run.{Run, with_answer, after_line, new_run}
use Rattle.record_text.specs.declared.fault.ReadFault.{ReadFault}
use Rattle.trace_text.specs.TraceReaderView as read
use Rattle.record_text.specs.Names.{fault_line}
use Rattle.flaw_places.specs.Places.{flaw_line}
use Rattle.trace_engine.specs.Check.{judged, checked, check_responses, out_check}
use Rattle.trace_diagnostics.specs.Told.{TraceLinesView}
use Rattle.draw_engine.specs.Draw.{DrawerView, shows, drawn, finding_at, flaw_of, draw_responses, out_draw, start_of, SaysTheSame}

-- both have read the same, and nothing is written
record IsAlong (w : Window) (a : Run DrawerView) (b : Run read.TraceReaderView) : Type 0 where
  window : a.state.window ≡ w
  reading : a.state.reading ≡ b.state
  a_text : a.text ≡ []
  b_text : b.text ≡ []
  a_status : a.status ≡ 0
  b_status : b.status ≡ 0

step_by : (t : Bool) (w : Window) (a : Run DrawerView) (b : Run read.TraceReaderView) (line : List ℕ) → IsAlong w a b
    → IsAlong w (with_answer a (cond t (draw_responses.on_long_line a.state) (draw_responses.on_line a.state line)))
    (with_answer b (cond t (check_responses.on_long_line b.state) (check_responses.on_line b.state line)))
step_by true w a b line s = record {
  window = s.window;
  reading = ap read.after_long_line s.reading;
  a_text = append-nil a.text ∙ s.a_text;
  b_text = append-nil b.text ∙ s.b_text;
  a_status = s.a_status;
  b_status = s.b_status;
}
step_by false w a b line s = record {
  window = s.window;
  reading = ap (λ (r : read.TraceReaderView). read.after_line r line) s.reading;
  a_text = append-nil a.text ∙ s.a_text;
  b_text = append-nil b.text ∙ s.b_text;
  a_status = s.a_status;
  b_status = s.b_status;
}

along : (w : Window) (ls : List (List ℕ)) (a : Run DrawerView) (b : Run read.TraceReaderView) → IsAlong w a b
    → IsAlong w (fold (after_line draw_responses) a ls) (fold (after_line check_responses) b ls)
along w [] a b s = s
along w (l ∷ ls) a b s = along w ls (after_line draw_responses a l) (after_line check_responses b l) (step_by (nat_lt 512 (length (bare l))) w a b (said l) s)

-- the picture of a trace, by its first flaw
of_flaw : (w : Window) (lines : TraceLinesView) (c : Claim) (o : Option (FlawKind × ℕ)) (d : DrawerView) (a : Run DrawerView) (b : Run read.TraceReaderView) → IsAlong w a b
    → SaysTheSame (with_answer a (shows d (picture_text w c (finding_at lines c (flaw_of o))) (is_some o))) (with_answer b (judged o))
unfolding picture_text
of_flaw w lines c None d a b s = record {
  line = codes "ok";
  more = [];
  flawed = false;
  width = width_of (view_of w c None);
  height = height_of (view_of w c None) c.records c.memory.entries;
  below = drop 1 (picture.drawn (view_of w c None) c.records c.memory.entries None);
  told = ap (λ (t : List ℕ). t ++ (codes "ok" ++ 10 ∷ [])) s.b_text;
  drawn_as = ap (λ (t : List ℕ). t ++ picture_text w c None) s.a_text;
  check_status = s.b_status;
  draw_status = s.a_status;
}
of_flaw w lines c (Some f) d a b s =
    let finding : Option Finding = finding_at lines c (flaw_of (Some f)) in
    record {
      line = flaw_line f.0 f.1;
      more = line_words finding;
      flawed = true;
      width = width_of (view_of w c (flaw_of (Some f)));
      height = height_of (view_of w c (flaw_of (Some f))) c.records c.memory.entries;
      below = drop 1 (picture.drawn (view_of w c (flaw_of (Some f))) c.records c.memory.entries finding);
      told = ap (λ (t : List ℕ). t ++ (flaw_line f.0 f.1 ++ 10 ∷ [])) s.b_text;
      drawn_as = ap (λ (t : List ℕ). t ++ picture_text w c finding) s.a_text;
      check_status = refl;
      draw_status = refl;
    }

ended : (w : Window) (d : DrawerView) (r : Result Claim ReadFault) (a : Run DrawerView) (b : Run read.TraceReaderView) → d.window ≡ w → IsAlong w a b
    → SaysTheSame (with_answer a (drawn d r)) (with_answer b (checked r))
ended w d (Err f) a b e s = record {
  line = fault_line f;
  more = [];
  flawed = true;
  width = 640;
  height = 40;
  below = [];
  told = ap (λ (t : List ℕ). t ++ (fault_line f ++ 10 ∷ [])) s.b_text;
  drawn_as = ap (λ (t : List ℕ). t ++ line_text (fault_line f)) s.a_text ∙ ap (λ (t : List ℕ). line_text t) (sym (append-nil (fault_line f)));
  check_status = refl;
  draw_status = refl;
}
ended w d (Ok c) a b e s =
    subst (λ (x : Window). SaysTheSame (with_answer a (shows d (picture_text x c (finding_at d.lines c (flaw_of (first_flaw c)))) (is_some (first_flaw c)))) (with_answer b (judged (first_flaw c)))) (sym e)
    (of_flaw w d.lines c (first_flaw c) d a b s)

pub same : (window : Window) (input : List ℕ) → SaysTheSame (out_draw window input) (out_check input)
same window input =
    let a : Run DrawerView = fold (after_line draw_responses) (new_run (start_of window)) (lines_of input) in
    let b : Run read.TraceReaderView = fold (after_line check_responses) (new_run read.nothing_read) (lines_of input) in
    let s : IsAlong window a b =
    along window (lines_of input) (new_run (start_of window)) (new_run read.nothing_read) (record { window = refl; reading = refl; a_text = refl; b_text = refl; a_status = refl; b_status = refl }) in
    subst (λ (r : read.TraceReaderView). SaysTheSame (with_answer a (drawn a.state (read.at_end a.state.reading))) (with_answer b (checked (read.at_end r)))) s.reading
    (ended window a.state (read.at_end a.state.reading) a b s.window s)
