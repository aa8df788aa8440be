use Rattle.std.proofs.Common.{◌≡◌, ◌∙◌, ◌++◌, ap, sym, ℕ, List}
use Rattle.std.specs.Prelude.{Option}
use Rattle.seq_memory.specs.Entries.{Entry}
use Rattle.history_words.specs.declared.flaws.Flaw.{Flaw}
use Rattle.svg_text.specs.Shapes.{shapes_text}
use Rattle.history_bars.specs.declared.signs.Signs.{Signs}
use Rattle.history_bars.specs.Bars.{rows, requesters, bottom_of}
use Rattle.history_bars.specs.Signs.{signs_of, joined}
use Rattle.history_bars.proofs.Steps.{both}
use Rattle.history_bars.proofs.Occurring.{joined-silent, none-joined, signs-append}
use Rattle.history_picture.specs.Picture.{entries, mark_shapes, width_of, flaw_of, shown_entries}
use Rattle.history_picture.proofs.Steps.{mark-signs}
use Rattle.history_picture.proofs.picture.put_body.Goals as goal

pub returns-clause-shapes : goal.returns-clause-shapes
returns-clause-shapes c =
    let v = c.args.drawn.now.view.now in
    let rs = c.args.drawn.now.records.now in
    let h = c.args.drawn.now.history.now in
    let o = c.args.out.now.items in
    let p = c.put_entries.new.out.items in
    let q = c.extend_from_slice.new.self.items in
    both o p c.put_mark.new.out.items (entries v (bottom_of v rs h) 0 (shown_entries v.scale h)) _
    (c.in_ok-signs.ensures.shapes ∙ ap (λ (b : ℕ). o ++ shapes_text (entries v b 0 c.shown_entries.result.now)) c.in_ok-bottom.ensures.bottom
    ∙ ap (λ (es : List Entry). o ++ shapes_text (entries v (bottom_of v rs h) 0 es)) c.shown_entries.ensures.shown)
    (both p q c.put_mark.new.out.items (rows v (width_of v) rs h 130 requesters) (mark_shapes v.scale rs (flaw_of c.args.drawn.now.finding) (bottom_of v rs h))
    (c.in_ok-extend_from_slice.ensures.items
    ∙ ap (λ (t : List ℕ). p ++ t) (c.as_slice.ensures.value ∙ c.in_ok-bottom.ensures.shapes
    ∙ ap (λ (t : List ℕ). t ++ shapes_text (rows v c.width_of.result rs h 130 requesters)) c.new-rows.ensures.out
    ∙ ap (λ (w : ℕ). shapes_text (rows v w rs h 130 requesters)) c.width_of.ensures))
    (c.in_ok-put_mark.ensures ∙ ap (λ (b : ℕ). q ++ shapes_text (mark_shapes v.scale rs c.flaw_of-flaw.result b)) c.in_ok-bottom.ensures.bottom
    ∙ ap (λ (f : Option Flaw). q ++ shapes_text (mark_shapes v.scale rs f (bottom_of v rs h))) c.flaw_of-flaw.ensures))

pub returns-clause-signs : goal.returns-clause-signs
returns-clause-signs c =
    let v = c.args.drawn.now.view.now in
    let rs = c.args.drawn.now.records.now in
    let h = c.args.drawn.now.history.now in
    let b = bottom_of v rs h in
    let first = entries v b 0 (shown_entries v.scale h) in
    let all = rows v (width_of v) rs h 130 requesters in
    let last = mark_shapes v.scale rs (flaw_of c.args.drawn.now.finding) b in
    let first_is : c.in_ok-signs.signs ≡ signs_of first =
    c.in_ok-signs.ensures.signs ∙ ap (λ (b : ℕ). signs_of (entries v b 0 c.shown_entries.result.now)) c.in_ok-bottom.ensures.bottom
    ∙ ap (λ (es : List Entry). signs_of (entries v b 0 es)) c.shown_entries.ensures.shown in
    let rows_are : c.put_rows.new.drawing.signs ≡ signs_of all =
    c.in_ok-bottom.ensures.signs ∙ ap (λ (s : Signs). joined s (signs_of (rows v c.width_of.result rs h 130 requesters))) c.new-rows.ensures.signs
    ∙ none-joined (signs_of (rows v c.width_of.result rs h 130 requesters)) ∙ ap (λ (w : ℕ). signs_of (rows v w rs h 130 requesters)) c.width_of.ensures in
    c.joined.ensures ∙ ap (λ (s : Signs). joined s c.put_rows.new.drawing.signs) first_is ∙ ap (joined (signs_of first)) rows_are
    ∙ ap (joined (signs_of first)) (sym (joined-silent all last (mark-signs v.scale rs (flaw_of c.args.drawn.now.finding) b)))
    ∙ sym (signs-append first (all ++ last))
