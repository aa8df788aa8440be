use Rattle.std.proofs.Common.{◌∙◌, ◌++◌, ap₂, ℕ, List}
use Rattle.svg_text.specs.Shapes.{shapes_text}
use Rattle.search_picture.specs.declared.signs.Marks.{Marks}
use Rattle.search_picture.specs.Picture.{bars, ground, marks_of, signs, titles}
use Rattle.search_picture.proofs.Steps.{both}
use Rattle.search_picture.proofs.picture.put_shapes.Goals as goal

pub returns : goal.returns
returns c =
    let w = c.args.what.now in
    let s = c.args.scene.now in
    let o = c.args.out.now.items in
    let p = c.put_titles.new.out.items in
    let last = c.put_bars.new.out.items in
    both o p last (titles s.title.items s.note.items) _
    (c.in_ok-put_titles.ensures ∙ ap₂ (λ (a : List ℕ). λ (b : List ℕ). o ++ shapes_text (titles a b)) c.as_slice.ensures.value c.as_slice-2.ensures.value)
    (both p c.put_signs.new.out.items last (signs (marks_of w.requests.now w.arrows.now) s.places.items) _
    (c.in_ok-put_signs.ensures ∙ ap₂ (λ (m : Marks). λ (t : List ℕ). p ++ shapes_text (signs m t)) c.requires.marks c.as_slice-3.ensures.value)
    (both c.put_signs.new.out.items c.put_ground.new.out.items last (ground w.columns.now w.requests.now w.arrows.now) (bars w.requests.now w.arrows.now w.lines.now) c.in_ok-put_ground.ensures
    c.in_ok-put_bars.ensures))
