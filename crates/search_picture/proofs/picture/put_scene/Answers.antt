use Rattle.std.proofs.Common.{◌∙◌, ◌++◌, ap, ap₂, ℕ, List, length, take}
use Rattle.svg_text.specs.Shapes.{page_text, shapes_text}
use Rattle.search_picture.specs.declared.scene.Arrow.{Arrow}
use Rattle.search_picture.specs.declared.scene.Line.{Line}
use Rattle.search_picture.specs.declared.scene.PictureRequest.{PictureRequest}
use Rattle.search_picture.specs.declared.signs.Marks.{Marks}
use Rattle.search_picture.specs.Picture.{arrows_of, columns_of, height_of, marks_of, page_width, requests_of, shapes_of}
use Rattle.search_picture.proofs.picture.put_scene.Goals as goal

pub returns-clause-ok : goal.returns-clause-ok
returns-clause-ok c =
    let s = c.args.scene.now in
    let w = c.shown_of-what.result in
    let e = c.shown_of-what.ensures in
    let o = c.args.out.now.items in
    let shown : (cs : List ℕ) → (rs : List PictureRequest) → (ps : List Arrow) → (ls : List Line) → List ℕ =
    λ cs rs ps ls. page_text (page_width cs (marks_of rs ps) (length (take 80 s.places.items))) (height_of rs ls) (shapes_of s.title.items s.note.items s.places.items cs rs ps ls) in
    let ss = shapes_of s.title.items s.note.items s.places.items w.columns.now w.requests.now w.arrows.now w.lines.now in
    c.in_ok-put_page.ensures.ok ss (c.in_ok-put_shapes.ensures ∙ ap (λ (t : List ℕ). t ++ shapes_text ss) c.new-shapes.ensures.items)
    ∙ ap (λ (n : ℕ). o ++ page_text n c.height_of-height.result ss)
    (c.page_width-width.ensures ∙ ap₂ (λ (m : Marks). λ (t : List ℕ). page_width w.columns.now m (length (take 80 t))) c.marks_of-marks.ensures c.as_slice.ensures.value)
    ∙ ap (λ (n : ℕ). o ++ page_text (page_width w.columns.now (marks_of w.requests.now w.arrows.now) (length (take 80 s.places.items))) n ss) c.height_of-height.ensures
    ∙ ap (λ (cs : List ℕ). o ++ shown cs w.requests.now w.arrows.now w.lines.now) e.columns
    ∙ ap (λ (rs : List PictureRequest). o ++ shown (columns_of s) rs w.arrows.now w.lines.now) e.requests
    ∙ ap (λ (ps : List Arrow). o ++ shown (columns_of s) (requests_of s) ps w.lines.now) e.arrows
    ∙ ap (λ (ls : List Line). o ++ shown (columns_of s) (requests_of s) (arrows_of s) ls) e.lines
