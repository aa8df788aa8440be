use Rattle.std.proofs.Common.{◌∙◌, ◌++◌, ap, ap₂, ℕ}
use Rattle.svg_text.specs.Shapes.{shapes_text}
use Rattle.search_picture.specs.Picture.{bar_shapes, place_shapes, text_shapes, top_of, x_at}
use Rattle.search_picture.proofs.Steps.{both}
use Rattle.search_picture.proofs.requests.put_request.Goals as goal

pub returns : goal.returns
returns c =
    let r = c.args.request.now in
    let o = c.args.out.now.items in
    let p = c.put_bar.new.out.items in
    let q = c.put_texts.new.out.items in
    let last = c.put_place.new.out.items in
    let at = c.top_of-top.ensures.at in
    both o p last (bar_shapes (top_of c.args.row) r) _ (c.in_ok-put_bar.ensures ∙ ap (λ (t : ℕ). o ++ shapes_text (bar_shapes t r)) at)
    (both p q last (text_shapes (top_of c.args.row) r) (place_shapes r.place (x_at r.from) (top_of c.args.row))
    (c.in_ok-put_texts.ensures ∙ ap (λ (t : ℕ). p ++ shapes_text (text_shapes t r)) at)
    (c.in_ok-put_place.ensures ∙ ap₂ (λ (x : ℕ). λ (t : ℕ). q ++ shapes_text (place_shapes r.place x t)) c.x_at.ensures.at at))
