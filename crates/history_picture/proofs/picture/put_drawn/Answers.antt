use Rattle.std.proofs.Common.{◌∙◌, ◌++◌, ap, List, ℕ}
use Rattle.svg_text.specs.Shapes.{shapes_text}
use Rattle.history_bars.specs.declared.signs.Signs.{Signs}
use Rattle.history_bars.specs.Signs.{signs_of}
use Rattle.history_bars.proofs.Steps.{both}
use Rattle.history_picture.specs.Picture.{body, heading}
use Rattle.history_picture.proofs.picture.put_drawn.Goals as goal

pub returns-clause-shapes : goal.returns-clause-shapes
returns-clause-shapes c =
    let v = c.args.drawn.now.view.now in
    let rs = c.args.drawn.now.records.now in
    let h = c.args.drawn.now.history.now in
    let f = c.args.drawn.now.finding in
    let below = body v rs h f in
    let o = c.args.out.now.items in
    let p = c.put_heading.new.out.items in
    both o p c.extend_from_slice.new.self.items (heading v rs h f (signs_of below)) below
    (c.in_ok-put_heading.ensures ∙ ap (λ (s : Signs). o ++ shapes_text (heading v rs h f s)) c.in_ok-bottom.ensures.signs)
    (c.in_ok-extend_from_slice.ensures.items
    ∙ ap (λ (t : List ℕ). p ++ t) (c.as_slice.ensures.value ∙ c.in_ok-bottom.ensures.shapes ∙ ap (λ (t : List ℕ). t ++ shapes_text below) c.new-body.ensures.items))
