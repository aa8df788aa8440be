use Rattle.std.proofs.Common.{◌∙◌, ◌+◌, ◌++◌, ap, ℕ, List}
use Rattle.svg_text.specs.Shapes.{page_text, shapes_text}
use Rattle.history_picture.specs.Picture.{drawn, width_of}
use Rattle.history_picture.proofs.picture.put_whole.Goals as goal

pub returns-clause-ok : goal.returns-clause-ok
returns-clause-ok c =
    let ss = drawn c.args.drawn.now.view.now c.args.drawn.now.records.now c.args.drawn.now.history.now c.args.drawn.now.finding in
    let o = c.args.out.now.items in
    c.in_ok-put_page.ensures.ok ss (c.in_ok-bottom.ensures.shapes ∙ ap (λ (t : List ℕ). t ++ shapes_text ss) c.new-shapes.ensures.items)
    ∙ ap (λ (w : ℕ). o ++ page_text w (c.in_ok-bottom.bottom + 30) ss) c.width_of.ensures
    ∙ ap (λ (b : ℕ). o ++ page_text (width_of c.args.drawn.now.view.now) (b + 30) ss) c.in_ok-bottom.ensures.bottom
