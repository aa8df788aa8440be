use Rattle.std.proofs.Common.{◌∙◌, ◌++◌, ap, ℕ, List}
use Rattle.svg_text.specs.Shapes.{shapes_text}
use Rattle.history_picture.specs.Picture.{title}
use Rattle.history_picture.proofs.picture.put_line_picture.Goals as goal

pub returns-clause-ok : goal.returns-clause-ok
returns-clause-ok c =
    let ss = title c.args.words.now in
    c.in_ok-put_page.ensures.ok ss (c.in_ok-put_title.ensures ∙ ap (λ (o : List ℕ). o ++ shapes_text ss) c.new-shapes.ensures.items)
