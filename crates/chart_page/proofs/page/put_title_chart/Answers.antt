use Rattle.std.proofs.Common.{◌∙◌, ◌++◌, ap, ℕ, List}
use Rattle.svg_text.specs.Shapes.{shapes_text}
use Rattle.chart_page.specs.Shapes.{title}
use Rattle.chart_page.proofs.page.put_title_chart.Goals as goal

pub returns-clause-ok : goal.returns-clause-ok
returns-clause-ok c =
    let ss = title c.args.is_red c.args.title.now in
    c.in_ok-put_page.ensures.ok ss (c.in_ok-put_title.ensures ∙ ap (λ (t : List ℕ). t ++ shapes_text ss) c.new-shapes.ensures.items)
