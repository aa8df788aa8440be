use Rattle.std.proofs.Common.{◌∙◌, ◌++◌, ap, List}
use Rattle.svg_text.specs.Shapes.{shapes_text}
use Rattle.chart_rows.specs.declared.row.Row.{Row}
use Rattle.chart_rows.specs.declared.row.Open.{Open}
use Rattle.chart_rows.specs.PageView.{PageView}
use Rattle.chart_page.specs.Shapes.{title, heading, body}
use Rattle.chart_page.proofs.Steps.{both}
use Rattle.chart_page.proofs.page.put_chart_shapes.Goals as goal

pub returns : goal.returns
returns c =
    let inside = c.page.inside in
    let p1 = c.put_title.new.out.items in
    let p2 = c.put_heading.new.out.items in
    let last = c.put_body.new.out.items in
    both c.args.out.now.items p1 last (title c.args.is_red c.args.title.now) _ c.in_ok-put_title.ensures
    (both p1 p2 last (heading c.args.page.now) (body c.args.page.now.frame c.args.page.now.rows c.args.page.now.opens) c.in_ok-put_heading.ensures
    (c.in_ok-put_body.ensures
    ∙ ap (λ (rs : List Row). p2 ++ shapes_text (body inside.frame rs c.as_slice-opens.result.now)) c.as_slice-rows.ensures.value
    ∙ ap (λ (os : List Open). p2 ++ shapes_text (body inside.frame inside.rows.items os)) c.as_slice-opens.ensures.value
    ∙ ap (λ (v : PageView). p2 ++ shapes_text (body v.frame v.rows v.opens)) c.page.view_is))
