use Rattle.std.proofs.Common.{◌∙◌, ◌++◌, ap, length, List, ℕ}
use Rattle.std.proofs.lemmas.Result.{on_ok_weaker}
use Rattle.svg_text.specs.Shapes.{shapes_text}
use Rattle.chart_rows.specs.PageView.{PageView}
use Rattle.chart_page.specs.Shapes.{shapes}
use Rattle.chart_links.specs.CourseView.{CourseView}
use Rattle.chart_links.specs.ChartView.{ChartView, with_left, page_of, titled}
use Rattle.chart_links.specs.Levels.{levelled_text}
use Rattle.chart_links.proofs.chart.Chart.put.Goals as goal

pub returns-clause-ok : goal.returns-clause-ok
returns-clause-ok c =
    let o = c.args.out.now.items in
    let title = c.args.title.now in
    let lines = c.args.lines.now in
    let ss = shapes c.add_rest.new.page c.args.is_red c.as_slice-2.result.now in
    on_ok_weaker c.put_levelled_page.result
    (λ d. d ss (c.in_ok-put_chart_shapes.ensures ∙ ap (λ (t : List ℕ). t ++ shapes_text ss) c.new-shapes.ensures.items)
    ∙ ap (λ (l : List ℕ). o ++ levelled_text c.add_rest.new.page lines c.args.is_red l)
    (c.as_slice-2.ensures.value ∙ c.in_ok-line.ensures ∙ ap (λ (v : ChartView). titled v title) c.self.view_is)
    ∙ ap (λ (p : PageView). o ++ levelled_text p lines c.args.is_red (titled c.args.self title))
    (c.in_ok-add_rest.ensures.page ∙ ap (λ (cs : List CourseView). with_left cs (length lines) c.self.inside.page) c.as_slice.ensures.value ∙ ap (λ (v : ChartView). page_of v (length lines)) c.self.view_is))
    c.put_levelled_page.ensures.ok
