use Rattle.std.proofs.Common.{◌∙◌, ◌++◌, ap, length, List, ℕ}
use Rattle.svg_text.specs.Shapes.{shapes_text}
use Rattle.chart_rows.specs.declared.layout.Point.{Point}
use Rattle.chart_rows.specs.declared.row.Row.{Row}
use Rattle.chart_rows.specs.declared.row.Open.{Open}
use Rattle.chart_rows.specs.PageView.{PageView}
use Rattle.chart_page.specs.Legend.{legend, legend_end}
use Rattle.chart_page.specs.Shapes.{heading, omitted_place, omitted_said, shown_left, rows_said}
use Rattle.chart_page.proofs.Steps.{both}
use Rattle.chart_page.proofs.page.put_heading.Goals as goal

pub returns : goal.returns
returns c =
    let o = c.args.out.now.items in
    let inside = c.page.inside in
    let rs = c.as_slice-rows.result.now in
    let os = c.as_slice.result.now in
    let p1 = c.put_legend.new.out.items in
    let p2 = c.put_omitted.new.out.items in
    let end = c.in_ok-end.ensures.end in
    both o p1 c.put_shown.new.out.items (legend rs os) _ c.in_ok-end.ensures.shapes
    (both p1 p2 c.put_shown.new.out.items (omitted_said (omitted_place (legend_end rs os)) inside.omitted) (rows_said (shown_left (legend_end rs os) inside.omitted) inside.before (length rs) inside.after)
    (c.in_ok-put_omitted.ensures ∙ ap (λ (at : Point). p1 ++ shapes_text (omitted_said at inside.omitted)) c.omitted_place.ensures
    ∙ ap (λ (x : ℕ). p1 ++ shapes_text (omitted_said (omitted_place x) inside.omitted)) end)
    (c.in_ok-put_shown.ensures ∙ ap (λ (x : ℕ). p2 ++ shapes_text (rows_said x inside.before (length rs) inside.after)) c.shown_left-left.ensures
    ∙ ap (λ (x : ℕ). p2 ++ shapes_text (rows_said (shown_left x inside.omitted) inside.before (length rs) inside.after)) end))
    ∙ ap (λ (l : List Row). o ++ shapes_text (heading (record { frame = inside.frame; letters = inside.letters; rows = l; opens = os; before = inside.before; after = inside.after; omitted = inside.omitted }))) c.as_slice-rows.ensures.value
    ∙ ap (λ (l : List Open). o ++ shapes_text (heading (record { frame = inside.frame; letters = inside.letters; rows = inside.rows.items; opens = l; before = inside.before; after = inside.after; omitted = inside.omitted }))) c.as_slice.ensures.value
    ∙ ap (λ (v : PageView). o ++ shapes_text (heading v)) c.page.view_is
